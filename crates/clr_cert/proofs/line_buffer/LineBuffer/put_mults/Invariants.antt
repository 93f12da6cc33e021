use Rattle.std.proofs.Common.{◌≡◌, ◌≤◌, ◌+◌, ◌*◌, ◌++◌, length, map}
use Rattle.clr_num.specs.Lists.{numbers}
use Rattle.clr_cert.specs.Lines.{number_fields}
use Rattle.clr_cert.proofs.line_buffer.LineBuffer.put_mults.Given as goal

abbrev pub invariant-loop-index : goal.invariant-loop-index
invariant-loop-index g l = record {
  text : l.self ≡ l.initial.self ++ number_fields (map (λ store. (g.E.Entries.entries l.entries).mult store l.week l.rung) (numbers 1 l.index));
  size : length l.self ≤ length l.initial.self + 41 * l.index;
}
