use Rattle.std.proofs.Common.{◌≡◌, ◌≤◌, ◌+◌, ◌*◌, ◌++◌, length, map}
use Rattle.clr_num.specs.Lists.{numbers}
use Rattle.clr_cert.specs.Lines.{number_fields}
use Rattle.clr_cert.specs.Tables.{entry_of}
use Rattle.clr_cert.proofs.line_buffer.LineBuffer.put_entries.Given as goal

abbrev pub invariant-loop-stock : goal.invariant-loop-stock
invariant-loop-stock g l = record {
  text : l.self ≡ l.initial.self ++ number_fields (map (entry_of l.table (g.E.Entries.entries l.entries) l.done l.store) (numbers 0 l.stock));
  size : length l.self ≤ length l.initial.self + 41 * l.stock;
}
