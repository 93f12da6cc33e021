use Rattle.std.proofs.Common.{◌≡◌, ◌≤◌, ◌+◌, ◌*◌, ◌++◌, length, map}
use Rattle.clr_num.specs.Lists.{numbers}
use Rattle.clr_rules.specs.LiveSummaries.{live_summaries}
use Rattle.clr_cert.specs.Lines.{key_fields}
use Rattle.clr_cert.proofs.line_buffer.LineBuffer.put_counts.Given as goal

abbrev pub invariant-loop-done : goal.invariant-loop-done
invariant-loop-done l = record {
  text : l.self ≡ l.initial.self ++ key_fields (map (λ done. length (live_summaries l.season.rules done)) (numbers 0 l.done));
  size : length l.self ≤ length l.initial.self + 41 * l.done;
}
