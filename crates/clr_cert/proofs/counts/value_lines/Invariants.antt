use Rattle.std.proofs.Common.{◌≡◌, ◌≤◌, ◌*◌}
use Rattle.clr_cert.proofs.Counting.{lines_below}
use Rattle.clr_cert.proofs.counts.value_lines.Given as goal

abbrev pub invariant-loop-done : goal.invariant-loop-done
invariant-loop-done l = record {
  lines : l.lines ≡ lines_below l.season l.done;
  range : l.lines ≤ 100000000000000000 * l.done;
}
