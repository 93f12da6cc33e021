use Rattle.std.proofs.Common.{ℕ, ◌≤◌, ◌<◌, pos, get_or}
use Rattle.clr_average.specs.Average.{IsWithin}
use Rattle.clr_rows.proofs.rows.reach_of.Given as goal

abbrev pub invariant-loop-value : goal.invariant-loop-value
invariant-loop-value l = record {
  range : l.reach ≤ 1000000000000000000;
  done : (k : ℕ) → k < l.value-index → IsWithin l.reach (get_or l.row k (pos 0));
}
