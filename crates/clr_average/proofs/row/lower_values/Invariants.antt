use Rattle.std.proofs.Common.{◌≡◌, ℕ, ◌<◌, ◌≤◌, pos, ◌-ℤ◌, get_or}
use Rattle.clr_average.proofs.row.lower_values.Given as goal

abbrev pub invariant-loop-value : goal.invariant-loop-value
invariant-loop-value l = record {
  done : (k : ℕ) → k < l.value-index → get_or l.values k (pos 0) ≡ get_or l.initial.values k (pos 0) -ℤ pos l.cost;
  ahead : (k : ℕ) → l.value-index ≤ k → get_or l.values k (pos 0) ≡ get_or l.initial.values k (pos 0);
}
