use Rattle.std.proofs.Common.{◌≡◌, ℕ, ◌<◌, ◌≤◌}
use Rattle.clr_policy.specs.StockLists.{at_place}
use Rattle.clr_policy.proofs.values.divide_values.Given as goal

abbrev pub invariant-loop-value : goal.invariant-loop-value
invariant-loop-value g l = record {
  done : (k : ℕ) → k < l.value-index → at_place l.values k ≡ g.R.Direction.quotient (at_place l.initial.values k) l.base;
  ahead : (k : ℕ) → l.value-index ≤ k → at_place l.values k ≡ at_place l.initial.values k;
}
