use Rattle.std.proofs.Common.{◌≡◌, ℕ, ◌<◌, ◌≤◌}
use Rattle.clr_policy.specs.StockLists.{at_place, chosen}
use Rattle.clr_policy.proofs.values.take_above.Given as goal

abbrev pub invariant-loop-place : goal.invariant-loop-place
invariant-loop-place l = record {
  done : (k : ℕ) → k < l.place → at_place l.below k ≡ chosen l.width l.rows l.limit l.initial.below l.above k;
  ahead : (k : ℕ) → l.place ≤ k → at_place l.below k ≡ at_place l.initial.below k;
}
