use Rattle.std.proofs.Common.{◌≡◌, ℕ, ◌<◌, ◌+◌, ◌-◌, pos, length, get_or}
use Rattle.clr_average.specs.Average.{IsWithin}
use Rattle.clr_joint.specs.Folds.{fold_item, fold_reach}
use Rattle.clr_joint.proofs.fold.fold_store.Given as goal

abbrev pub invariant-loop-place : goal.invariant-loop-place
invariant-loop-place l = record {
  size : length l.now.items ≡ l.place;
  within : (k : ℕ) → k < l.place → IsWithin (fold_reach l.season.base (l.folded + 1)) (get_or l.now.items k (pos 0));
  each : (k : ℕ) → k < l.place → get_or l.now.items k (pos 0) ≡ fold_item l.season l.done l.rung (length l.season.stores - l.folded) l.stride l.power l.items k;
}
