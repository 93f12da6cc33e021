use Rattle.std.proofs.Common.{◌≡◌, ℕ, ◌<◌, ◌*◌, ◌/◌, ◌%◌, pos, ◌+ℤ◌, length, get_or}
use Rattle.clr_joint.proofs.end.with_store.Given as goal

abbrev pub invariant-loop-place : goal.invariant-loop-place
invariant-loop-place l = record {
  size : length l.now.items ≡ l.place;
  each : (k : ℕ) → k < l.place → get_or l.now.items k (pos 0) ≡ pos (l.unit * (k / length l.row)) +ℤ get_or l.row (k % length l.row) (pos 0);
}
