use Rattle.std.proofs.Common.{◌≡◌, ℕ, ◌<◌, pos, length, get_or}
use Rattle.clr_average.specs.Average.{IsWithin}
use Rattle.clr_model.specs.JointWeek.{joint_base}
use Rattle.clr_joint.proofs.average.average_row.Given as goal

abbrev pub invariant-loop-item : goal.invariant-loop-item
invariant-loop-item g l = record {
  size : length l.averages.items ≡ l.item-index;
  within : (k : ℕ) → k < l.item-index → IsWithin 2000000000000000000 (get_or l.averages.items k (pos 0));
  each : (k : ℕ) → k < l.item-index → get_or l.averages.items k (pos 0) ≡ g.R.Direction.quotient (get_or l.item-items k (pos 0)) (joint_base l.season);
}
