use Rattle.std.proofs.Common.{◌≡◌, ℕ, ◌+◌, ◌-◌, ◌*◌, ◌*ℤ◌, ℤ, List, pos, get_or, length}
use Rattle.clr_average.specs.Average.{IsWithin, mass}
use Rattle.clr_num.specs.Lists.{numbers}
use Rattle.clr_num.specs.Sums.{sum_over}
use Rattle.clr_check.specs.JointRows.{HasLists, list_after, part_after, reach_of_part}
use Rattle.clr_check.proofs.joint.+sums.Given as goal

abbrev pub decreases-demand_sum : goal.decreases-demand_sum
decreases-demand_sum l = 2 * (length l.season.now.stores - l.past)

abbrev pub decreases-joint_sum_after : goal.decreases-joint_sum_after
decreases-joint_sum_after l = 2 * (length l.season.now.stores - l.past) + 1

abbrev pub invariant-joint_sum_after-loop-demand : goal.invariant-joint_sum_after-loop-demand
invariant-joint_sum_after-loop-demand l = record {
  sum : (f : List ℕ → ℤ) → HasLists l.season l.past l.row f → l.total ≡ sum_over (numbers 0 l.demand) (λ demand. pos (get_or l.weights demand 0) *ℤ part_after l.season l.week l.past l.stock (list_after l.season (l.past + 1) l.rest) f demand);
  size : IsWithin (mass l.weights l.demand * reach_of_part l.season l.past) l.total;
}
