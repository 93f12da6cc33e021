use Rattle.std.proofs.Common.{◌≡◌, ◌*◌, ◌*ℤ◌, pos, get_or}
use Rattle.clr_average.specs.Average.{IsWithin}
use Rattle.clr_num.specs.Lists.{numbers}
use Rattle.clr_num.specs.Sums.{sum_over}
use Rattle.clr_check.specs.Weeks.{kept_value}
use Rattle.clr_check.proofs.week.week_sum.Given as goal

abbrev pub invariant-loop-demand : goal.invariant-loop-demand
invariant-loop-demand l = record {
  sum : l.total ≡ sum_over (numbers 0 l.demand) (λ demand. pos (get_or l.weights demand 0) *ℤ kept_value l.season l.store l.before l.rung l.stock l.after demand);
  size : IsWithin (l.demand * 2000000000000000000000000) l.total;
}
