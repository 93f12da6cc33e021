use Rattle.std.proofs.Common.{◌≡◌, ◌≤◌, ◌+◌, ◌==◌, suc, cond, get_or, length, sum, take}
use Rattle.std.specs.List.{sum_by}
use Rattle.clr_num.specs.Lists.{numbers}
use Rattle.clr_rules.specs.LiveSummaries.{at_week}
use Rattle.clr_season.specs.Season.{store_at}
use Rattle.clr_subgrad.specs.Masses.{CameIn, IsUsed, arriving}
use Rattle.clr_subgrad.proofs.sweep.leave_row.Given as goal

abbrev pub invariant-loop-stock : goal.invariant-loop-stock
invariant-loop-stock l = record {
  size : length l.after ≡ length l.initial.after;
  came : CameIn (suc (store_at l.season l.store).units) (at_week (suc l.done) l.live) (λ t rest. sum_by (λ stock. arriving l.season l.store l.done l.s stock (get_or l.choices stock 0) (get_or l.masses stock 0) t rest) (numbers 0 l.stock)) l.initial.after l.after;
  total : sum l.after ≤ sum l.initial.after + sum (take l.stock l.masses);
  used : IsUsed l.store (suc l.done) (λ rung. sum_by (λ stock. cond (rung == get_or l.choices stock 0) (get_or l.masses stock 0) 0) (numbers 0 l.stock)) l.initial.used l.used;
}
