use Rattle.std.proofs.Common.{◌≡◌, ◌-◌, suc, length, slice_get}
use Rattle.clr_rules.specs.LiveSummaries.{at_week}
use Rattle.clr_mult.specs.Tables.{mult_at}
use Rattle.clr_subgrad.proofs.Sweeps.{IsSwept}
use Rattle.clr_subgrad.proofs.masses.next_masses.Given as goal

abbrev pub invariant-loop-next : goal.invariant-loop-next
invariant-loop-next l = record {
  next : l.next ≡ slice_get (at_week l.done l.live) l.place;
  swept : IsSwept (mult_at l.mult) l.season l.store l.done l.place (at_week l.done l.live) (at_week (suc l.done) l.live) l.masses l.initial.used l.after.items l.used;
}

abbrev pub decreases-loop-next : goal.decreases-loop-next
decreases-loop-next l = length (at_week l.done l.live) - l.place
