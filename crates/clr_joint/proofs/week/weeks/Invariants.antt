use Rattle.std.proofs.Common.{◌+◌}
use Rattle.clr_joint.specs.Weeks.{AreWeeks}
use Rattle.clr_joint.proofs.week.weeks.Given as goal

abbrev pub invariant-loop-back : goal.invariant-loop-back
invariant-loop-back g l = AreWeeks g.R.Direction.quotient l.season (l.back + 1) l.weeks.items
