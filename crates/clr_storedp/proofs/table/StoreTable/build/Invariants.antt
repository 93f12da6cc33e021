use Rattle.std.proofs.Common.{◌+◌}
use Rattle.clr_mult.specs.Tables.{mult_at}
use Rattle.clr_storedp.specs.Weeks.{AreWeeks}
use Rattle.clr_storedp.proofs.table.StoreTable.build.Given as goal

abbrev pub invariant-loop-back : goal.invariant-loop-back
invariant-loop-back g l = AreWeeks g.R.Direction.quotient (mult_at l.mult) l.season l.store l.width (l.back + 1) l.weeks.items
