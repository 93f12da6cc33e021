use Rattle.clr_joint.specs.Ends.{AreWorths}
use Rattle.clr_joint.proofs.end.end_row.Given as goal

abbrev pub invariant-loop-taken : goal.invariant-loop-taken
invariant-loop-taken l = AreWorths l.season l.taken l.row.items
