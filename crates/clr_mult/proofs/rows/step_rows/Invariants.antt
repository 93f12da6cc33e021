use Rattle.clr_mult.specs.Rows.{AreRowsMoved}
use Rattle.clr_mult.proofs.rows.step_rows.Given as goal

abbrev pub invariant-loop-row : goal.invariant-loop-row
invariant-loop-row l = AreRowsMoved l.q l.stores l.row l.usage l.initial.entries l.entries
