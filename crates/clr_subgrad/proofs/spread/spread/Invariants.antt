use Rattle.clr_subgrad.proofs.Spreads.{IsSpread}
use Rattle.clr_subgrad.proofs.spread.spread.Given as goal

abbrev pub invariant-loop-demand : goal.invariant-loop-demand
invariant-loop-demand l = IsSpread l.mass l.weights l.base l.stock l.start l.demand l.initial.after l.after
