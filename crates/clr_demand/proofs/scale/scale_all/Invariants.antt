use Rattle.clr_demand.proofs.ScaleLemmas.{Scaled}
use Rattle.clr_demand.proofs.scale.scale_all.Given as goal

abbrev pub invariant-loop-row : goal.invariant-loop-row
invariant-loop-row l = Scaled l.base l.width l.row l.initial.weights l.weights
