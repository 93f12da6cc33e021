use Rattle.std.proofs.Common.{◌≡◌, ◌*◌, ◌++◌, map, take, drop}
use Rattle.clr_demand.proofs.scale.multiply.Given as goal

abbrev pub invariant-loop-index : goal.invariant-loop-index
invariant-loop-index l = l.row ≡ map (λ weight. weight * l.factor) (take l.index l.initial.row) ++ drop l.index l.initial.row
