use Rattle.std.proofs.Common.{arith}
use Rattle.std.proofs.lemmas.List.{take_rest}
use Rattle.clr_demand.proofs.WeightLemmas.{sum-drop}
use Rattle.clr_demand.proofs.demand.Demand.tail.Goals as goal

pub sum_of-requires : goal.sum_of-requires
sum_of-requires c = rw take_rest (omega (arith, sum-drop c.weights.result.now c.args.units, c.weights.ensures.sum, c.weights.ensures.base))
