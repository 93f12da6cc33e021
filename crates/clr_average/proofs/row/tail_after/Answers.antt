use Rattle.std.proofs.Common.{length}
use Rattle.clr_average.proofs.Masses.{tail_covers, tail_next, tail_same}
use Rattle.clr_average.proofs.row.tail_after.Goals as goal

pub overflow_sub-result : goal.overflow_sub-result
overflow_sub-result c = tail_covers c.args.weights.now c.args.tail c.args.stock (length c.args.weights.now) c.if-stock-weights.true c.requires

pub returns-then-stock-weights : goal.returns-then-stock-weights
returns-then-stock-weights c = tail_next c.args.weights.now c.args.tail c.args.stock (length c.args.weights.now) c.if-stock-weights.true c.requires

pub returns-else-stock-weights : goal.returns-else-stock-weights
returns-else-stock-weights c = tail_same c.args.weights.now c.args.tail c.args.stock (length c.args.weights.now) c.if-stock-weights.false c.requires
