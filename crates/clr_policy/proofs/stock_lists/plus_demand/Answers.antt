use Rattle.std.proofs.Common.{◌∙◌}
use Rattle.std.proofs.lemmas.Int.{to_z-of_z}
use mir.Syntax.{w128}
use Rattle.clr_policy.specs.StockLists.{part}
use Rattle.clr_policy.proofs.StockSums.{plus_none}
use Rattle.clr_policy.proofs.stock_lists.plus_demand.Goals as goal

pub returns-then-weight-eq0 : goal.returns-then-weight-eq0
returns-then-weight-eq0 c =
    to_z-of_z w128 c.args.total c.ranges.total ∙ plus_none c.args.total (part c.args.values.now c.args.unit c.args.cost c.args.width c.args.stock c.args.place c.args.sold) c.args.weight c.if-weight-eq0.true
