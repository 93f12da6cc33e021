use Rattle.std.proofs.Common.{◌/◌, ◌∙◌, sym}
use Rattle.std.specs.Prelude.{sum}
use Rattle.clr_demand.proofs.ScaleLemmas.{scaled-noughts}
use Rattle.clr_demand.proofs.scale.scale_row.Goals as goal

pub returns-then-sum-eq0 : goal.returns-then-sum-eq0
returns-then-sum-eq0 c = sym (scaled-noughts (c.args.base / sum c.args.row.now) c.args.row.now (sym c.sum_of_row-sum.ensures ∙ c.if-sum-eq0.true))
