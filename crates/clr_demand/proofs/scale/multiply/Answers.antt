use Rattle.std.proofs.Common.{◌<◌, ◌*◌, ◌∙◌, length, arith, ℕ}
use Rattle.std.proofs.lemmas.List.{get_or_default}
use Rattle.std.proofs.lemmas.List.Edits.{map_over_more}
use Rattle.clr_demand.proofs.scale.multiply.Goals as goal

pub loop-index-preserved : goal.loop-index-preserved
loop-index-preserved c =
    let less : c.loop-index.index < length c.args.row.now = omega (arith, c.loop-index.auto.index-end, c.loop-index-test.true) in
    let there : c.loop-index.index < length c.loop-index.row = omega (arith, less, c.loop-index.auto.row) in
    let weight = c.from.ensures ∙ get_or_default c.loop-index.row c.loop-index.index 0 c.from.result there in
    map_over_more (λ (w : ℕ). w * c.args.factor) c.args.row.now c.loop-index.row c.loop-index.index c.from.result less c.loop-index.invariant weight
