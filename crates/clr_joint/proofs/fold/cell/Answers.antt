use Rattle.std.proofs.Common.{◌-◌, ◌*◌, pos, ◌+ℤ◌, ◌*ℤ◌, get_or, ap, ap₂, sym, ◌∙◌, subst, add-one, SFits, rules}
use Rattle.std.proofs.lemmas.Int.{to_z-of_z}
use mir.Syntax.{w128}
use Rattle.clr_average.specs.Average.{IsWithin}
use Rattle.clr_joint.specs.Folds.{cell_sum}
use Rattle.clr_joint.proofs.Cells.{cell_more, inner_within, next_within, product_within}
use Rattle.clr_joint.proofs.fold.cell.Goals as goal

pub plus_demand-total-requires-clause-item : goal.plus_demand-total-requires-clause-item
plus_demand-total-requires-clause-item c =
    let fits : SFits w128 (get_or c.args.items.now (c.args.place - c.min-sold.result * c.args.stride) (pos 0)) = search rules in
    subst (IsWithin 170141183460469231731687303715884105727) (ap₂ (λ z n. z +ℤ pos (c.args.unit * n)) (ap (λ n. get_or c.args.items.now (c.args.place - n * c.args.stride) (pos 0)) (sym c.min-sold.ensures) ∙ sym (to_z-of_z w128 _ fits)) (sym c.min-sold.ensures))
    (inner_within c.requires.sizes.0 c.requires.sizes.1 c.args.unit c.args.stock c.args.weights.now c.args.items.now c.requires.sizes.2 c.args.place c.args.stride c.requires.inside c.loop-demand.demand)

pub plus_demand-total-requires-clause-product : goal.plus_demand-total-requires-clause-product
plus_demand-total-requires-clause-product c =
    let fits : SFits w128 (get_or c.args.items.now (c.args.place - c.min-sold.result * c.args.stride) (pos 0)) = search rules in
    subst (IsWithin 170141183460469231731687303715884105727) (ap₂ (λ z n. pos (get_or c.args.weights.now c.loop-demand.demand 0) *ℤ (z +ℤ pos (c.args.unit * n))) (ap (λ n. get_or c.args.items.now (c.args.place - n * c.args.stride) (pos 0)) (sym c.min-sold.ensures) ∙ sym (to_z-of_z w128 _ fits)) (sym c.min-sold.ensures))
    (product_within c.requires.sizes.0 c.requires.sizes.1 c.args.unit c.args.stock c.args.weights.now c.args.items.now c.requires.sizes.2 c.args.place c.args.stride c.requires.inside c.loop-demand.demand c.loop-demand-test.true)

pub plus_demand-total-requires-clause-sum : goal.plus_demand-total-requires-clause-sum
plus_demand-total-requires-clause-sum c =
    let fits : SFits w128 (get_or c.args.items.now (c.args.place - c.min-sold.result * c.args.stride) (pos 0)) = search rules in
    subst (IsWithin 170141183460469231731687303715884105727) (ap₂ ◌+ℤ◌ (sym c.loop-demand.invariant) (ap₂ (λ z n. pos (get_or c.args.weights.now c.loop-demand.demand 0) *ℤ (z +ℤ pos (c.args.unit * n))) (ap (λ n. get_or c.args.items.now (c.args.place - n * c.args.stride) (pos 0)) (sym c.min-sold.ensures) ∙ sym (to_z-of_z w128 _ fits)) (sym c.min-sold.ensures)))
    (next_within c.requires.sizes.0 c.requires.sizes.1 c.args.unit c.args.stock c.args.weights.now c.args.items.now c.requires.sizes.2 c.args.place c.args.stride c.requires.inside c.loop-demand.demand c.loop-demand-test.true)

pub loop-demand-preserved : goal.loop-demand-preserved
loop-demand-preserved c =
    let fits : SFits w128 (get_or c.args.items.now (c.args.place - c.min-sold.result * c.args.stride) (pos 0)) = search rules in
    let result_fits : SFits w128 c.plus_demand-total.result = search rules in
    to_z-of_z w128 c.plus_demand-total.result result_fits
    ∙ (c.plus_demand-total.ensures
    ∙ (ap₂ ◌+ℤ◌ c.loop-demand.invariant (ap₂ (λ z n. pos (get_or c.args.weights.now c.loop-demand.demand 0) *ℤ (z +ℤ pos (c.args.unit * n))) (to_z-of_z w128 _ fits ∙ ap (λ n. get_or c.args.items.now (c.args.place - n * c.args.stride) (pos 0)) c.min-sold.ensures) c.min-sold.ensures)
    ∙ (cell_more c.requires.sizes.0 c.requires.sizes.1 c.args.unit c.args.stock c.args.weights.now c.args.items.now c.requires.sizes.2 c.args.place c.args.stride c.requires.inside c.loop-demand.demand
    ∙ ap (cell_sum c.args.weights.now c.args.unit c.args.items.now c.args.place c.args.stock c.args.stride) (sym (add-one c.loop-demand.demand)))))
