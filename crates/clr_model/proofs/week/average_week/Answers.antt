use Rattle.std.proofs.Common.{◌≡◌, suc, ◌<◌, pos, length, get_or, sum, arith, sym, ◌∙◌, subst, add-one}
use Rattle.clr_model.specs.Weights.{AreWeights}
use Rattle.clr_model.proofs.Rows.{row_is, value_small}
use Rattle.clr_model.proofs.week.average_week.Goals as goal

pub lower_values-requires-clause-values : goal.lower_values-requires-clause-values
lower_values-requires-clause-values g c =
    let whole : sum c.listed_weights-weights.result.now ≡ c.base-base.result = c.listed_weights-weights.ensures.whole ∙ sym c.base-base.ensures.value in
    λ i h. value_small g.R.Direction.leans g.R.Direction.quotient g.met.R.Direction.laws c.base-base.result c.unit_gain-unit.result c.args.reach c.listed_weights-weights.result.now c.args.after.now
    (omega (arith, c.base-base.ensures.facts.least_base, c.base-base.ensures.value)) (omega (arith, c.base-base.ensures.facts.most_base, c.base-base.ensures.value)) c.unit_gain-unit.ensures.range c.requires.size c.requires.reach whole c.requires.values i (get_or c.average_values.new.out i (pos 0)) (omega (arith, h, c.average_values.auto.out, c.requires.lengths)) (c.average_values.ensures i h)

pub returns : goal.returns
returns g c = λ i h.
    let lt : i < length c.average_values.new.out = omega (arith, h, c.lower_values.auto.values) in
    let are : AreWeights c.args.season.now c.args.store (suc c.args.done) c.args.rung c.listed_weights-weights.result.now = subst (λ w. AreWeights c.args.season.now c.args.store w c.args.rung c.listed_weights-weights.result.now) (add-one c.args.done) c.listed_weights-weights.ensures in
    row_is g.R.Direction.leans g.R.Direction.quotient g.met.R.Direction.laws c.args.season.now c.args.store c.args.done c.args.before c.args.rung i c.unit_gain-unit.result c.relabelling-cost.result c.base-base.result c.listed_weights-weights.result.now c.args.after.now
    (get_or c.average_values.new.out i (pos 0)) (get_or c.lower_values.new.values i (pos 0))
    are (omega (arith, c.base-base.ensures.facts.least_base, c.base-base.ensures.value)) c.base-base.ensures.value c.unit_gain-unit.ensures.value c.relabelling-cost.ensures.value (c.average_values.ensures i lt) (c.lower_values.ensures i h)
