use Rattle.std.proofs.Common.{◌≤◌, ◌+◌, ◌*◌, ◌^◌, pos, suc, get_or, length, ap, ◌∙◌, arith, add-one}
use Rattle.clr_season.specs.Season.{weight}
use Rattle.clr_plain.proofs.Chances.{factor_more, power_le, power_more}
use Rattle.clr_plain.proofs.chance.week_chance.Goals as goal

pub overflow_mul-product : goal.overflow_mul-product
overflow_mul-product c =
    let weight_le : c.from-product.result ≤ c.args.season.now.base = omega (arith, c.from-product.ensures, c.weight.ensures.range) in
    let more : c.loop-index.product * c.from-product.result ≤ c.args.season.now.base ^ (c.loop-index.index + 1) = power_more c.args.season.now.base c.loop-index.index c.loop-index.product c.from-product.result c.loop-index.invariant.range weight_le in
    let all : c.args.season.now.base ^ (c.loop-index.index + 1) ≤ c.args.season.now.base ^ length c.args.season.now.stores = power_le c.args.season.now.base (c.loop-index.index + 1) (length c.args.season.now.stores) c.stores-index-end.ensures.facts.least_base (omega (arith, c.loop-index-test.true, c.stores-index-end.ensures.value)) in
    record { fits = omega (arith, more, all, c.requires.small) }

pub loop-index-preserved : goal.loop-index-preserved
loop-index-preserved c = record {
  value = factor_more c.loop-index.index c.loop-index.product c.from-product.result (λ i. pos (weight c.args.season.now (suc i) c.args.week c.args.rung (get_or c.args.asked.now i 0))) c.loop-index.invariant.value
      (ap pos (c.from-product.ensures ∙ (c.weight.ensures.value ∙ ap (λ s. weight c.args.season.now s c.args.week c.args.rung (get_or c.args.asked.now c.loop-index.index 0)) (add-one c.loop-index.index))));
  range = power_more c.args.season.now.base c.loop-index.index c.loop-index.product c.from-product.result c.loop-index.invariant.range (omega (arith, c.from-product.ensures, c.weight.ensures.range));
}
