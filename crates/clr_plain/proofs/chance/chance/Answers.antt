use Rattle.std.proofs.Common.{◌≡◌, ◌<◌, ◌≤◌, ◌+◌, ◌-◌, ◌*◌, ◌^◌, length, take, drop, ap, ◌∙◌, add-one, arith, mul-le-mul_right}
use Rattle.clr_rules.specs.Rules.{rung_at}
use Rattle.clr_model.specs.Expected.{week_chance}
use Rattle.clr_plain.proofs.Chances.{chance_next, chance_whole, one_le_all, power_le, powers_more}
use Rattle.clr_plain.proofs.chance.chance.Goals as goal

pub week_chance-product-requires-clause-small : goal.week_chance-product-requires-clause-small
week_chance-product-requires-clause-small c =
    let lt : c.loop-done.done < length c.args.path.now = omega (arith, c.loop-done-test.true, c.len-done-end.ensures) in
    let all : c.args.season.now.base ^ length c.args.season.now.stores ≤ c.args.season.now.base ^ (length c.args.path.now * length c.args.season.now.stores) = power_le c.args.season.now.base (length c.args.season.now.stores) (length c.args.path.now * length c.args.season.now.stores) c.stores-stores.ensures.facts.least_base (one_le_all c.loop-done.done (length c.args.path.now) (length c.args.season.now.stores) lt) in
    omega (arith, all, c.requires.small)

pub overflow_mul-product : goal.overflow_mul-product
overflow_mul-product c =
    let lt : c.loop-done.done + 1 ≤ length c.args.path.now = omega (arith, c.loop-done-test.true, c.len-done-end.ensures) in
    let more : c.loop-done.product * c.week_chance-product.result ≤ c.args.season.now.base ^ ((c.loop-done.done + 1) * length c.args.season.now.stores) = powers_more c.args.season.now.base c.loop-done.done (length c.args.season.now.stores) c.loop-done.product c.week_chance-product.result c.loop-done.invariant.range c.week_chance-product.ensures.range in
    let all : c.args.season.now.base ^ ((c.loop-done.done + 1) * length c.args.season.now.stores) ≤ c.args.season.now.base ^ (length c.args.path.now * length c.args.season.now.stores)
    = power_le c.args.season.now.base ((c.loop-done.done + 1) * length c.args.season.now.stores) (length c.args.path.now * length c.args.season.now.stores) c.stores-stores.ensures.facts.least_base (mul-le-mul_right (length c.args.season.now.stores) lt) in
    record { fits = omega (arith, more, all, c.requires.small) }

pub loop-done-preserved : goal.loop-done-preserved
loop-done-preserved c =
    let lt : c.loop-done.done < length c.args.path.now = omega (arith, c.loop-done-test.true, c.len-done-end.ensures) in
    let cut : c.loop-done.done * c.stores-stores.result + c.stores-stores.result - c.loop-done.done * c.stores-stores.result ≡ c.stores-stores.result = omega arith in
    record {
      value = chance_next c.args.season.now c.loop-done.done c.loop-done.product c.week_chance-product.result c.rung.result c.args.path.now c.args.asked.now lt c.loop-done.invariant.value
          (c.rung.ensures ∙ ap (rung_at c.args.path.now) (add-one c.loop-done.done))
          (c.week_chance-product.ensures.value ∙ ap (λ n. week_chance c.args.season.now (c.loop-done.done + 1) c.rung.result (take n (drop (c.loop-done.done * c.stores-stores.result) c.args.asked.now))) cut ∙ ap (λ s. week_chance c.args.season.now (c.loop-done.done + 1) c.rung.result (take s (drop (c.loop-done.done * s) c.args.asked.now))) c.stores-stores.ensures.value);
      range = powers_more c.args.season.now.base c.loop-done.done (length c.args.season.now.stores) c.loop-done.product c.week_chance-product.result c.loop-done.invariant.range c.week_chance-product.ensures.range;
    }

pub returns : goal.returns
returns c = chance_whole c.args.season.now c.loop-done.done c.loop-done.product c.args.path.now c.args.asked.now (omega (arith, c.loop-done-test.false, c.loop-done.auto.done-end, c.len-done-end.ensures)) c.loop-done.invariant.value
