use Rattle.std.proofs.Common.{◌≡◌, ◌≤◌, ◌<◌, ◌+◌, ◌-◌, ◌*◌, suc, length, sum, sym, ap, ◌∙◌, subst, arith, ℕ}
use Rattle.clr_season.specs.Season.{weights_of, store_at}
use Rattle.clr_policy.specs.StockLists.{AreSmall, at_place, most_gain, stock_sum}
use Rattle.clr_policy.proofs.StoreSums.{IsWeighed, row_small, one_stock_more, all_within}
use Rattle.clr_policy.proofs.stock_lists.weigh_store.Goals as goal

pub overflow_add-week : goal.overflow_add-week
overflow_add-week c =
    let done : c.args.week.done + 1 ≤ c.args.season.now.rules.weeks = c.requires.place.last_week in
    let weeks : c.args.season.now.rules.weeks ≤ 52 = c.top-top.ensures.facts.rules.last_week in
    record { fits = omega (arith, done, weeks) }

pub weigh_stock-requires-clause-small : goal.weigh_stock-requires-clause-small
weigh_stock-requires-clause-small c =
    let next : c.args.week.done + 1 ≡ suc c.args.week.done = omega arith in
    let weights : weights_of c.args.season.now c.args.store (suc c.args.week.done) c.args.week.rung ≡ c.weights-weights.result.now
    = ap (λ week. weights_of c.args.season.now c.args.store week c.args.week.rung) (sym next) ∙ sym c.weights-weights.ensures.value in
    let now : c.loop-stock.stock - 1 + 1 ≡ c.loop-stock.stock = omega (arith, c.loop-stock-test.true) in (
      c.args.season.now.base,
      c.requires.small.0 + most_gain * c.args.scale,
      λ place lt.
          subst (λ list. AreSmall c.args.season.now.base (c.requires.small.0 + most_gain * c.args.scale) list c.unit_gain-unit.result c.week_cost-cost.result c.args.width (c.loop-stock.stock - 1) place c.loop-stock.values) weights
          (row_small c.args.season.now c.args.week.done c.args.week.before c.args.week.rung c.args.store c.args.scale c.args.width c.unit_gain-unit.result c.week_cost-cost.result c.args.season.now.base (c.requires.small.0 + most_gain * c.args.scale) c.args.values.now c.loop-stock.values
          c.requires.small.0 (store_at c.args.season.now c.args.store).units (c.loop-stock.stock - 1) place c.top-top.ensures.facts
          (ap length weights ∙ c.weights-weights.ensures.count) (ap sum weights ∙ c.weights-weights.ensures.whole) c.requires.small.1 c.requires.size (omega (arith, c.stock-stock.ensures.value, c.loop-stock.auto.stock)) (omega (arith, c.stock-stock.ensures.value, c.stock-stock.ensures.range)) lt c.unit_gain-unit.ensures.range c.week_cost-cost.ensures.range c.requires.small.2
          (subst (λ n. (k : ℕ) → k < n * c.args.width → at_place c.loop-stock.values k ≡ at_place c.args.values.now k) (sym now) c.loop-stock.invariant.rest)),
    )

pub loop-stock-preserved : goal.loop-stock-preserved
loop-stock-preserved c =
    let next : c.args.week.done + 1 ≡ suc c.args.week.done = omega arith in
    let weights : weights_of c.args.season.now c.args.store (suc c.args.week.done) c.args.week.rung ≡ c.weights-weights.result.now
    = ap (λ week. weights_of c.args.season.now c.args.store week c.args.week.rung) (sym next) ∙ sym c.weights-weights.ensures.value in
    let now : c.loop-stock.stock ≡ c.loop-stock.stock - 1 + 1 = omega (arith, c.loop-stock-test.true) in
    one_stock_more c.args.season.now c.args.week.done c.args.week.before c.args.week.rung c.args.store c.args.scale c.args.width c.unit_gain-unit.result c.week_cost-cost.result c.args.season.now.base 0 c.args.values.now c.loop-stock.values
    (store_at c.args.season.now c.args.store).units (c.loop-stock.stock - 1) c.weigh_stock.new.values
    (subst (λ n. IsWeighed c.args.season.now c.args.week.done c.args.week.before c.args.week.rung c.args.store c.args.scale c.args.width (store_at c.args.season.now c.args.store).units n c.args.values.now c.loop-stock.values) now c.loop-stock.invariant)
    (ap length weights ∙ c.weights-weights.ensures.count) c.unit_gain-unit.ensures.value c.week_cost-cost.ensures.value c.weigh_stock.auto.values
    (subst (λ list. (place : ℕ) → place < c.args.width → at_place c.weigh_stock.new.values ((c.loop-stock.stock - 1) * c.args.width + place) ≡ stock_sum list c.unit_gain-unit.result c.week_cost-cost.result c.loop-stock.values c.args.width (c.loop-stock.stock - 1) place) (sym weights) c.weigh_stock.ensures.row)
    c.weigh_stock.ensures.before c.weigh_stock.ensures.after

pub returns-clause-within : goal.returns-clause-within
returns-clause-within c reach all fits =
    let next : c.args.week.done + 1 ≡ suc c.args.week.done = omega arith in
    let weights : weights_of c.args.season.now c.args.store (suc c.args.week.done) c.args.week.rung ≡ c.weights-weights.result.now
    = ap (λ week. weights_of c.args.season.now c.args.store week c.args.week.rung) (sym next) ∙ sym c.weights-weights.ensures.value in
    let ended : c.loop-stock.stock ≡ 0 = omega (arith, c.loop-stock-test.false) in
    all_within c.args.season.now c.args.week.done c.args.week.before c.args.week.rung c.args.store c.args.scale c.args.width c.unit_gain-unit.result c.week_cost-cost.result c.args.season.now.base 0 c.args.values.now c.loop-stock.values
    reach (store_at c.args.season.now c.args.store).units c.top-top.ensures.facts (ap length weights ∙ c.weights-weights.ensures.count) (ap sum weights ∙ c.weights-weights.ensures.whole) all c.requires.size (omega (arith, c.stock-stock.ensures.value, c.stock-stock.ensures.range))
    c.unit_gain-unit.ensures.range c.week_cost-cost.ensures.range c.unit_gain-unit.ensures.value c.week_cost-cost.ensures.value fits
    (subst (λ n. IsWeighed c.args.season.now c.args.week.done c.args.week.before c.args.week.rung c.args.store c.args.scale c.args.width (store_at c.args.season.now c.args.store).units n c.args.values.now c.loop-stock.values) ended c.loop-stock.invariant)
