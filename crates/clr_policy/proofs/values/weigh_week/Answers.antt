use Rattle.std.proofs.Common.{◌≡◌, ◌≤◌, ◌<◌, ◌+◌, ◌*◌, sym, ap, ◌∙◌, subst, length, arith, mul-le-mul}
use Rattle.clr_average.proofs.Within.{within_more}
use Rattle.std.proofs.lemmas.List.{length-map}
use Rattle.clr_model.specs.JointWeek.{joint_weighed}
use Rattle.clr_model.specs.Revenue.{full_stocks}
use Rattle.clr_model.proofs.JointFold.{joint_sum_by_stores_lem}
use Rattle.clr_model.specs.Stocks.{place_in}
use Rattle.clr_policy.specs.StockLists.{AllWithin, at_place, most_gain, reach_after}
use Rattle.clr_policy.proofs.Folds.{place_low, within_length, whole_reach}
use Rattle.clr_policy.proofs.values.weigh_week.Goals as goal

pub returns-clause-each : goal.returns-clause-each
returns-clause-each g c stocks held =
    let low : place_in (full_stocks c.args.season.now) stocks < length c.weigh_stores.new.values = subst (λ n. place_in (full_stocks c.args.season.now) stocks < n) (sym (c.weigh_stores.auto.values ∙ c.requires.size)) (place_low (full_stocks c.args.season.now) stocks held) in
    let folds = joint_sum_by_stores_lem c.args.season.now c.args.week.done c.args.week.before c.args.week.rung stocks (λ rest. at_place c.args.values.now (place_in (full_stocks c.args.season.now) rest)) c.base_of_all.ensures.facts
    (within_length (full_stocks c.args.season.now) stocks held ∙ length-map c.args.season.now.stores (λ s. s.units)) c.requires.week.early c.requires.week.low c.requires.week.high in
    c.divide_values.ensures.each (place_in (full_stocks c.args.season.now) stocks) low
    ∙ (ap (λ n. g.R.Direction.quotient n c.base_of_all.result) (c.weigh_stores.ensures.each stocks held ∙ sym folds) ∙ ap (λ b. g.R.Direction.quotient (joint_weighed c.args.season.now c.args.week.done c.args.week.before c.args.week.rung stocks (λ demands rest. at_place c.args.values.now (place_in (full_stocks c.args.season.now) rest))) b) c.base_of_all.ensures.value)

pub returns-clause-within : goal.returns-clause-within
returns-clause-within g c reach le all k lt =
    let stores : length c.args.season.now.stores ≤ 64 = c.base_of_all.ensures.facts.stores.few in
    let gain : most_gain ≤ most_gain = omega arith in
    let gains : length c.args.season.now.stores * most_gain ≤ 64 * most_gain = mul-le-mul stores gain in
    let base : reach_after c.args.season.now 1 reach ≡ c.base_of_all.result * (reach + length c.args.season.now.stores * most_gain)
    = whole_reach c.args.season.now reach ∙ ap (λ b. b * (reach + length c.args.season.now.stores * most_gain)) (sym c.base_of_all.ensures.value) in
    within_more (reach + length c.args.season.now.stores * most_gain) (reach + 64 * most_gain) _
    (c.divide_values.ensures.within (reach + length c.args.season.now.stores * most_gain) (subst (λ n. AllWithin n c.weigh_stores.new.values) base (c.weigh_stores.ensures.within reach le all)) k lt) (omega (arith, gains))
