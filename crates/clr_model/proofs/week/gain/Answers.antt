use Rattle.std.proofs.Common.{◌≤◌, ◌<◌, ◌^◌, ◌*◌, ◌∙◌, arith}
use Rattle.clr_model.proofs.Gains.{cast_fits, gain_fits, gain_is, gain_read, gain_small, product_fits}
use Rattle.clr_model.proofs.week.gain.Goals as goal

pub overflow_mul-earned : goal.overflow_mul-earned
overflow_mul-earned c =
    let few : c.from.result ≤ 2000 = omega (arith, c.from.ensures, c.min-sold.ensures, c.requires.demand, c.top.ensures.facts.most_demand) in
    let fits : c.unit_gain.result * c.from.result < 2 ^ 63 = product_fits c.unit_gain.result c.from.result 0 c.unit_gain.ensures.range few (omega arith) in
    omega (arith, fits)

pub overflow_cast-result : goal.overflow_cast-result
overflow_cast-result c =
    let few : c.from.result ≤ 2000 = omega (arith, c.from.ensures, c.min-sold.ensures, c.requires.demand, c.top.ensures.facts.most_demand) in
    cast_fits c.unit_gain.result c.from.result 0 c.unit_gain.ensures.range few (omega arith)

pub overflow_sub-result : goal.overflow_sub-result
overflow_sub-result c =
    let few : c.from.result ≤ 2000 = omega (arith, c.from.ensures, c.min-sold.ensures, c.requires.demand, c.top.ensures.facts.most_demand) in
    gain_fits c.unit_gain.result c.from.result c.relabelling.result c.unit_gain.ensures.range few c.relabelling.ensures.range

pub returns-clause-value : goal.returns-clause-value
returns-clause-value c =
    let few : c.from.result ≤ 2000 = omega (arith, c.from.ensures, c.min-sold.ensures, c.requires.demand, c.top.ensures.facts.most_demand) in
    gain_read c.unit_gain.result c.from.result c.relabelling.result c.unit_gain.ensures.range few c.relabelling.ensures.range
    ∙ gain_is c.args.season.now c.args.store c.args.before c.args.rung c.args.stock c.args.demand c.unit_gain.result c.from.result c.relabelling.result c.unit_gain.ensures.value (c.from.ensures ∙ c.min-sold.ensures) c.relabelling.ensures.value

pub returns-clause-size : goal.returns-clause-size
returns-clause-size c =
    let few : c.from.result ≤ 2000 = omega (arith, c.from.ensures, c.min-sold.ensures, c.requires.demand, c.top.ensures.facts.most_demand) in
    gain_small c.unit_gain.result c.from.result c.relabelling.result c.unit_gain.ensures.range few c.relabelling.ensures.range
