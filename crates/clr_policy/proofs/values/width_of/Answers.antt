use Rattle.std.proofs.Common.{◌≡◌, ◌≤◌, ◌<◌, ◌+◌, ◌-◌, ◌*◌, suc, length, rules, arith, subst, mul-le-mul}
use Rattle.clr_season.specs.Season.{store_at}
use Rattle.clr_model.specs.Revenue.{full_stocks}
use Rattle.clr_model.specs.Stocks.{lists_of}
use Rattle.clr_policy.specs.StockLists.{stocks_from}
use Rattle.clr_policy.proofs.Tests.{fewer_lists, some_lists, width_more}
use Rattle.clr_policy.proofs.values.width_of.Goals as goal

pub overflow_mul-width : goal.overflow_mul-width
overflow_mul-width c =
    let within : c.loop-index.index < length c.args.season.now.stores = search rules in
    let one : c.loop-index.index + 1 ≡ suc c.loop-index.index = omega arith in
    let units : c.stock.result ≡ (store_at c.args.season.now (suc c.loop-index.index)).units = subst (λ k. c.stock.result ≡ (store_at c.args.season.now k).units) one c.stock.ensures.value in
    let all = width_more c.args.season.now c.loop-index.width c.args.store c.stock.result c.loop-index.index within units c.loop-index.invariant.rest in
    let few = fewer_lists (full_stocks c.args.season.now) (c.args.store + 1 - 1) in
    let part : c.loop-index.width * (c.stock.result + 1) * 1 ≤ c.loop-index.width * (c.stock.result + 1) * lists_of (stocks_from c.args.season.now (c.loop-index.index + 1 + 1)) = mul-le-mul (omega arith) (some_lists (stocks_from c.args.season.now (c.loop-index.index + 1 + 1))) in
    record { fits = omega (arith, part, all, few, c.requires.lists) }

pub loop-index-preserved : goal.loop-index-preserved
loop-index-preserved c =
    let within : c.loop-index.index < length c.args.season.now.stores = search rules in
    let one : c.loop-index.index + 1 ≡ suc c.loop-index.index = omega arith in
    let units : c.stock.result ≡ (store_at c.args.season.now (suc c.loop-index.index)).units = subst (λ k. c.stock.result ≡ (store_at c.args.season.now k).units) one c.stock.ensures.value in
    let row : 1 ≤ c.stock.result + 1 = omega arith in
    let some : 1 * 1 ≤ c.loop-index.width * (c.stock.result + 1) = mul-le-mul c.loop-index.invariant.some row in
    record {
      rest = width_more c.args.season.now c.loop-index.width c.args.store c.stock.result c.loop-index.index within units c.loop-index.invariant.rest;
      some = omega (arith, some);
    }
