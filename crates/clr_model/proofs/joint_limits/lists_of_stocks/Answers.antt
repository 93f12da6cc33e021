use Rattle.std.proofs.Common.{rules, ◌≡◌, ◌≤◌, ◌*◌, ◌+◌, ◌<◌, sym, ◌∙◌, arith, length, get_or}
use Rattle.clr_stock.specs.Stock.{no_store}
use Rattle.clr_model.proofs.FitsBounds.{lists_more, lists_most, lists_on}
use Rattle.clr_model.proofs.joint_limits.lists_of_stocks.Goals as goal

pub overflow_mul-lists : goal.overflow_mul-lists
overflow_mul-lists c =
    let within : c.loop-index.index < length c.args.season.now.stores = search rules in
    let few : c.loop-index.index + 1 ≤ 4 = omega (arith, within, c.loop-index.invariant.few) in
    let stocks : c.from.result + 1 ≤ 2001 = search rules in
    let most : c.loop-index.lists * (c.from.result + 1) ≤ 16032024008001
    = lists_most (c.loop-index.lists * (c.from.result + 1)) (c.loop-index.index + 1) (lists_more c.loop-index.lists (c.from.result + 1) c.loop-index.index c.loop-index.invariant.range stocks) few in
    record { fits = omega (arith, most) }

pub loop-index-preserved : goal.loop-index-preserved
loop-index-preserved c =
    let within : c.loop-index.index < length c.args.season.now.stores = search rules in
    let stocks : c.from.result + 1 ≤ 2001 = search rules in
    let units : c.from.result ≡ (get_or c.args.season.now.stores c.loop-index.index no_store).units = search rules in
    record {
      rest = rw units (sym (lists_on c.loop-index.lists c.loop-index.index c.args.season.now.stores within) ∙ c.loop-index.invariant.rest);
      few = c.loop-index.invariant.few;
      range = lists_more c.loop-index.lists (c.from.result + 1) c.loop-index.index c.loop-index.invariant.range stocks;
    }

pub returns-clause-range : goal.returns-clause-range
returns-clause-range c =
    let few : c.loop-index.index ≤ 4 = search rules in
    lists_most c.loop-index.lists c.loop-index.index c.loop-index.invariant.range few
