use Rattle.std.proofs.Common.{◌≡◌, ◌+◌, ◌/◌, ◌%◌, ◌<◌, [], get_or, length, drop, ◌∙◌, arith, rules}
use Rattle.std.proofs.Math.ListN.{length-set}
use Rattle.clr_stock.specs.Stock.{no_store}
use Rattle.clr_cert.specs.Places.{all_stocks}
use Rattle.clr_cert.proofs.StockLists.{next_store, next_units, read_more}
use Rattle.clr_cert.proofs.stocks.list_of_stocks.Goals as goal

pub nonzero_div-stocks : goal.nonzero_div-stocks
nonzero_div-stocks c =
    let low : c.loop-at.at < length c.args.season.now.stores = omega (arith, c.stores-at-end.ensures.value) in
    let units : c.from.result ≡ (get_or c.args.season.now.stores c.loop-at.at no_store).units = search rules in
    rw units (next_store c.args.season.now.stores c.loop-at.at c.loop-at.lists c.loop-at.rest low c.loop-at.invariant.lists c.loop-at.invariant.within).some

pub nonzero_rem-rest : goal.nonzero_rem-rest
nonzero_rem-rest c =
    let low : c.loop-at.at < length c.args.season.now.stores = omega (arith, c.stores-at-end.ensures.value) in
    let units : c.from.result ≡ (get_or c.args.season.now.stores c.loop-at.at no_store).units = search rules in
    rw units (next_store c.args.season.now.stores c.loop-at.at c.loop-at.lists c.loop-at.rest low c.loop-at.invariant.lists c.loop-at.invariant.within).some

pub loop-at-preserved : goal.loop-at-preserved
loop-at-preserved c =
    let low : c.loop-at.at < length c.args.season.now.stores = omega (arith, c.stores-at-end.ensures.value) in
    let units : c.from.result ≡ (get_or c.args.season.now.stores c.loop-at.at no_store).units = search rules in
    let next = next_units c.args.season.now.stores c.loop-at.at c.loop-at.lists c.loop-at.rest c.from.result low units c.loop-at.invariant.lists c.loop-at.invariant.within in
    record {
      size = length-set _ _ _ ∙ c.loop-at.invariant.size;
      few = c.loop-at.invariant.few;
      lists = next.width;
      within = next.within;
      read =
          read_more (get_or (all_stocks c.args.season.now.stores) c.args.index []) c.loop-at.stocks (get_or (all_stocks (drop c.loop-at.at c.args.season.now.stores)) c.loop-at.rest [])
          (get_or (all_stocks (drop (c.loop-at.at + 1) c.args.season.now.stores)) (c.loop-at.rest % (c.loop-at.lists / (c.from.result + 1))) []) c.loop-at.at (c.loop-at.rest / (c.loop-at.lists / (c.from.result + 1)))
          (omega (arith, c.loop-at.invariant.size, c.loop-at.invariant.few)) c.loop-at.invariant.read next.read;
    }
