use Rattle.std.proofs.Common.{◌≡◌, ◌+◌, ◌*◌, ◌<◌, min, length, get_or, rules, ap₂, ◌∙◌}
use Rattle.clr_stock.specs.Stock.{no_store}
use Rattle.clr_policy.specs.Written.{most_objects}
use Rattle.clr_policy.proofs.Sizes.{one_store_on}
use Rattle.clr_policy.proofs.judged.size_of_stocks.Goals as goal

pub loop-index-preserved : goal.loop-index-preserved
loop-index-preserved c =
    let within : c.loop-index.index < length c.args.season.now.stores = search rules in
    let units : c.from-stock.result ≡ (get_or c.args.season.now.stores c.loop-index.index no_store).units = search rules in
    let factor : (c.from-stock.result + 1) * (c.min-demands.result + 1) ≡ ((get_or c.args.season.now.stores c.loop-index.index no_store).units + 1) * (min (get_or c.args.season.now.stores c.loop-index.index no_store).units c.args.season.now.top + 1)
    = ap₂ (λ a b. (a + 1) * (b + 1)) units (c.min-demands.ensures ∙ ap₂ min units (c.from.ensures ∙ c.top.ensures.value)) in
    record {
      rest = rw c.held_product-size.ensures.value (one_store_on c.loop-index.size ((c.from-stock.result + 1) * (c.min-demands.result + 1)) most_objects c.args.season.now.top c.loop-index.index c.args.season.now.stores within factor ∙ c.loop-index.invariant.rest);
      range = c.held_product-size.ensures.range;
    }
