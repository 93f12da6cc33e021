use Rattle.std.proofs.Common.{◌≡◌, ◌<◌, ◌+◌, ◌-◌, ◌*◌, suc, sym, ap, ◌∙◌, subst, length, arith, rules, ℕ}
use Rattle.clr_season.specs.Season.{store_at}
use Rattle.clr_model.specs.Revenue.{cent}
use Rattle.clr_policy.specs.StockLists.{AllWithin, AreValues, ends_from, most_gain, rows_of, stocks_from}
use Rattle.clr_model.specs.Stocks.{lists_of}
use Rattle.clr_policy.proofs.Tests.{last_lists_few}
use Rattle.clr_policy.proofs.Ends.{all_ends, one_store_more, rows_within}
use Rattle.clr_policy.proofs.values.end_values.Goals as goal

pub rows_at_end-requires-clause-size : goal.rows_at_end-requires-clause-size
rows_at_end-requires-clause-size c =
    let inside : c.loop-index.index < length c.args.season.now.stores = search rules in
    let left : ℕ = length c.args.season.now.stores - (c.loop-index.index + 1) in
    let store : c.stores-stores.result - c.loop-index.index ≡ suc left = omega (arith, c.stores-stores.ensures.value, inside) in
    let before : length c.args.season.now.stores - c.loop-index.index + 1 ≡ suc left + 1 = omega (arith, inside) in
    let stock : c.stock.result ≡ (store_at c.args.season.now (suc left)).units = subst (λ n. c.stock.result ≡ (store_at c.args.season.now n).units) store c.stock.ensures.value in
    let size : length c.deref.result.now ≡ lists_of (stocks_from c.args.season.now (suc left + 1)) = ap length c.deref.ensures.value ∙ (c.loop-index.invariant.values.size ∙ ap (λ n. lists_of (stocks_from c.args.season.now n)) before) in
    last_lists_few c.args.season.now left (length c.deref.result.now) c.stock.result (omega (arith, inside)) size stock c.requires.lists

pub loop-index-preserved : goal.loop-index-preserved
loop-index-preserved c =
    let inside : c.loop-index.index < length c.args.season.now.stores = search rules in
    let left : ℕ = length c.args.season.now.stores - (c.loop-index.index + 1) in
    let store : c.stores-stores.result - c.loop-index.index ≡ suc left = omega (arith, c.stores-stores.ensures.value, inside) in
    let before : length c.args.season.now.stores - c.loop-index.index + 1 ≡ suc left + 1 = omega (arith, inside) in
    let now : suc left ≡ left + 1 = omega arith in
    let unit : c.salvage_gain-unit.result ≡ cent * (store_at c.args.season.now (suc left)).salvage = subst (λ n. c.salvage_gain-unit.result ≡ cent * (store_at c.args.season.now n).salvage) store c.salvage_gain-unit.ensures.value in
    let stock : c.stock.result ≡ (store_at c.args.season.now (suc left)).units = subst (λ n. c.stock.result ≡ (store_at c.args.season.now n).units) store c.stock.ensures.value in
    let rows : c.in_ok-values-2.values.items ≡ rows_of c.salvage_gain-unit.result c.loop-index.values.items (c.stock.result + 1) = c.in_ok-values-2.ensures ∙ ap (λ list. rows_of c.salvage_gain-unit.result list (c.stock.result + 1)) c.deref.ensures.value in
    record {
      values = subst (λ n. AreValues (stocks_from c.args.season.now n) (ends_from c.args.season.now n) c.in_ok-values-2.values.items) now
          (one_store_more c.args.season.now left c.salvage_gain-unit.result c.stock.result c.loop-index.values.items c.in_ok-values-2.values.items (omega (arith, inside)) unit stock rows
          (subst (λ n. AreValues (stocks_from c.args.season.now n) (ends_from c.args.season.now n) c.loop-index.values.items) before c.loop-index.invariant.values));
      reach = subst (λ list. AllWithin ((c.loop-index.index + 1) * most_gain) list) (sym rows)
          (subst (λ n. AllWithin n (rows_of c.salvage_gain-unit.result c.loop-index.values.items (c.stock.result + 1))) (more c.loop-index.index)
          (rows_within c.salvage_gain-unit.result (c.stock.result + 1) (c.loop-index.index * most_gain) c.loop-index.values.items c.salvage_gain-unit.ensures.range (omega (arith, c.stock.ensures.range)) c.loop-index.invariant.reach));
    }
  where
    more : (n : ℕ) → n * most_gain + most_gain ≡ (n + 1) * most_gain
    more n = omega arith

pub returns-clause-values : goal.returns-clause-values
returns-clause-values c =
    let ended : c.loop-index.index ≡ length c.args.season.now.stores = search rules in
    all_ends c.args.season.now c.loop-index.values.items (length c.args.season.now.stores - c.loop-index.index + 1) (omega (arith, ended)) c.loop-index.invariant.values
