use Rattle.std.proofs.Common.{◌≡◌, ◌<◌, ℤ, ℕ, suc, get_or, length, ap, sym, ◌∙◌, add-one, arith, to_z}
use Rattle.std.proofs.lemmas.List.{get_or-map}
use mir.Syntax.{w64}
use Rattle.clr_stock.specs.Stock.{no_store}
use Rattle.clr_season.specs.Season.{store_at}
use Rattle.clr_model.specs.Revenue.{full_stocks, store_revenue}
use Rattle.clr_plain.specs.Plain.{asked_of}
use Rattle.clr_plain.proofs.Totals.{store_size, store_sum}
use Rattle.clr_plain.proofs.revenue.revenue.Goals as goal

pub loop-index-preserved : goal.loop-index-preserved
loop-index-preserved c =
    let i : ℕ = c.loop-index.index in
    let lt : c.loop-index.index < length c.args.season.now.stores = omega (arith, c.loop-index-test.true, c.stores-index-end.ensures.value) in
    let few : c.loop-index.index < 64 = omega (arith, lt, c.stores-index-end.ensures.facts.stores.few) in
    let f : ℕ → ℤ = λ i. store_revenue c.args.season.now (suc i) 1 (get_or (full_stocks c.args.season.now) i 0) c.args.path.now (asked_of c.args.season.now c.args.path.now (suc i) c.args.asked.now) in
    let stock : (store_at c.args.season.now (suc c.loop-index.index)).units ≡ get_or (full_stocks c.args.season.now) c.loop-index.index 0 = sym (get_or-map (λ store. store.units) c.args.season.now.stores c.loop-index.index no_store 0 lt) in
    let here : c.store_revenue-total.result ≡ f c.loop-index.index = c.store_revenue-total.ensures.value
    ∙ (ap (λ s. store_revenue c.args.season.now s 1 (store_at c.args.season.now s).units c.args.path.now (asked_of c.args.season.now c.args.path.now s c.args.asked.now)) (add-one c.loop-index.index)
    ∙ ap (λ n. store_revenue c.args.season.now (suc c.loop-index.index) 1 n c.args.path.now (asked_of c.args.season.now c.args.path.now (suc c.loop-index.index) c.args.asked.now)) stock) in
    record {
      value = store_sum c.loop-index.index (to_z w64 c.loop-index.total-bits) c.store_revenue-total.result f few c.loop-index.invariant.value c.loop-index.invariant.size here c.store_revenue-total.ensures.size;
      size = store_size c.loop-index.index (to_z w64 c.loop-index.total-bits) c.store_revenue-total.result f few c.loop-index.invariant.value c.loop-index.invariant.size here c.store_revenue-total.ensures.size;
    }
