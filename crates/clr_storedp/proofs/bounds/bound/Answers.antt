use Rattle.std.proofs.Common.{◌≡◌, ℕ, ◌<◌, ◌+◌, ◌*◌, suc, ℤ, pos, [], length, get_or, ap, sym, ◌∙◌, subst, arith, rules, SFits, to_z}
use Rattle.std.proofs.lemmas.Int.{to_z-of_z}
use mir.Syntax.{w64, w128}
use Rattle.clr_num.specs.Rounding.{ceil}
use Rattle.clr_num.specs.Sums.{sum_of}
use Rattle.clr_average.specs.Average.{IsWithin}
use Rattle.clr_mult.specs.Tables.{mult_at}
use Rattle.clr_rules.specs.LiveSummaries.{IsAmong}
use Rattle.clr_rules.specs.Rules.{Rulebook, summary}
use Rattle.clr_season.specs.Season.{store_at}
use Rattle.clr_model.specs.Expected.{Tops}
use Rattle.clr_model.specs.Revenue.{full_stocks, of_store}
use Rattle.clr_model.specs.StoreValue.{bound, store_value_at}
use Rattle.clr_model.proofs.StoreBounds.{bound_tops_lem}
use Rattle.clr_storedp.specs.Tables.{table_pairs, values_of}
use Rattle.clr_storedp.proofs.Totals.{has_start, read_more, size_next, start_value, stock_inside, sum_next, sums_of, table_at}
use Rattle.clr_storedp.proofs.bounds.bound.Goals as goal

pub at-requires-clause-entry : goal.at-requires-clause-entry
at-requires-clause-entry c =
    let inside : c.loop-index.index < length c.args.tables.now = omega (arith, c.loop-index-test.true, c.loop-index.auto.index-end) in
    let start = c.start-start.ensures ∙ ap (λ (r : Rulebook). summary r []) c.rules.ensures.value in
    subst (IsAmong (table_pairs c.index-tables-index.result) 0) (sym start)
    (has_start (mult_at c.args.mult.now) c.args.season.now c.loop-index.index c.index-tables-index.result c.rules.ensures.facts (omega (arith, inside, c.requires.tables.count))
    (table_at (mult_at c.args.mult.now) c.args.season.now c.args.tables.now c.loop-index.index c.index-tables-index.result c.requires.tables inside c.index-tables-index.is) c.has_entries.ensures)

pub at-requires-clause-stock : goal.at-requires-clause-stock
at-requires-clause-stock c =
    let inside : c.loop-index.index < length c.args.tables.now = omega (arith, c.loop-index-test.true, c.loop-index.auto.index-end) in
    let start = c.start-start.ensures ∙ ap (λ (r : Rulebook). summary r []) c.rules.ensures.value in
    let place : c.loop-index.index + 1 ≡ suc c.loop-index.index = omega arith in
    let stock : c.stock-stock.result ≡ (store_at c.args.season.now (suc c.loop-index.index)).units = c.stock-stock.ensures.value ∙ ap (λ n. (store_at c.args.season.now n).units) place in
    let here = stock_inside (mult_at c.args.mult.now) c.args.season.now c.loop-index.index c.index-tables-index.result c.rules.ensures.facts (omega (arith, inside, c.requires.tables.count))
    (table_at (mult_at c.args.mult.now) c.args.season.now c.args.tables.now c.loop-index.index c.index-tables-index.result c.requires.tables inside c.index-tables-index.is) c.has_entries.ensures in
    subst (λ s. c.stock-stock.result < length (values_of c.index-tables-index.result 0 s)) (sym start) (omega (arith, stock, here))

pub loop-index-preserved : goal.loop-index-preserved
loop-index-preserved c =
    let inside : c.loop-index.index < length c.args.tables.now = omega (arith, c.loop-index-test.true, c.loop-index.auto.index-end) in
    let start = c.start-start.ensures ∙ ap (λ (r : Rulebook). summary r []) c.rules.ensures.value in
    let place : c.loop-index.index + 1 ≡ suc c.loop-index.index = omega arith in
    let stock : c.stock-stock.result ≡ (store_at c.args.season.now (suc c.loop-index.index)).units = c.stock-stock.ensures.value ∙ ap (λ n. (store_at c.args.season.now n).units) place in
    let few : c.loop-index.index < 64 = omega (arith, inside, c.requires.tables.count, c.rules.ensures.facts.stores.few) in
    let fits : SFits w64 c.at.result = search rules in
    let read : c.from-total.result ≡ c.at.result = c.from-total.ensures ∙ to_z-of_z w64 c.at.result fits in
    let value : c.from-total.result ≡ store_value_at ceil (mult_at c.args.mult.now) c.args.season.now (suc c.loop-index.index) [] (of_store (full_stocks c.args.season.now) (suc c.loop-index.index))
    = read ∙ (c.at.ensures.value ∙ (ap (λ s. get_or (values_of c.index-tables-index.result 0 s) c.stock-stock.result (pos 0)) start
    ∙ start_value (mult_at c.args.mult.now) c.args.season.now c.loop-index.index c.index-tables-index.result c.rules.ensures.facts (omega (arith, inside, c.requires.tables.count))
    (table_at (mult_at c.args.mult.now) c.args.season.now c.args.tables.now c.loop-index.index c.index-tables-index.result c.requires.tables inside c.index-tables-index.is) c.has_entries.ensures c.stock-stock.result stock)) in
    let small : IsWithin 1000000000000000000 c.from-total.result = subst (IsWithin 1000000000000000000) (sym read) c.at.ensures.size in
    let f : ℕ → ℤ = λ i. store_value_at ceil (mult_at c.args.mult.now) c.args.season.now (suc i) [] (of_store (full_stocks c.args.season.now) (suc i)) in
    let more = read_more (λ i. store_value_at ceil (mult_at c.args.mult.now) c.args.season.now (suc i) [] (of_store (full_stocks c.args.season.now) (suc i))) c.loop-index.index (to_z w128 c.loop-index.total-bits) c.from-total.result few c.loop-index.invariant.sum c.loop-index.invariant.size value small in
    record {
      sum = more ∙ sum_next (λ i. store_value_at ceil (mult_at c.args.mult.now) c.args.season.now (suc i) [] (of_store (full_stocks c.args.season.now) (suc i))) c.loop-index.index (to_z w128 c.loop-index.total-bits) c.from-total.result few c.loop-index.invariant.sum c.loop-index.invariant.size value small;
      size = subst (IsWithin ((c.loop-index.index + 1) * 1000000000000000000)) (sym more) (size_next (λ i. store_value_at ceil (mult_at c.args.mult.now) c.args.season.now (suc i) [] (of_store (full_stocks c.args.season.now) (suc i))) c.loop-index.index (to_z w128 c.loop-index.total-bits) c.from-total.result few c.loop-index.invariant.sum c.loop-index.invariant.size value small);
    }

pub returns-clause-tops : goal.returns-clause-tops
returns-clause-tops c =
    let all : c.loop-index.index ≡ length c.args.season.now.stores = omega (arith, c.loop-index-test.false, c.loop-index.auto.index-end, c.requires.tables.count) in
    let value : to_z w128 c.loop-index.total-bits ≡ bound (mult_at c.args.mult.now) c.args.season.now
    = c.loop-index.invariant.sum ∙ ap (λ n. sum_of n (λ i. store_value_at ceil (mult_at c.args.mult.now) c.args.season.now (suc i) [] (of_store (full_stocks c.args.season.now) (suc i)))) all in
    subst (Tops c.args.season.now) (sym value) (bound_tops_lem c.args.season.now (mult_at c.args.mult.now) c.rules.ensures.facts (sums_of c.args.season.now c.args.mult.now c.requires.mult c.sums_to_zero.ensures))
