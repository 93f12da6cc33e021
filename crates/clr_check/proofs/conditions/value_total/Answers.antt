use Rattle.std.proofs.Common.{◌≡◌, ◌∙◌, ◌+◌, ◌*◌, ◌≤◌, ℕ, ℤ, List, ap, ap₂, arith, get_or, pos, suc, add-one, to_z}
use mir.Syntax.{w128}
use Rattle.clr_average.specs.Average.{IsWithin}
use Rattle.clr_cert.specs.Entries.{most_entry}
use Rattle.clr_cert.specs.Lines.{full_stock}
use Rattle.clr_check.specs.Rows.{kept_at}
use Rattle.clr_check.specs.Standing.{row_number, stock_count}
use Rattle.clr_check.proofs.ConditionsLemmas.{entry_read, total_fits, total_more}
use Rattle.clr_check.proofs.conditions.value_total.Goals as goal

pub overflow_add-total : goal.overflow_add-total
overflow_add-total c =
    let f : ℕ → ℤ = λ i. kept_at c.args.rows.now (row_number (suc i) 0) (c.args.place * stock_count c.args.season.now (suc i) + full_stock c.args.season.now (suc i)) in
    let entry : get_or c.row.result.now (c.args.place * (c.stock-stock.result + 1) + c.stock-stock.result) (pos 0) ≡ f c.loop-index.index = ap (λ (r : List ℤ). get_or r (c.args.place * (c.stock-stock.result + 1) + c.stock-stock.result) (pos 0)) c.row.ensures ∙ ap₂ (kept_at c.args.rows.now) (c.row_number.ensures ∙ ap (λ n. row_number n 0) (add-one c.loop-index.index)) (let u : c.stock-stock.result ≡ full_stock c.args.season.now (suc c.loop-index.index) = c.stock-stock.ensures.value ∙ ap (λ n. full_stock c.args.season.now n) (add-one c.loop-index.index) in ap (λ n. c.args.place * (n + 1) + n) u ∙ ap (λ n. c.args.place * n + full_stock c.args.season.now (suc c.loop-index.index)) (add-one (full_stock c.args.season.now (suc c.loop-index.index)))) in
    let small : IsWithin most_entry (f c.loop-index.index) = c.requires.small _ _ in
    let is : c.from-total.result ≡ f c.loop-index.index = c.from-total.ensures ∙ entry_read _ (f c.loop-index.index) entry small in
    let few : c.loop-index.index + 1 ≤ 64 = omega (arith, c.loop-index-test.true, c.stores-index-end.ensures.value, c.stores-index-end.ensures.facts.stores.few) in
    total_fits f c.loop-index.index (to_z w128 c.loop-index.total-bits) c.from-total.result is small few c.loop-index.invariant.size

pub loop-index-preserved : goal.loop-index-preserved
loop-index-preserved c =
    let f : ℕ → ℤ = λ i. kept_at c.args.rows.now (row_number (suc i) 0) (c.args.place * stock_count c.args.season.now (suc i) + full_stock c.args.season.now (suc i)) in
    let entry : get_or c.row.result.now (c.args.place * (c.stock-stock.result + 1) + c.stock-stock.result) (pos 0) ≡ f c.loop-index.index = ap (λ (r : List ℤ). get_or r (c.args.place * (c.stock-stock.result + 1) + c.stock-stock.result) (pos 0)) c.row.ensures ∙ ap₂ (kept_at c.args.rows.now) (c.row_number.ensures ∙ ap (λ n. row_number n 0) (add-one c.loop-index.index)) (let u : c.stock-stock.result ≡ full_stock c.args.season.now (suc c.loop-index.index) = c.stock-stock.ensures.value ∙ ap (λ n. full_stock c.args.season.now n) (add-one c.loop-index.index) in ap (λ n. c.args.place * (n + 1) + n) u ∙ ap (λ n. c.args.place * n + full_stock c.args.season.now (suc c.loop-index.index)) (add-one (full_stock c.args.season.now (suc c.loop-index.index)))) in
    let small : IsWithin most_entry (f c.loop-index.index) = c.requires.small _ _ in
    let is : c.from-total.result ≡ f c.loop-index.index = c.from-total.ensures ∙ entry_read _ (f c.loop-index.index) entry small in
    let few : c.loop-index.index + 1 ≤ 64 = omega (arith, c.loop-index-test.true, c.stores-index-end.ensures.value, c.stores-index-end.ensures.facts.stores.few) in
    let more = total_more f c.loop-index.index (to_z w128 c.loop-index.total-bits) c.from-total.result is small few c.loop-index.invariant.sum c.loop-index.invariant.size in
    record { sum = more.0; size = more.1 }
