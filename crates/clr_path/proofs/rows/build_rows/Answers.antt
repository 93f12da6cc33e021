use Rattle.std.proofs.Common.{◌≡◌, ℕ, suc, ◌+◌, ◌*◌, ◌≤◌, ◌++◌, ℤ, pos, ◌*ℤ◌, length, ap, ap₂, sym, ◌∙◌, subst, subst₂, refl, arith, rules, mul-le-mul, List, take, drop, append-nil, le_refl, Fits}
use Rattle.std.proofs.lemmas.List.{drop_all, take_all}
use mir.Syntax.{w64}
use Rattle.clr_season.specs.Season.{Season, store_at}
use Rattle.clr_model.specs.Revenue.{cent, salvage_cents}
use Rattle.clr_model.proofs.Sizes.{path_value_within}
use Rattle.clr_average.specs.Average.{IsWithin}
use Rattle.clr_model.specs.PathValue.{path_value_at}
use Rattle.clr_path.specs.Flat.{AreRows, flat_rows}
use Rattle.clr_path.proofs.FlatLemmas.{flat_rows_are}
use Rattle.clr_path.proofs.Lists.{length-numbers}
use Rattle.clr_path.proofs.Steps.{rows_begin, rows_within}
use Rattle.clr_path.proofs.rows.build_rows.Goals as goal

reach_most : (unit stock cost weeks : ℕ) → unit ≤ 10000000000000 → stock ≤ 2000 → cost ≤ 10000000 → weeks ≤ 52 → unit * stock + 1000000 * cost * weeks ≤ 1000000000000000000
reach_most unit stock cost weeks a b c d =
    let p : unit * stock ≤ 10000000000000 * 2000 = mul-le-mul a b in
    let top : 1000000 * cost ≤ 10000000000000 = omega arith in
    let q : 1000000 * cost * weeks ≤ 10000000000000 * 52 = mul-le-mul top d in
    omega arith

-- numbers through equations
most_by : (a b most : ℕ) → a ≡ b → b ≤ most → a ≤ most
most_by a b most e le = omega arith

weeks_most : (a b c d : ℕ) → a ≡ b → b ≡ c → c ≡ d → d ≤ 52 → a ≤ 52
weeks_most a b c d e f g le = omega arith

fits_64 : (n : ℕ) → n ≤ 1000000000000000000 → Fits w64 n
fits_64 n le = record { fits = omega (arith, le) }

unit_fits : (unit stock : ℕ) → unit ≤ 10000000000000 → stock ≤ 2000 → Fits w64 (unit * stock)
unit_fits unit stock a b = let p : unit * stock ≤ 10000000000000 * 2000 = mul-le-mul a b in fits_64 (unit * stock) (omega (arith, p))

cost_fits : (cost weeks : ℕ) → cost ≤ 10000000 → weeks ≤ 52 → Fits w64 (1000000 * cost * weeks)
cost_fits cost weeks a b =
    let top : 1000000 * cost ≤ 10000000000000 = omega arith in
    let p : 1000000 * cost * weeks ≤ 10000000000000 * 52 = mul-le-mul top b in
    fits_64 (1000000 * cost * weeks) (omega (arith, p))

width_fits : (stock weeks : ℕ) → stock ≤ 2000 → weeks ≤ 52 → Fits w64 ((stock + 1) * (weeks + 1))
width_fits stock weeks a b =
    let rows : stock + 1 ≤ 2001 = omega arith in
    let lines : weeks + 1 ≤ 53 = omega arith in
    let p : (stock + 1) * (weeks + 1) ≤ 2001 * 53 = mul-le-mul rows lines in
    fits_64 ((stock + 1) * (weeks + 1)) (omega (arith, p))

-- a written part of a list in its place
written_size : (items now : List ℤ) (len width : ℕ) → length now ≡ length items → len ≡ length items → length items ≡ width → length (take len (now ++ drop (length now) items)) ≡ width
written_size items now len width same size is =
    ap length (ap (take len) (ap (λ t. now ++ t) (drop_all (length now) items (subst (λ n. length items ≤ n) (sym same) (le_refl (length items)))) ∙ append-nil now)
    ∙ take_all len now (subst (λ n. n ≤ len) (sym same) (subst (λ n. length items ≤ n) (sym size) (le_refl (length items))))) ∙ (same ∙ is)

two_more : (n : ℕ) → n + 2 ≡ n + 1 + 1
two_more n = omega arith

width_most : (n stock : ℕ) → n ≡ stock + 1 → stock ≤ 2000 → n ≤ 2001
width_most n stock e le = omega arith

pub overflow_mul-reach : goal.overflow_mul-reach
overflow_mul-reach g c = unit_fits c.dearest.result c.from.result c.dearest.ensures.range (most_by c.from.result c.stock-stock.result 2000 c.from.ensures c.stock-stock.ensures.range)

pub overflow_mul-reach-2 : goal.overflow_mul-reach-2
overflow_mul-reach-2 g c = cost_fits c.relabel-cost.result c.from-2.result c.relabel-cost.ensures.range (weeks_most c.from-2.result c.len-weeks.result _ _ c.from-2.ensures c.len-weeks.ensures c.requires.path.weeks c.requires.season.rules.last_week)

pub overflow_add-reach : goal.overflow_add-reach
overflow_add-reach g c =
    fits_64 (c.dearest.result * c.from.result + 1000000 * c.relabel-cost.result * c.from-2.result)
    (reach_most c.dearest.result c.from.result c.relabel-cost.result c.from-2.result c.dearest.ensures.range (most_by c.from.result c.stock-stock.result 2000 c.from.ensures c.stock-stock.ensures.range) c.relabel-cost.ensures.range
    (weeks_most c.from-2.result c.len-weeks.result _ _ c.from-2.ensures c.len-weeks.ensures c.requires.path.weeks c.requires.season.rules.last_week))

pub overflow_mul-width : goal.overflow_mul-width
overflow_mul-width g c = width_fits c.stock-stock.result c.len-weeks.result c.stock-stock.ensures.range (weeks_most c.len-weeks.result _ _ _ c.len-weeks.ensures c.requires.path.weeks refl c.requires.season.rules.last_week)

pub push_row-requires-clause-width : goal.push_row-requires-clause-width
push_row-requires-clause-width g c = width_most (length c.deref_mut.result.now) c.stock-stock.result (ap length c.deref_mut.ensures.value ∙ c.loop-back.invariant.row) c.stock-stock.ensures.range

pub push_row-requires-clause-rows : goal.push_row-requires-clause-rows
push_row-requires-clause-rows g c =
    subst (λ n. AreRows g.R.Direction.quotient c.args.season.now c.args.store c.args.path.now (length c.args.path.now) n (c.loop-back.back + 1) c.loop-back.values.items) (sym (ap length c.deref_mut.ensures.value ∙ c.loop-back.invariant.row)) c.loop-back.invariant.rows

pub loop-back-preserved : goal.loop-back-preserved
loop-back-preserved g c =
    let width : length c.deref_mut.result.now ≡ c.stock-stock.result + 1 = ap length c.deref_mut.ensures.value ∙ c.loop-back.invariant.row in
    record {
      row = written_size c.loop-back.row.items c.push_row.new.row c.loop-back.row.len (c.stock-stock.result + 1) (search rules) c.loop-back.row.ok.0 c.loop-back.invariant.row;
      rows = subst₂ (λ n k. AreRows g.R.Direction.quotient c.args.season.now c.args.store c.args.path.now (length c.args.path.now) n k c.push_row.new.values.items) width (two_more c.loop-back.back) c.in_ok-push_row.ensures;
    }

paid : (season : Season) (store cost : ℕ) → cost ≡ (store_at season store).relabel → cent * (store_at season store).relabel ≤ 1000000 * cost
unfolding cent
paid season store cost is = omega (arith, is)

pub loop-back-init : goal.loop-back-init
loop-back-init g c =
    let worth : ℕ → ℤ = λ stock. pos cent *ℤ salvage_cents c.args.season.now c.args.store stock in
    record {
      row = ap length c.in_ok-row.ensures ∙ length-numbers worth 0 (c.stock-stock.result + 1);
      rows = rows_begin g.R.Direction.quotient c.args.season.now c.args.store c.args.path.now (c.stock-stock.result + 1) c.extend_from_slice.new.self.items
          (c.in_ok-extend_from_slice.ensures.items ∙ (ap₂ ◌++◌ c.in_ok-values.ensures.items c.deref.ensures.value ∙ c.in_ok-row.ensures));
    }

pub push_row-requires-clause-reach : goal.push_row-requires-clause-reach
push_row-requires-clause-reach g c =
    reach_most c.dearest.result c.from.result c.relabel-cost.result c.from-2.result c.dearest.ensures.range (most_by c.from.result c.stock-stock.result 2000 c.from.ensures c.stock-stock.ensures.range) c.relabel-cost.ensures.range
    (weeks_most c.from-2.result c.len-weeks.result _ _ c.from-2.ensures c.len-weeks.ensures c.requires.path.weeks c.requires.season.rules.last_week)

pub push_row-requires-clause-sizes : goal.push_row-requires-clause-sizes
push_row-requires-clause-sizes g c =
    let season = c.args.season.now in
    let path = c.args.path.now in
    let units : c.from.result ≡ (store_at season c.args.store).units = c.from.ensures ∙ c.stock-stock.ensures.value in
    let weeks : c.from-2.result ≡ season.rules.weeks = c.from-2.ensures ∙ (c.len-weeks.ensures ∙ c.requires.path.weeks) in
    rows_within g.R.Direction.quotient season c.args.store path (length path) (c.stock-stock.result + 1) (c.loop-back.back + 1) (c.dearest.result * c.from.result + 1000000 * c.relabel-cost.result * c.from-2.result) c.loop-back.values.items c.loop-back.invariant.rows (omega arith)
    (λ done stock early short. subst (λ n. IsWithin (c.dearest.result * n + 1000000 * c.relabel-cost.result * c.from-2.result) (path_value_at g.R.Direction.quotient season c.args.store path done stock)) (sym units)
    (subst (λ n. IsWithin (c.dearest.result * (store_at season c.args.store).units + 1000000 * c.relabel-cost.result * n) (path_value_at g.R.Direction.quotient season c.args.store path done stock)) (sym weeks)
    (path_value_within g.R.Direction.leans g.R.Direction.quotient g.met.R.Direction.laws season c.args.store path c.dearest.result (1000000 * c.relabel-cost.result) done stock c.requires.season c.requires.low c.requires.high c.requires.path
    c.dearest.ensures.prices c.dearest.ensures.salvage (paid season c.args.store c.relabel-cost.result c.relabel-cost.ensures.value) early (omega (arith, short, c.stock-stock.ensures.value)))))

pub returns : goal.returns
returns g c =
    let season = c.args.season.now in
    let path = c.args.path.now in
    let width = c.stock-stock.result + 1 in
    let done : c.loop-back.back + 1 ≡ suc (length path) = omega (arith, c.loop-back-test.false, c.loop-back.auto.back-end, c.len-weeks.ensures) in
    ap (λ w. flat_rows w width c.loop-back.values.items) c.len-weeks.ensures
    ∙ flat_rows_are g.R.Direction.quotient season c.args.store path width c.loop-back.values.items (subst (λ n. AreRows g.R.Direction.quotient season c.args.store path (length path) width n c.loop-back.values.items) done c.loop-back.invariant.rows) (omega (arith, c.stock-stock.ensures.value))
