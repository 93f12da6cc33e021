-- The files of a made season are short enough to be read.
use Rattle.std.proofs.Common.{◌≡◌, ◌≤◌, ◌+◌, ◌*◌, ◌∙◌, ℕ, suc, List, [], ◌∷◌, ◌++◌, length, map, false, refl, sym, ap, arith, codes, decimal, length-append}
use Rattle.std.specs.List.{AllByRecursion}
use Rattle.std.proofs.lemmas.Fmt.{length-decimal-le_wide}
use Rattle.std.proofs.lemmas.List.{length-map}
use Rattle.clr_num.specs.Money.{padded}
use Rattle.clr_stock.specs.Stock.{stock_columns}
use Rattle.clr_demand.specs.Demand.{Listed, demand_columns}
use Rattle.clr_make.specs.Made.{demand_rows, line, lines, made_demand, made_stock, made_units, stock_rows, store_fields, store_name}
use Rattle.clr_make.proofs.DemandRows.{AreInOrder, fields_of, listed-fields, made-order, made_listed, order-length, place, place_of}
use Rattle.clr_make.proofs.RangeLemmas.{all-map}
use Rattle.clr_make.proofs.StockReads.{stock-count, units-range}

-- a row of which no line is longer than 40 bytes
abbrev IsShort : List (List ℕ) → Type 0
IsShort fields = length (line fields) ≤ 40

short-lines : (rows : List (List (List ℕ))) → AllByRecursion IsShort rows → length (lines rows) ≤ length rows * 40
unfolding lines
short-lines [] p = omega arith
short-lines (fields ∷ rows) p =
    let rest = short-lines rows p.1 in
    let split = length-append (line fields) (lines rows) in
    omega (arith, split, rest, p.0)

-- ---- the length of a line

name-length : (store : ℕ) → length (store_name store) ≡ 3
unfolding padded
name-length store = refl

two-fields : (a b : List ℕ) → length (a ++ 44 ∷ b) ≡ length a + length b + 1
two-fields a b = length-append a (44 ∷ b) ∙ omega arith

three-fields : (a b c : List ℕ) → length (line (a ∷ b ∷ c ∷ [])) ≡ length a + length b + length c + 3
three-fields a b c =
    let last = length-append (a ++ 44 ∷ (b ++ 44 ∷ c)) (10 ∷ []) in
    let first = two-fields a (b ++ 44 ∷ c) in
    let second = two-fields b c in
    omega (arith, last, first, second)

five-fields : (a b c d e : List ℕ) → length (line (a ∷ b ∷ c ∷ d ∷ e ∷ [])) ≡ length a + length b + length c + length d + length e + 5
five-fields a b c d e =
    let last = length-append (a ++ 44 ∷ (b ++ 44 ∷ (c ++ 44 ∷ (d ++ 44 ∷ e)))) (10 ∷ []) in
    let first = two-fields a (b ++ 44 ∷ (c ++ 44 ∷ (d ++ 44 ∷ e))) in
    let second = two-fields b (c ++ 44 ∷ (d ++ 44 ∷ e)) in
    let third = two-fields c (d ++ 44 ∷ e) in
    let fourth = two-fields d e in
    omega (arith, last, first, second, third, fourth)

few-digits : (n : ℕ) → n ≤ 200 → length (decimal n) ≤ 3
few-digits n le = length-decimal-le_wide 3 n (omega arith) (omega arith) (omega arith)

-- ---- the rows

stock-short : (seed : ℕ) → AllByRecursion IsShort (stock_rows seed)
unfolding stock_rows
stock-short seed =
    all-map IsShort (λ store. store_fields store (made_units seed store)) 1 24 (λ store low high.
    let range = units-range seed store in
    let all = three-fields (store_name store) (decimal (made_units seed store)) (codes "5.00") in
    let name = name-length store in
    let units = few-digits (made_units seed store) (omega (arith, range.1)) in
    omega (arith, all, name, units))

demand-short : (low high : ℕ) (rows : List Listed) → AreInOrder low high rows → AllByRecursion IsShort (map fields_of rows)
demand-short low high [] q = tt
demand-short low high (l ∷ rows) q =
    let is = q.1 in
    let all = five-fields (store_name l.store) (decimal l.week) (decimal l.rung) (decimal l.units) (decimal l.weight) in
    let name = name-length l.store in
    let week = few-digits l.week (omega (arith, is.week_high)) in
    let rung = few-digits l.rung (omega (arith, is.rung_high)) in
    let units = few-digits l.units is.units_high in
    let weight = few-digits l.weight (omega (arith, is.weight_high)) in
    (omega (arith, all, name, week, rung, units, weight), demand-short (suc (place_of l)) high rows q.2)

-- ---- the files

pub stock-length : (seed : ℕ) → length (made_stock seed) ≤ 1000
unfolding made_stock
stock-length seed =
    let short : AllByRecursion IsShort (stock_columns false ∷ stock_rows seed) = (omega arith, stock-short seed) in
    let all = short-lines (stock_columns false ∷ stock_rows seed) short in
    let count = stock-count seed in
    omega (arith, all, count)

pub demand-length : (seed : ℕ) → length (made_demand seed) ≤ 33554432
unfolding made_demand
demand-length seed =
    let order = made-order seed in
    let rows : AllByRecursion IsShort (demand_rows seed) = rw (listed-fields seed) at (demand-short (place 1 0 0 0) (place 25 0 0 0) (made_listed seed) order) in
    let short : AllByRecursion IsShort (demand_columns ∷ demand_rows seed) = (omega arith, rows) in
    let all = short-lines (demand_columns ∷ demand_rows seed) short in
    let same : length (demand_rows seed) ≡ length (made_listed seed) = ap length (sym (listed-fields seed)) ∙ length-map (made_listed seed) fields_of in
    let count = order-length (place 1 0 0 0) (place 25 0 0 0) (made_listed seed) order in
    omega (arith, all, same, count)
