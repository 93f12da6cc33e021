-- What the stock file of a made season reads to.
use Rattle.std.proofs.Common.{◌≡◌, ◌≤◌, ◌+◌, ◌-◌, ◌∙◌, ℕ, zero, suc, List, [], ◌∷◌, ◌++◌, length, map, true, false, Ok, Option, None, Some, refl, sym, ap, arith, codes, rules}
use Rattle.std.specs.List.{AllByRecursion, list_all}
use Rattle.std.specs.Option.{is_none}
use Rattle.std.specs.Str.{chars, is_utf8}
use lib.Utf8.{encode}
use Rattle.csv.specs.Reading.{strip_bom}
use Rattle.clr_num.specs.Lists.{numbers}
use Rattle.clr_num.specs.Money.{padded}
use Rattle.clr_text.specs.Fields.{whole_of}
use Rattle.clr_text.specs.Judged.{counted, judged, money_at}
use Rattle.clr_text.specs.Tables.{table_of}
use Rattle.clr_text.specs.Names.{names_store, number_of}
use Rattle.clr_stock.specs.Stock.{Store, cost_at, holding_at, stock_columns, stock_of, stock_row}
use Rattle.clr_make.specs.Draws.{draw}
use Rattle.clr_make.specs.Made.{draws_before, lines, made_stock, made_units, stock_rows, store_fields, store_name}
use Rattle.clr_make.proofs.FieldLemmas.{number-read, plain-decimal, plain-name}
use Rattle.clr_make.proofs.LineLemmas.{numbers-more}
use Rattle.clr_make.proofs.RangeLemmas.{all-map, numbers-length, passes-at}
use Rattle.std.proofs.lemmas.List.{length-map, map-append}
use Rattle.csv.proofs.OnLiterals.{csv_on_literals}
use Rattle.clr_make.proofs.TableLemmas.{IsPlain, IsPlainRow, table-read}

abbrev pub made_store : ℕ → ℕ → Store
made_store seed store = record { name = store_name store; units = made_units seed store; salvage = 500; relabel = 0 }

unfoldable pub made_stores : ℕ → List Store
made_stores seed = map (made_store seed) (numbers 1 24)

pub units-range : (seed store : ℕ) → (20 ≤ made_units seed store) × (made_units seed store ≤ 60)
units-range seed store = let d = draw seed (draws_before store + 1) in (omega arith, omega arith)

-- ---- the names

names-good : list_all (λ store. names_store (store_name store)) (numbers 1 24) ≡ true
unfolding names_store is_utf8 chars padded encode
names-good = refl

names-new : list_all (λ store. is_none (number_of (map store_name (numbers 1 (store - 1))) (store_name store))) (numbers 1 24) ≡ true
unfolding number_of padded
names-new = refl

none-of : {X : Type 0} (o : Option X) → is_none o ≡ true → o ≡ None
none-of None e = refl
none-of (Some x) e = cc e

pub name-good : (store : ℕ) → 1 ≤ store → store ≤ 24 → names_store (store_name store) ≡ true
name-good store low high = passes-at (λ s. names_store (store_name s)) 1 24 store names-good low (omega arith)

-- no store before has the name of one
pub name-new : (store : ℕ) → 1 ≤ store → store ≤ 24 → number_of (map store_name (numbers 1 (store - 1))) (store_name store) ≡ None
name-new store low high = none-of _ (passes-at (λ s. is_none (number_of (map store_name (numbers 1 (s - 1))) (store_name s))) 1 24 store names-new low (omega arith))

map-names : (seed : ℕ) (stores : List ℕ) → map (λ (s : Store). s.name) (map (made_store seed) stores) ≡ map store_name stores
map-names seed [] = refl
map-names seed (n ∷ stores) = ap (λ t. store_name n ∷ t) (map-names seed stores)

pub made_names : (seed : ℕ) → map (λ (s : Store). s.name) (made_stores seed) ≡ map store_name (numbers 1 24)
unfolding made_stores
made_names seed = map-names seed (numbers 1 24)

-- ---- the rows

row-read : (seed store row : ℕ) → 1 ≤ store → store ≤ 24 →
    stock_row false row (map (made_store seed) (numbers 1 (store - 1))) (store_fields store (made_units seed store)) ≡ Ok (map (made_store seed) (numbers 1 (store - 1)) ++ made_store seed store ∷ [])
unfolding stock_row holding_at cost_at money_at whole_of
row-read seed store row low high =
    let good = name-good store low high in
    let range = units-range seed store in
    let units = number-read row 2 0 2000 (made_units seed store) (omega arith) (omega (arith, range.1)) (omega (arith, range.1)) in
    let new : number_of (map (λ (s : Store). s.name) (map (made_store seed) (numbers 1 (store - 1)))) (store_name store) ≡ None =
    ap (λ ns. number_of ns (store_name store)) (map-names seed (numbers 1 (store - 1))) ∙ name-new store low high in
    rw (good, units, new) refl

abbrev made_row : ℕ → ℕ → List (List ℕ)
made_row seed store = store_fields store (made_units seed store)

store-more : (seed count : ℕ) → map (made_store seed) (numbers 1 count) ++ made_store seed (suc count) ∷ [] ≡ map (made_store seed) (numbers 1 (suc count))
store-more seed count =
    let last : 1 + count ≡ suc count = omega arith in
    sym (ap (λ ns. map (made_store seed) ns) (numbers-more 1 count) ∙ (map-append (made_store seed) (numbers 1 count) ((1 + count) ∷ []) ∙ ap (λ k. map (made_store seed) (numbers 1 count) ++ made_store seed k ∷ []) last))

rows-judged : (seed before count : ℕ) → before + count ≤ 24 →
    judged (stock_row false) (suc before) (map (made_store seed) (numbers 1 before)) (map (made_row seed) (numbers (suc before) count)) ≡ Ok (map (made_store seed) (numbers 1 (before + count)))
rows-judged seed before zero le = let all : before + 0 ≡ before = omega arith in rw all refl
rows-judged seed before (suc count) le =
    let here : suc before - 1 ≡ before = omega arith in
    let next : suc before + 1 ≡ suc (suc before) = omega arith in
    let all : before + suc count ≡ suc before + count = omega arith in
    let read : stock_row false (suc before) (map (made_store seed) (numbers 1 before)) (made_row seed (suc before)) ≡ Ok (map (made_store seed) (numbers 1 (suc before))) =
    rw here at (row-read seed (suc before) (suc before) (omega arith) (omega arith)) ∙ ap Ok (store-more seed before) in
    let under : suc before + count ≤ 24 = omega arith in
    rw (read, next, all) (rows-judged seed (suc before) count under)

-- ---- the file

price-plain : IsPlain (codes "5.00")
price-plain = search rules

rows-plain : (seed : ℕ) → AllByRecursion (IsPlainRow 3) (stock_rows seed)
unfolding stock_rows
rows-plain seed =
    all-map (IsPlainRow 3) (made_row seed) 1 24 (λ store low high.
    let range = units-range seed store in
    record { count = refl; plain = (plain-name store, (plain-decimal (made_units seed store) (omega (arith, range.1)), (price-plain, tt))) })

columns-plain : AllByRecursion IsPlain (stock_columns false)
columns-plain = search rules

stock-start : (seed : ℕ) → strip_bom (lines (stock_columns false ∷ stock_rows seed)) ≡ lines (stock_columns false ∷ stock_rows seed)
unfolding lines csv_on_literals
stock-start seed = refl

stock-table : (seed : ℕ) → table_of (stock_columns false) (made_stock seed) ≡ Ok (stock_rows seed)
unfolding made_stock
stock-table seed = table-read (stock_columns false) (stock_rows seed) (omega arith) refl columns-plain (rows-plain seed) (stock-start seed)

pub stock-count : (seed : ℕ) → length (stock_rows seed) ≡ 24
unfolding stock_rows
stock-count seed = length-map (numbers 1 24) (made_row seed) ∙ numbers-length 1 24

pub stock-read : (seed : ℕ) → stock_of false (made_stock seed) ≡ Ok (made_stores seed)
unfolding stock_of counted made_stores stock_rows
stock-read seed = rw (stock-table seed, stock-count seed) (rows-judged seed 0 24 (omega arith))
