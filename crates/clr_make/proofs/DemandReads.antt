-- What the demand file of a made season reads to, before its totals.
use Rattle.std.proofs.Common.{◌≡◌, ◌<◌, ◌≤◌, ◌+◌, ◌∙◌, ℕ, suc, List, [], ◌∷◌, ◌++◌, map, Bool, true, false, Ok, Option, None, Some, refl, sym, ap, arith, append_assoc, rules}
use Rattle.std.specs.Prelude.{◌&&◌, ◌==◌, unwrap_or}
use Rattle.std.specs.List.{AllByRecursion, list_all}
use Rattle.std.proofs.lemmas.Bool.{eqb-true}
use Rattle.std.proofs.lemmas.List.{append-nil}
use Rattle.csv.proofs.OnLiterals.{csv_on_literals}
use Rattle.csv.specs.Reading.{strip_bom}
use Rattle.clr_num.specs.Lists.{numbers}
use Rattle.clr_num.specs.Money.{padded}
use Rattle.clr_text.specs.Judged.{judged}
use Rattle.clr_text.specs.Names.{number_of}
use Rattle.clr_text.specs.Tables.{table_of}
use Rattle.clr_demand.specs.Demand.{IsListed, Listed, demand_columns, demand_row, listed_at, listed_of, row_from, same_demand}
use Rattle.clr_make.specs.Made.{demand_rows, lines, made_demand, store_name}
use Rattle.clr_make.proofs.DemandRows.{AreInOrder, fields_of, listed-fields, made-order, made_listed, made_sizes, place, place_of}
use Rattle.clr_make.proofs.FieldLemmas.{number-read, plain-decimal, plain-name}
use Rattle.clr_make.proofs.RangeLemmas.{passes-at}
use Rattle.clr_make.proofs.TableLemmas.{IsPlain, IsPlainRow, table-read}

-- ---- the names

abbrev pub store_names : List (List ℕ)
store_names = map store_name (numbers 1 24)

names-known : list_all (λ store. unwrap_or (number_of store_names (store_name store)) 0 == store) (numbers 1 24) ≡ true
unfolding number_of padded
names-known = refl

some-of : (o : Option ℕ) (n : ℕ) → 1 ≤ n → (unwrap_or o 0 == n) ≡ true → o ≡ Some n
some-of None n low e = let same = eqb-true 0 n e in absurd (omega (arith, same))
some-of (Some m) n low e = ap (λ k. Some k) (eqb-true m n e)

name-known : (store : ℕ) → 1 ≤ store → store ≤ 24 → number_of store_names (store_name store) ≡ Some store
name-known store low high = some-of _ store low (passes-at (λ s. unwrap_or (number_of store_names (store_name s)) 0 == s) 1 24 store names-known low (omega arith))

-- ---- a row

fields-read : (l : Listed) (row : ℕ) → IsListed 24 made_sizes l → listed_at store_names made_sizes row (fields_of l) ≡ Ok l
unfolding listed_at
fields-read l row p =
    let store = name-known l.store p.store_low p.store_high in
    let week = number-read row 2 1 12 l.week p.week_low p.week_high (omega (arith, p.week_high)) in
    let rung = number-read row 3 1 6 l.rung p.rung_low p.rung_high (omega (arith, p.rung_high)) in
    let units = number-read row 4 0 200 l.units (omega arith) p.units_high (omega (arith, p.units_high)) in
    let weight = number-read row 5 0 100 l.weight (omega arith) p.weight_high (omega (arith, p.weight_high)) in
    rw (store, week, rung, units, weight) refl

-- rows before a place list no demand of it
abbrev AreBelow : ℕ → List Listed → Type 0
AreBelow low rows = AllByRecursion (λ l. place_of l < low) rows

below-more : (low : ℕ) (rows : List Listed) (l : Listed) → AreBelow low rows → low ≤ place_of l → AreBelow (suc (place_of l)) (rows ++ l ∷ [])
below-more low [] l p le = (omega arith, tt)
below-more low (r ∷ rows) l p le = (omega (arith, p.0), below-more low rows l p.1 le)

parts-of : (a b c d : Bool) → (a && (b && (c && d))) ≡ true → (a ≡ true) × (b ≡ true) × (c ≡ true) × (d ≡ true)
parts-of true true true true e = (refl, refl, refl, refl)
parts-of true true true false e = cc e
parts-of true true false d e = cc e
parts-of true false c d e = cc e
parts-of false b c d e = cc e

false-unless : (b : Bool) → (b ≡ true → ⊥) → b ≡ false
false-unless true h = absurd (h refl)
false-unless false h = refl

other-place : (a b : Listed) → place_of b < place_of a → same_demand a b ≡ false
other-place a b less =
    false-unless (same_demand a b) (λ e.
    let parts = parts-of (a.store == b.store) (a.week == b.week) (a.rung == b.rung) (a.units == b.units) e in
    let store = eqb-true a.store b.store parts.0 in
    let week = eqb-true a.week b.week parts.1 in
    let rung = eqb-true a.rung b.rung parts.2 in
    let units = eqb-true a.units b.units parts.3 in
    omega (arith, store, week, rung, units))

no-row : (low row : ℕ) (rows : List Listed) (l : Listed) → AreBelow low rows → low ≤ place_of l → row_from (same_demand l) row rows ≡ 0
no-row low row [] l p le = refl
no-row low row (r ∷ rows) l p le = rw (other-place l r (omega (arith, p.0))) (no-row low (row + 1) rows l p.1 le)

row-more : (low row : ℕ) (rows : List Listed) (l : Listed) → IsListed 24 made_sizes l → AreBelow low rows → low ≤ place_of l → demand_row store_names made_sizes row rows (fields_of l) ≡ Ok (rows ++ l ∷ [])
unfolding demand_row
row-more low row rows l is p le = rw (fields-read l row is, no-row low 1 rows l p le) refl

-- ---- the rows

rows-judged : (low high row : ℕ) (before rows : List Listed) → AreBelow low before → AreInOrder low high rows → judged (demand_row store_names made_sizes) row before (map fields_of rows) ≡ Ok (before ++ rows)
rows-judged low high row before [] p q = ap Ok (sym (append-nil before))
rows-judged low high row before (l ∷ rows) p q =
    rw (row-more low row before l q.1 p q.0)
    (rows-judged (suc (place_of l)) high (row + 1) (before ++ l ∷ []) rows (below-more low before l p q.0) q.2 ∙ ap Ok (append_assoc before (l ∷ []) rows))

rows-plain : (low high : ℕ) (rows : List Listed) → AreInOrder low high rows → AllByRecursion (IsPlainRow 5) (map fields_of rows)
rows-plain low high [] q = tt
rows-plain low high (l ∷ rows) q =
    let is = q.1 in
    let week = plain-decimal l.week (omega (arith, is.week_high)) in
    let rung = plain-decimal l.rung (omega (arith, is.rung_high)) in
    let units = plain-decimal l.units (omega (arith, is.units_high)) in
    let weight = plain-decimal l.weight (omega (arith, is.weight_high)) in
    (record { count = refl; plain = (plain-name l.store, (week, (rung, (units, (weight, tt))))) }, rows-plain (suc (place_of l)) high rows q.2)

-- ---- the file

columns-plain : AllByRecursion IsPlain demand_columns
columns-plain = search rules

demand-start : (seed : ℕ) → strip_bom (lines (demand_columns ∷ demand_rows seed)) ≡ lines (demand_columns ∷ demand_rows seed)
unfolding lines csv_on_literals
demand-start seed = refl

demand-table : (seed : ℕ) → table_of demand_columns (made_demand seed) ≡ Ok (demand_rows seed)
unfolding made_demand
demand-table seed =
    let plain : AllByRecursion (IsPlainRow 5) (demand_rows seed) = rw (listed-fields seed) at (rows-plain (place 1 0 0 0) (place 25 0 0 0) (made_listed seed) (made-order seed)) in
    table-read demand_columns (demand_rows seed) (omega arith) refl columns-plain plain (demand-start seed)

pub listed-read : (seed : ℕ) → listed_of store_names made_sizes (made_demand seed) ≡ Ok (made_listed seed)
unfolding listed_of
listed-read seed = rw (demand-table seed, ← listed-fields seed) (rows-judged (place 1 0 0 0) (place 25 0 0 0) 1 [] (made_listed seed) tt (made-order seed))
