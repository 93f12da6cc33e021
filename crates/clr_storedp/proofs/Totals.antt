-- Totals over the stores.
use Rattle.std.proofs.Common.{◌≡◌, ℕ, zero, suc, ◌+◌, ◌*◌, ◌-◌, ◌≤◌, ◌<◌, ◌^◌, ℤ, pos, ◌+ℤ◌, List, [], ◌∷◌, true, length, map, get_or, refl, ap, ap₂, sym, ◌∙◌, subst, arith, to_z, of_z, SFits, add-one}
use Rattle.std.proofs.lemmas.Int.{to_z-of_z}
use Rattle.std.proofs.lemmas.List.{get_or_default, length-map}
use mir.Syntax.{w128}
use Rattle.clr_stock.specs.Stock.{Store, no_store}
use Rattle.clr_num.specs.Rounding.{ceil}
use Rattle.clr_num.specs.Sums.{sum_of}
use Rattle.clr_rules.specs.declared.season_rules.Summary.{Summary}
use Rattle.clr_rules.specs.Rules.{is_live, summary}
use Rattle.clr_rules.specs.LiveSummaries.{IsAmong}
use Rattle.clr_rules.proofs.LiveLaw.{live_pairs_lem}
use Rattle.clr_season.specs.Season.{Season, IsSeason, store_at}
use Rattle.clr_average.specs.Average.{IsWithin}
use Rattle.clr_average.proofs.Reading.{within_128}
use Rattle.clr_average.proofs.Sums.{sum_of_more}
use Rattle.clr_average.proofs.Within.{within_more, within_sum}
use Rattle.clr_mult.specs.Steps.{SumsToZero}
use Rattle.clr_mult.specs.Tables.{Table, mult_at}
use Rattle.clr_model.specs.Revenue.{full_stocks, of_store}
use Rattle.clr_model.specs.StoreValue.{Multipliers, SumToZero, store_value_at}
use Rattle.clr_storedp.specs.Tables.{AreOfSeason, AreTablesOf, Entry, IsTableOf, stocks, table_pairs, values_of}
use Rattle.clr_rows.proofs.Places.{get_or-numbers, length-numbers}

-- ---- one table

pub table_at : (m : Multipliers) (season : Season) (tables : List (List Entry)) (i : ℕ) (table : List Entry) → AreTablesOf ceil m season tables → i < length tables → table ≡ get_or tables i table → IsTableOf ceil m season (suc i) table
table_at m season tables i table are lt is =
    subst (IsTableOf ceil m season (suc i)) (sym (is ∙ get_or_default tables i table [] lt)) (are.each (suc i) (omega arith) (omega (arith, lt, are.count)))

units_at : (xs : List Store) (i : ℕ) (d : Store) → i < length xs → get_or (map (λ s. s.units) xs) i 0 ≡ (get_or xs i d).units
units_at [] i d lt = absurd (omega arith)
units_at (x ∷ xs) zero d lt = refl
units_at (x ∷ xs) (suc i) d lt = units_at xs i d (omega arith)

module _ (m : Multipliers) (season : Season) (i : ℕ) (table : List Entry) (ok : IsSeason season) (lt : i < length season.stores) (is : IsTableOf ceil m season (suc i) table) (some : 0 < length table) where
  starts : is_live season.rules [] ≡ true
  starts =
      (live_pairs_lem season.rules ok.rules).some.0
      (subst (λ n. 0 < n) (sym (sym (ap length is.pairs) ∙ length-map table (λ (entry : Entry). (entry.done, entry.summary)))) some)

  pub has_start : IsAmong (table_pairs table) 0 (summary season.rules [])
  has_start =
      subst (λ (ps : List (ℕ × Summary)). IsAmong ps 0 (summary season.rules [])) (sym is.pairs)
      (((live_pairs_lem season.rules ok.rules).pairs 0 (summary season.rules [])).1 (omega arith, ([], refl, starts, refl)))

  row : values_of table 0 (summary season.rules []) ≡ map (store_value_at ceil m season (suc i) []) (stocks season (suc i))
  row = is.values [] starts

  pub stock_inside : (store_at season (suc i)).units < length (values_of table 0 (summary season.rules []))
  stock_inside = let size = ap length row ∙ length-numbers (store_value_at ceil m season (suc i) []) 0 (suc (store_at season (suc i)).units) in omega (arith, size)

  pub start_value : (stock : ℕ) → stock ≡ (store_at season (suc i)).units → get_or (values_of table 0 (summary season.rules [])) stock (pos 0) ≡ store_value_at ceil m season (suc i) [] (of_store (full_stocks season) (suc i))
  start_value stock is_stock =
      let none : 0 + stock ≡ stock = omega arith in
      ap (λ r. get_or r stock (pos 0)) row
      ∙ (get_or-numbers (store_value_at ceil m season (suc i) []) 0 (suc (store_at season (suc i)).units) stock (pos 0) (omega (arith, is_stock))
      ∙ ap (store_value_at ceil m season (suc i) []) (none ∙ (is_stock ∙ sym (units_at season.stores i no_store lt))))

-- ---- one store more

module _ (f : ℕ → ℤ) (i : ℕ) (before value : ℤ) (few : i < 64) (so_far : before ≡ sum_of i f) (size : IsWithin (i * 1000000000000000000) before) (here : value ≡ f i) (small : IsWithin 1000000000000000000 value) where
  pub size_next : IsWithin ((i + 1) * 1000000000000000000) (before +ℤ value)
  size_next = let e : i * 1000000000000000000 + 1000000000000000000 ≡ (i + 1) * 1000000000000000000 = omega arith in subst (λ n. IsWithin n (before +ℤ value)) e (within_sum (i * 1000000000000000000) 1000000000000000000 before value size small)

  fits : SFits w128 (before +ℤ value)
  fits = within_128 (before +ℤ value) (within_more ((i + 1) * 1000000000000000000) (2 ^ 127 - 1) (before +ℤ value) size_next (omega arith))

  value_fits : SFits w128 value
  value_fits = within_128 value (within_more 1000000000000000000 (2 ^ 127 - 1) value small (omega arith))

  pub read_more : to_z w128 (of_z w128 (before +ℤ to_z w128 (of_z w128 value))) ≡ before +ℤ value
  read_more = ap (λ x. to_z w128 (of_z w128 (before +ℤ x))) (to_z-of_z w128 value value_fits) ∙ to_z-of_z w128 (before +ℤ value) fits

  pub sum_next : before +ℤ value ≡ sum_of (i + 1) f
  sum_next = ap₂ ◌+ℤ◌ so_far here ∙ (sym (sum_of_more i f) ∙ ap (λ n. sum_of n f) (sym (add-one i)))

-- ---- multipliers

pub sums_of : (season : Season) (table : Table ℤ) → AreOfSeason season table → SumsToZero table → SumToZero season (mult_at table)
sums_of season table of sums week rung w1 w2 r1 r2 =
    ap (λ n. sum_of n (λ i. mult_at table (suc i) week rung)) (sym of.stores) ∙ sums week rung w1 (subst (λ n. week ≤ n) (sym of.weeks) w2) r1 (subst (λ n. rung ≤ n) (sym of.rungs) r2)
