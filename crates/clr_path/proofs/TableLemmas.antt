-- What the table of a path holds.
use Rattle.std.proofs.Common.{◌≡◌, ℕ, zero, suc, ◌+◌, ◌-◌, ◌≤◌, ◌<◌, inl, inr, ℤ, pos, List, [], length, map, get_or, ap, sym, ◌∙◌, subst, arith}
use Rattle.std.proofs.lemmas.Bool.{cases_lt}
use Rattle.std.proofs.lemmas.List.{get_or_past, get_or-map}
use Rattle.clr_num.specs.Direction.{IsDirection}
use Rattle.clr_num.specs.Lists.{numbers, nth}
use Rattle.clr_num.specs.Sums.{sum_of}
use Rattle.clr_rules.specs.Rules.{IsPath}
use Rattle.clr_season.specs.Season.{Season, IsSeason, store_at}
use Rattle.clr_stock.specs.Stock.{no_store}
use Rattle.clr_average.specs.Average.{IsWithin}
use Rattle.clr_average.proofs.Within.{within_pos}
use Rattle.clr_model.specs.PathValue.{path_total, path_value, path_value_at}
use Rattle.clr_model.specs.Revenue.{full_stocks, of_store}
use Rattle.clr_model.proofs.Sizes.{path_value_small}
use Rattle.clr_model.proofs.Sums.{sum_of-same}
use Rattle.clr_path.specs.Tables.{IsRowOf, IsTable, full_value, path_rows, row_at, store_rows, table_total, value_at}
use Rattle.clr_path.proofs.Lists.{length-numbers, get_or-numbers}

module _ (div : ℤ → ℕ → ℤ) (season : Season) (path : List ℕ) where
  stores_are : length (path_rows div season path) ≡ length season.stores
  stores_are = length-numbers (store_rows div season path) 1 (length season.stores)

  -- the row of a store after so many weeks
  pub row_is : (i done : ℕ) → i < length season.stores → done ≤ length path →
      row_at (path_rows div season path) (suc i) done ≡ map (path_value_at div season (suc i) path done) (numbers 0 (suc (store_at season (suc i)).units))
  row_is i done lt le =
      let next : 1 + i ≡ suc i = omega arith in
      let none : 0 + done ≡ done = omega arith in
      ap (λ rows. get_or rows done []) (get_or-numbers (store_rows div season path) 1 (length season.stores) i [] lt)
      ∙ (ap (λ k. get_or (store_rows div season path k) done []) next
      ∙ (get_or-numbers (λ d. map (path_value_at div season (suc i) path d) (numbers 0 (suc (store_at season (suc i)).units))) 0 (suc (length path)) done [] (omega arith)
      ∙ ap (λ d. map (path_value_at div season (suc i) path d) (numbers 0 (suc (store_at season (suc i)).units))) none))

  pub row_size : (i done : ℕ) → i < length season.stores → done ≤ length path → length (row_at (path_rows div season path) (suc i) done) ≡ suc (store_at season (suc i)).units
  row_size i done lt le = ap length (row_is i done lt le) ∙ length-numbers (path_value_at div season (suc i) path done) 0 (suc (store_at season (suc i)).units)

  -- the value at a stock
  pub value_is : (i done stock : ℕ) → i < length season.stores → done ≤ length path → stock ≤ (store_at season (suc i)).units → value_at (path_rows div season path) (suc i) done stock ≡ path_value_at div season (suc i) path done stock
  value_is i done stock lt le held =
      let none : 0 + stock ≡ stock = omega arith in
      ap (λ row. get_or row stock (pos 0)) (row_is i done lt le)
      ∙ (get_or-numbers (path_value_at div season (suc i) path done) 0 (suc (store_at season (suc i)).units) stock (pos 0) (omega arith) ∙ ap (path_value_at div season (suc i) path done) none)

  -- past the stores, the weeks or the stock there is nothing
  past_stores : (i done stock : ℕ) → length season.stores ≤ i → value_at (path_rows div season path) (suc i) done stock ≡ pos 0
  past_stores i done stock le =
      ap (λ rows. get_or (get_or rows done []) stock (pos 0)) (get_or_past (path_rows div season path) i [] (omega (arith, le, stores_are)))
      ∙ (ap (λ row. get_or row stock (pos 0)) (get_or_past [] done [] (omega arith)) ∙ get_or_past [] stock (pos 0) (omega arith))

  past_weeks : (i done stock : ℕ) → i < length season.stores → length path < done → value_at (path_rows div season path) (suc i) done stock ≡ pos 0
  past_weeks i done stock lt more =
      let next : 1 + i ≡ suc i = omega arith in
      let size : length (store_rows div season path (suc i)) ≡ suc (length path) = length-numbers (λ d. map (path_value_at div season (suc i) path d) (numbers 0 (suc (store_at season (suc i)).units))) 0 (suc (length path)) in
      ap (λ rows. get_or (get_or rows done []) stock (pos 0)) (get_or-numbers (store_rows div season path) 1 (length season.stores) i [] lt ∙ ap (store_rows div season path) next)
      ∙ (ap (λ row. get_or row stock (pos 0)) (get_or_past (store_rows div season path (suc i)) done [] (omega (arith, more, size))) ∙ get_or_past [] stock (pos 0) (omega arith))

  past_stock : (i done stock : ℕ) → i < length season.stores → done ≤ length path → (store_at season (suc i)).units < stock → value_at (path_rows div season path) (suc i) done stock ≡ pos 0
  past_stock i done stock lt le more = get_or_past (row_at (path_rows div season path) (suc i) done) stock (pos 0) (omega (arith, more, row_size i done lt le))

  nothing_small : (value : ℤ) → value ≡ pos 0 → IsWithin 20000000000000000 value
  nothing_small value none = subst (IsWithin 20000000000000000) (sym none) (within_pos 20000000000000000 0 (omega arith))

  pub path_is_table : (leans : ℤ → ℤ → Type 0) → IsDirection leans div → IsSeason season → IsPath season.rules path → IsTable (path_rows div season path)
  path_is_table leans laws is path_is = record { few = few; starts = starts; small = small }
    where
      few : length (path_rows div season path) ≤ 64
      few = let most : length season.stores ≤ 64 = is.stores.few in omega (arith, stores_are)

      starts : (store : ℕ) → 1 ≤ store → store ≤ length (path_rows div season path) → 0 < length (row_at (path_rows div season path) store 0)
      starts zero low high = absurd (omega arith)
      starts (suc i) low high = let size : length (row_at (path_rows div season path) (suc i) 0) ≡ suc (store_at season (suc i)).units = row_size i 0 (omega (arith, high, stores_are)) (omega arith) in omega arith

      held : (i done stock : ℕ) → i < length season.stores → done ≤ length path → stock ≤ (store_at season (suc i)).units → IsWithin 20000000000000000 (value_at (path_rows div season path) (suc i) done stock)
      held i done stock lt le in_stock = subst (IsWithin 20000000000000000) (sym (value_is i done stock lt le in_stock)) (path_value_small leans div laws season (suc i) path done stock is (omega arith) (omega arith) path_is le in_stock)

      in_row : (i done stock : ℕ) → i < length season.stores → done ≤ length path → IsWithin 20000000000000000 (value_at (path_rows div season path) (suc i) done stock)
      in_row i done stock lt le = elim (cases_lt stock (suc (store_at season (suc i)).units)) [ (inl less) ↦ held i done stock lt le (omega arith) | (inr more) ↦ nothing_small _ (past_stock i done stock lt le (omega arith)) ]

      in_store : (i done stock : ℕ) → i < length season.stores → IsWithin 20000000000000000 (value_at (path_rows div season path) (suc i) done stock)
      in_store i done stock lt = elim (cases_lt done (suc (length path))) [ (inl less) ↦ in_row i done stock lt (omega arith) | (inr more) ↦ nothing_small _ (past_weeks i done stock lt (omega arith)) ]

      small : (store done stock : ℕ) → IsWithin 20000000000000000 (value_at (path_rows div season path) store done stock)
      small zero done stock = nothing_small _ (ap (λ row. get_or row stock (pos 0)) (get_or_past [] done [] (omega arith)) ∙ get_or_past [] stock (pos 0) (omega arith))
      small (suc i) done stock = elim (cases_lt i (length season.stores)) [ (inl less) ↦ in_store i done stock less | (inr more) ↦ nothing_small _ (past_stores i done stock more) ]

  -- ---- the total

  full_is : (i : ℕ) → i < length season.stores → full_value (row_at (path_rows div season path) (suc i) 0) ≡ path_value div season (suc i) 0 1 path (of_store (full_stocks season) (suc i))
  full_is i lt =
      let last : length (row_at (path_rows div season path) (suc i) 0) - 1 ≡ (store_at season (suc i)).units = omega (arith, row_size i 0 lt (omega arith)) in
      ap (λ k. get_or (row_at (path_rows div season path) (suc i) 0) k (pos 0)) last
      ∙ (value_is i 0 (store_at season (suc i)).units lt (omega arith) (omega arith)
      ∙ ap (path_value div season (suc i) 0 1 path) (sym (get_or-map (λ store. store.units) season.stores i no_store 0 lt)))

  pub total_is : table_total (path_rows div season path) ≡ path_total div season path
  total_is =
      ap (λ n. sum_of n (λ i. full_value (row_at (path_rows div season path) (suc i) 0))) stores_are
      ∙ sum_of-same (length season.stores) (λ i. full_value (row_at (path_rows div season path) (suc i) 0)) (λ i. path_value div season (suc i) 0 1 path (of_store (full_stocks season) (suc i))) full_is

  -- ---- what a caller of the table's calls needs

  pub path_has_row : (store done : ℕ) → 1 ≤ store → store ≤ length season.stores → done ≤ length path → IsRowOf (path_rows div season path) done store
  path_has_row zero done low high le = absurd (omega arith)
  path_has_row (suc i) done low high le =
      let next : 1 + i ≡ suc i = omega arith in
      let rows : nth (path_rows div season path) (suc i) [] ≡ store_rows div season path (suc i) = get_or-numbers (store_rows div season path) 1 (length season.stores) i [] (omega arith) ∙ ap (store_rows div season path) next in
      let size : length (store_rows div season path (suc i)) ≡ suc (length path) = length-numbers (λ d. map (path_value_at div season (suc i) path d) (numbers 0 (suc (store_at season (suc i)).units))) 0 (suc (length path)) in
      let same : length (nth (path_rows div season path) (suc i) []) ≡ length (store_rows div season path (suc i)) = ap length rows in
      record { first = low; last = omega (arith, high, stores_are); early = omega (arith, same, size, le) }

  pub path_has_stock : (store done stock : ℕ) → 1 ≤ store → store ≤ length season.stores → done ≤ length path → stock ≤ (store_at season store).units → stock < length (row_at (path_rows div season path) store done)
  path_has_stock zero done stock low high le held = absurd (omega arith)
  path_has_stock (suc i) done stock low high le held = omega (arith, held, row_size i done (omega arith) le)
