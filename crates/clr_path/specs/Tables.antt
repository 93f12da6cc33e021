-- The values of a path as a table: by store from 1, by weeks done from 0, and by stock from 0.
use Rattle.std.specs.Prelude.{ℕ, suc, ◌-◌, ◌<◌, ◌≤◌, ℤ, pos, List, [], length, map, get_or}
use Rattle.clr_num.specs.Lists.{numbers, nth}
use Rattle.clr_num.specs.Sums.{sum_of}
use Rattle.clr_average.specs.Average.{IsWithin}
use Rattle.clr_season.specs.Season.{Season, store_at}
use Rattle.clr_model.specs.PathValue.{path_value_at}

-- the values of one store: for each number of weeks done, at the stocks from 0 to its own
abbrev pub store_rows : (ℤ → ℕ → ℤ) → Season → List ℕ → ℕ → List (List ℤ)
store_rows div season path store =
    map (λ done. map (path_value_at div season store path done) (numbers 0 (suc (store_at season store).units))) (numbers 0 (suc (length path)))

-- those of all stores
abbrev pub path_rows : (ℤ → ℕ → ℤ) → Season → List ℕ → List (List (List ℤ))
path_rows div season path = map (store_rows div season path) (numbers 1 (length season.stores))

-- the row of a store after so many weeks
abbrev pub row_at : List (List (List ℤ)) → ℕ → ℕ → List ℤ
row_at table store done = get_or (nth table store []) done []

-- a store's value after so many weeks at a stock
abbrev pub value_at : List (List (List ℤ)) → ℕ → ℕ → ℕ → ℤ
value_at table store done stock = get_or (row_at table store done) stock (pos 0)

-- the value at the whole stock: the last of a row
abbrev pub full_value : List ℤ → ℤ
full_value row = get_or row (length row - 1) (pos 0)

-- over the stores, the sum of the values before the first week at the whole stocks
abbrev pub table_total : List (List (List ℤ)) → ℤ
table_total table = sum_of (length table) (λ i. full_value (row_at table (suc i) 0))

-- a row of a table
pub record IsRowOf (table : List (List (List ℤ))) (done store : ℕ) : Type 0 where
  pub first : 1 ≤ store
  pub last : store ≤ length table
  pub early : done < length (nth table store [])

-- at most 64 stores, each with a value at the start, and no value too large
pub record IsTable (table : List (List (List ℤ))) : Type 0 where
  pub few : length table ≤ 64
  pub starts : (store : ℕ) → 1 ≤ store → store ≤ length table → 0 < length (row_at table store 0)
  pub small : (store done stock : ℕ) → IsWithin 20000000000000000 (value_at table store done stock)
