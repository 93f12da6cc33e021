-- The four files of the season that a seed makes. It has 24 stores, 12 weeks and 6 rungs, each counted from 1.
use Rattle.std.specs.Prelude.{◌≡◌, ℕ, ◌+◌, ◌-◌, ◌*◌, ◌/◌, ◌%◌, false, List, [], ◌∷◌, ◌++◌, codes, decimal, map}
use Rattle.std.specs.List.{flat_map, join_with_byte}
use Rattle.clr_num.specs.Lists.{numbers}
use Rattle.clr_num.specs.Money.{padded}
use Rattle.clr_stock.specs.Stock.{stock_columns}
use Rattle.clr_demand.specs.Demand.{demand_columns}
use Rattle.clr_make.specs.Draws.{draw}
use Rattle.clr_make.specs.declared.files.Made.{Made}

-- ---- the two files that are the same for every seed

unfoldable pub made_rules : List ℕ
made_rules = codes "{\"weeks\":12,\"base\":100,\"markdowns\":3,\"spacing\":2,\"first_cut\":50}\n"

unfoldable pub made_ladder : List ℕ
made_ladder = codes "rung,price\n1,60.00\n2,52.00\n3,45.00\n4,38.00\n5,30.00\n6,22.00\n"

-- ---- tables

-- a row: its fields with a comma between each two, and a line feed
abbrev pub line : List (List ℕ) → List ℕ
line fields = join_with_byte 44 fields ++ 10 ∷ []

-- rows one after another
unfoldable pub lines : List (List (List ℕ)) → List ℕ
lines rows = flat_map line rows

-- ---- the stores

-- `s01` to `s24`
abbrev pub store_name : ℕ → List ℕ
store_name store = codes "s" ++ padded 2 store

-- The draws go store by store. Each store takes one for its units, and then one for each of its 12 weeks and 6 rungs.
unfoldable pub draws_before : ℕ → ℕ
draws_before store = (store - 1) * (1 + 12 * 6)

-- what a store opens with
abbrev pub made_units : ℕ → ℕ → ℕ
made_units seed store = 20 + draw seed (draws_before store + 1) % 41

-- a store's row of stock.csv, with its salvage of 5.00
abbrev pub store_fields : ℕ → ℕ → List (List ℕ)
store_fields store units = store_name store ∷ decimal units ∷ codes "5.00" ∷ []

unfoldable pub stock_rows : ℕ → List (List (List ℕ))
stock_rows seed = map (λ store. store_fields store (made_units seed store)) (numbers 1 24)

unfoldable pub made_stock : ℕ → List ℕ
made_stock seed = lines (stock_columns false ∷ stock_rows seed)

-- ---- the demand

-- the number of the draw of a store, a week and a rung: a store's weeks follow each other, and in each week its rungs
unfoldable pub draw_number : ℕ → ℕ → ℕ → ℕ
draw_number store week rung = draws_before store + 1 + (week - 1) * 6 + rung

-- the least of the three demands of a store in a week on a rung
abbrev pub least_demand : ℕ → ℕ → ℕ → ℕ → ℕ
least_demand seed store week rung = (rung - 1 + draw seed (draw_number store week rung) % 3) / 2

-- a row of demand.csv
abbrev pub demand_fields : ℕ → ℕ → ℕ → ℕ → ℕ → List (List ℕ)
demand_fields store week rung units weight = store_name store ∷ decimal week ∷ decimal rung ∷ decimal units ∷ decimal weight ∷ []

-- three demands in a row, with the weights 25, 50 and 25
unfoldable pub demand_rows_from : ℕ → ℕ → ℕ → ℕ → List (List (List ℕ))
demand_rows_from store week rung least =
    demand_fields store week rung least 25 ∷ demand_fields store week rung (least + 1) 50 ∷ demand_fields store week rung (least + 2) 25 ∷ []

unfoldable pub rung_rows : ℕ → ℕ → ℕ → ℕ → List (List (List ℕ))
rung_rows seed store week rung = demand_rows_from store week rung (least_demand seed store week rung)

unfoldable pub week_rows : ℕ → ℕ → ℕ → List (List (List ℕ))
week_rows seed store week = flat_map (rung_rows seed store week) (numbers 1 6)

unfoldable pub store_rows : ℕ → ℕ → List (List (List ℕ))
store_rows seed store = flat_map (week_rows seed store) (numbers 1 12)

unfoldable pub demand_rows : ℕ → List (List (List ℕ))
demand_rows seed = flat_map (store_rows seed) (numbers 1 24)

unfoldable pub made_demand : ℕ → List ℕ
made_demand seed = lines (demand_columns ∷ demand_rows seed)

-- ---- the four files

-- these are the files that a seed makes
pub record IsMade (seed : ℕ) (made : Made) : Type 0 where
  pub rules : made.rules.items ≡ made_rules
  pub ladder : made.ladder.items ≡ made_ladder
  pub stock : made.stock.items ≡ made_stock seed
  pub demand : made.demand.items ≡ made_demand seed
