-- The value of a path, store by store and rounded each week, in units.
use Rattle.std.specs.Prelude.{ℕ, suc, ◌≤◌, ℤ, pos, ◌+ℤ◌, ◌*ℤ◌, List, [], ◌∷◌, length, drop}
use Rattle.clr_num.specs.Rounding.{floor, ceil}
use Rattle.clr_num.specs.Sums.{sum_over}
use Rattle.clr_rules.specs.Rules.{rung_at}
use Rattle.clr_season.specs.Season.{Season, demands, weight}
use Rattle.clr_model.specs.Revenue.{cent, left, earn, salvage_cents, sum_stores, of_store, full_stocks}

-- the weights times (what the week earns and the value after it), summed over the demands
abbrev pub weighed : Season → ℕ → ℕ → ℕ → ℕ → ℕ → (ℕ → ℤ) → ℤ
weighed season store done before rung stock value =
    sum_over (demands season) (λ demand. pos (weight season store (suc done) rung demand) *ℤ (earn season store before rung stock demand +ℤ value (left stock demand)))

-- the value of the rest of a path to a store, rounded by `div`, where `finish` is what a stock is worth after it
abbrev pub path_value_to : (ℤ → ℕ → ℤ) → (ℕ → ℤ) → Season → ℕ → ℕ → ℕ → List ℕ → ℕ → ℤ
path_value_to div finish season store done before [] stock = finish stock
path_value_to div finish season store done before (rung ∷ path) stock =
    div (weighed season store done before rung stock (λ rest. path_value_to div finish season store (suc done) rung path rest)) season.base

-- the same to the end of the season
abbrev pub path_value : (ℤ → ℕ → ℤ) → Season → ℕ → ℕ → ℕ → List ℕ → ℕ → ℤ
path_value div season store done before path stock = path_value_to div (λ rest. pos cent *ℤ salvage_cents season store rest) season store done before path stock

-- the value after so many weeks of a path
abbrev pub path_value_at : (ℤ → ℕ → ℤ) → Season → ℕ → List ℕ → ℕ → ℕ → ℤ
path_value_at div season store path done stock = path_value div season store done (rung_at path done) (drop done path) stock

-- the value of a whole path
abbrev pub path_total : (ℤ → ℕ → ℤ) → Season → List ℕ → ℤ
path_total div season path = sum_stores season (λ store. path_value div season store 0 1 path (of_store (full_stocks season) store))

abbrev pub path_low : Season → List ℕ → ℤ
path_low = path_total floor

abbrev pub path_high : Season → List ℕ → ℤ
path_high = path_total ceil

-- a store of the season, and a stock that it may have
pub record IsStock (season : Season) (store stock : ℕ) : Type 0 where
  pub first : 1 ≤ store
  pub last : store ≤ length season.stores
  pub held : stock ≤ of_store (full_stocks season) store
