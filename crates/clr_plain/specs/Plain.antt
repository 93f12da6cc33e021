-- An outcome in one list: the demands of week after week, and in each week of store after store.
use Rattle.std.specs.Prelude.{◌≡◌, ℕ, zero, suc, ◌≤◌, ◌<◌, ◌*◌, ℤ, pos, ◌-ℤ◌, ◌*ℤ◌, ◌≤ℤ◌, List, [], ◌∷◌, ◌++◌, length, map, take, drop, get_or}
use Rattle.clr_num.specs.Lists.{all_lists}
use Rattle.clr_num.specs.Sums.{sum_over}
use Rattle.clr_season.specs.Season.{Season, demands}
use Rattle.clr_model.specs.Revenue.{of_store, full_stocks, revenue}
use Rattle.clr_model.specs.Expected.{chance}

-- the list cut into so many weeks
abbrev pub weeks_of : ℕ → ℕ → List ℕ → List (List ℕ)
weeks_of stores zero asked = []
weeks_of stores (suc weeks) asked = take stores asked ∷ weeks_of stores weeks (drop stores asked)

-- the outcome of a path's weeks
abbrev pub outcome_of : Season → List ℕ → List ℕ → List (List ℕ)
outcome_of season path asked = weeks_of (length season.stores) (length path) asked

-- what a store is asked for, by week
abbrev pub asked_of : Season → List ℕ → ℕ → List ℕ → List ℕ
asked_of season path store asked = map (λ week. of_store week store) (outcome_of season path asked)

-- the chance of an outcome along a path
abbrev pub flat_chance : Season → List ℕ → List ℕ → ℤ
flat_chance season path asked = chance season 0 path (outcome_of season path asked)

-- what it adds to what the path earns: its chance times its revenue
abbrev pub flat_part : Season → List ℕ → List ℕ → ℤ
flat_part season path asked = flat_chance season path asked *ℤ revenue season 1 (full_stocks season) path (outcome_of season path asked)

-- a number for each outcome, summed over all outcomes that begin with these demands and have so many more
abbrev pub sum_after : Season → (List ℕ → ℤ) → ℕ → List ℕ → ℤ
sum_after season f count begun = sum_over (all_lists (demands season) count) (λ rest. f (begun ++ rest))

-- one list of demands for the weeks of a path
pub record IsAsked (season : Season) (path asked : List ℕ) : Type 0 where
  pub size : length asked ≡ length path * length season.stores
  pub each : (i : ℕ) → i < length asked → get_or asked i 0 ≤ season.top

-- a number no larger than 10^13 for each of a mass, and no less than its opposite
pub record IsBounded (mass value : ℤ) : Type 0 where
  pub low : (pos 0 -ℤ pos 10000000000000 *ℤ mass) ≤ℤ value
  pub high : value ≤ℤ (pos 10000000000000 *ℤ mass)
