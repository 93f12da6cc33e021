-- What a prefix bounds: the value of every path that obeys and begins with it.
use Rattle.std.specs.Prelude.{ℕ, ℤ, ◌≤ℤ◌, List, ◌++◌, IsTrue}
use Rattle.clr_num.specs.Rounding.{ceil}
use Rattle.clr_rules.specs.Rules.{obeys}
use Rattle.clr_season.specs.Season.{Season, IsSeason}
use Rattle.clr_model.specs.Revenue.{sum_stores, of_store, full_stocks}
use Rattle.clr_model.specs.PathValue.{path_value_to, path_low}
use Rattle.clr_model.specs.StoreValue.{Multipliers, SumToZero, store_value_at}

-- The bound of a live prefix, in units. Over the stores it is the sum of the value along the prefix at full stocks, rounded up each
-- week, where what is left after the prefix is worth the store's value from there on.
abbrev pub prefix_bound : Multipliers → Season → List ℕ → ℤ
prefix_bound m season prefix =
    sum_stores season (λ store. path_value_to ceil (λ rest. store_value_at ceil m season store prefix rest) season store 0 1 prefix (of_store (full_stocks season) store))

-- Under multipliers that sum to zero over the stores, no path that obeys and begins with a prefix has a low value above the
-- prefix's bound.
abbrev pub PrefixBounds : Type 0
PrefixBounds =
    (season : Season) (m : Multipliers) (prefix rest : List ℕ) → IsSeason season → SumToZero season m → IsTrue (obeys season.rules (prefix ++ rest)) →
    path_low season (prefix ++ rest) ≤ℤ prefix_bound m season prefix
