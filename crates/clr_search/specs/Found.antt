-- What a search for the best path of a season finds.
use Rattle.std.specs.Prelude.{◌≡◌, ◌⊎◌, ◌↔◌, ℕ, ◌<◌, nat_le, ℤ, ◌≤ℤ◌, Bool, false, IsTrue, List, [], ◌++◌, length, take}
use Rattle.std.specs.List.{filter}
use Rattle.clr_num.specs.Lists.{all_lists}
use Rattle.clr_num.specs.Sums.{first_best}
use Rattle.clr_rules.specs.FirstPath.{ComesBefore}
use Rattle.clr_rules.specs.Rules.{Rulebook, is_live, markdowns, obeys, rungs}
use Rattle.clr_season.specs.Season.{Season}
use Rattle.clr_average.specs.Average.{IsWithin}
use Rattle.clr_model.specs.Laws.{IsInterval}
use Rattle.clr_model.specs.PathValue.{path_low, path_high}
use Rattle.clr_model.specs.PrefixBound.{prefix_bound}
use Rattle.clr_model.specs.StoreValue.{Multipliers}
use Rattle.clr_walk.specs.Prefixes.{Terms, IsChosen}
use Rattle.clr_walk.specs.Tight.{candidates, tight}

-- ---- the seeds

-- the paths that obey, in list order
abbrev pub obeying_paths : Rulebook → List (List ℕ)
obeying_paths rules = filter (obeys rules) (all_lists (rungs rules) rules.weeks)

-- the first of them, and those with at most one markdown week
abbrev pub seeds : Rulebook → List (List ℕ)
seeds rules = take 1 (obeying_paths rules) ++ filter (λ path. nat_le (markdowns path) 1) (obeying_paths rules)

-- the greatest low value among them
abbrev pub seed : Season → ℤ
seed season = path_low season (first_best (path_low season) [] (seeds season.rules))

-- ---- the candidates

-- A season's search is over its live prefixes, the bounds that multipliers give them, and the low values of its paths.
abbrev pub season_terms : Multipliers → Season → Terms
season_terms m season = record {
  weeks = season.rules.weeks;
  rungs = length season.rules.prices;
  live = is_live season.rules;
  bound = prefix_bound m season;
  low = path_low season;
}

-- the live nonempty prefixes of which every proper nonempty prefix has a bound of at least the seed: in list order, each before its extensions
abbrev pub tight_prefixes : Multipliers → Season → List (List ℕ)
tight_prefixes m season = tight (season_terms m season) (seed season)

-- the seeds, and the whole paths among the first tight prefixes
abbrev pub season_candidates : Multipliers → Season → ℕ → List (List ℕ)
season_candidates m season nodes = candidates (season_terms m season) (seed season) (seeds season.rules) nodes

-- ---- what is found

-- The path is the candidate with the greatest low value, and the first in list order among those with that value. It comes with its low and high
-- value, and `best` is false exactly where there are more tight prefixes than were to be taken.
pub record IsFound (season : Season) (m : Multipliers) (nodes : ℕ) (path : List ℕ) (low high : ℤ) (best : Bool) : Type 0 where
  pub chosen : IsChosen (season_terms m season) (season_candidates m season nodes) path
  pub low_is : low ≡ path_low season path
  pub high_is : high ≡ path_high season path
  pub open_is : (best ≡ false) ↔ (nodes < length (tight_prefixes m season))

-- Of all paths that obey, none has a greater low value, and each other with that value comes after it in list order.
pub record IsBestOfAll (season : Season) (path : List ℕ) : Type 0 where
  pub greatest : (other : List ℕ) → IsTrue (obeys season.rules other) → path_low season other ≤ℤ path_low season path
  pub first : (other : List ℕ) → IsTrue (obeys season.rules other) → path_low season other ≡ path_low season path → (other ≡ path) ⊎ ComesBefore path other

-- all that is said of an answer
pub record IsAnswer (season : Season) (m : Multipliers) (nodes : ℕ) (path : List ℕ) (low high : ℤ) (best : Bool) : Type 0 where
  pub found : IsFound season m nodes path low high best
  pub obeying : IsTrue (obeys season.rules path)
  pub best_is : IsTrue best → IsBestOfAll season path
  pub interval : IsInterval season path low high
  pub low_small : IsWithin 100000000000000000000 low
  pub high_small : IsWithin 100000000000000000000 high
