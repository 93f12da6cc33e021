-- Tight prefixes, the candidates, and what a search finds.
use Rattle.std.specs.Prelude.{◌≡◌, ◌↔◌, ℕ, ◌-◌, ◌≤◌, ◌==◌, ℤ, int_lt, Bool, not, ◌&&◌, IsTrue, List, ◌++◌, length, take}
use Rattle.std.specs.List.{filter, list_all}
use Rattle.clr_num.specs.Lists.{numbers}
use Rattle.clr_walk.specs.Prefixes.{Terms, prefixes, IsChosen}

-- the bound of a prefix is at least the seed
abbrev pub reaches : Terms → ℤ → List ℕ → Bool
reaches terms seed prefix = not (int_lt (terms.bound prefix) seed)

-- a live prefix of which every proper nonempty prefix has a bound of at least the seed
abbrev pub is_tight : Terms → ℤ → List ℕ → Bool
is_tight terms seed prefix = terms.live prefix && list_all (λ k. reaches terms seed (take k prefix)) (numbers 1 (length prefix - 1))

-- the tight prefixes in list order, each before its extensions
abbrev pub tight : Terms → ℤ → List (List ℕ)
tight terms seed = filter (is_tight terms seed) (prefixes (numbers 1 terms.rungs) terms.weeks)

abbrev pub is_whole : Terms → List ℕ → Bool
is_whole terms prefix = length prefix == terms.weeks

-- the seeds, and the whole paths among the first tight prefixes
abbrev pub candidates : Terms → ℤ → List (List ℕ) → ℕ → List (List ℕ)
candidates terms seed seeds nodes = seeds ++ filter (is_whole terms) (take nodes (tight terms seed))

-- What a search gives: the chosen candidate and its value, and whether all tight prefixes are among the first.
pub record IsSearched (terms : Terms) (seed : ℤ) (seeds : List (List ℕ)) (nodes : ℕ) (path : List ℕ) (low : ℤ) (best : Bool) : Type 0 where
  pub chosen : IsChosen terms (candidates terms seed seeds nodes) path
  pub low_is : low ≡ terms.low path
  pub best_is : IsTrue best ↔ (length (tight terms seed) ≤ nodes)
