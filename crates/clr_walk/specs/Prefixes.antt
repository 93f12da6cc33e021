-- Prefixes of paths, and the candidate that is chosen.
use Rattle.std.specs.Prelude.{◌≡◌, ◌⊎◌, ℕ, zero, suc, ℤ, ◌≤ℤ◌, Bool, IsTrue, List, [], ◌∷◌, length, map}
use Rattle.std.specs.List.{AllByRecursion, flat_map}
use Rattle.clr_rules.specs.FirstPath.{ComesBefore}

-- What a search is over: how many weeks and rungs there are, which lists of rungs some path begins with, a bound for each of these, and a
-- value for each path. Rungs are counted from 1.
pub record Terms : Type 0 where
  pub weeks : ℕ
  pub rungs : ℕ
  pub live : List ℕ → Bool
  pub bound : List ℕ → ℤ
  pub low : List ℕ → ℤ

-- the nonempty lists of at most so many of these numbers, in the order of lists, each before its extensions
abbrev pub prefixes : List ℕ → ℕ → List (List ℕ)
prefixes xs zero = []
prefixes xs (suc n) = flat_map (λ x. (x ∷ []) ∷ map (λ rest. x ∷ rest) (prefixes xs n)) xs

-- a path stands in a list of paths
abbrev pub Among : List ℕ → List (List ℕ) → Type 0
Among path [] = ⊥
Among path (other ∷ others) = (path ≡ other) ⊎ Among path others

-- a path: a live list with a rung for each week
pub record IsPath (terms : Terms) (path : List ℕ) : Type 0 where
  pub weeks : length path ≡ terms.weeks
  pub live : IsTrue (terms.live path)

-- of these paths the one with the greatest value, and the first in list order among those with that value
pub record IsChosen (terms : Terms) (candidates : List (List ℕ)) (path : List ℕ) : Type 0 where
  pub among : Among path candidates
  pub greatest : AllByRecursion (λ other. terms.low other ≤ℤ terms.low path) candidates
  pub first : AllByRecursion (λ other. terms.low other ≡ terms.low path → (other ≡ path) ⊎ ComesBefore path other) candidates
