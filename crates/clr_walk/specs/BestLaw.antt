-- What a bound on prefixes gives: where all tight prefixes are taken, the path found is the best of all.
use Rattle.std.specs.Prelude.{◌≡◌, ◌⊎◌, ℕ, ◌≤◌, ℤ, ◌≤ℤ◌, Bool, IsTrue, List, ◌++◌}
use Rattle.std.specs.List.{AllByRecursion}
use Rattle.clr_rules.specs.FirstPath.{ComesBefore}
use Rattle.clr_walk.specs.Prefixes.{Terms, IsPath, Among}
use Rattle.clr_walk.specs.Tight.{IsSearched}

-- no path that begins with a prefix has a value above the prefix's bound
abbrev pub Bounds : Terms → Type 0
Bounds terms = (prefix rest : List ℕ) → IsPath terms (prefix ++ rest) → terms.low (prefix ++ rest) ≤ℤ terms.bound prefix

-- live lists have rungs of the ladder
abbrev pub OnLadder : Terms → Type 0
OnLadder terms = (prefix : List ℕ) → IsTrue (terms.live prefix) → AllByRecursion (λ rung. (1 ≤ rung) × (rung ≤ terms.rungs)) prefix

-- no path has a greater value, and each other with that value comes after it
pub record IsBestPath (terms : Terms) (path : List ℕ) : Type 0 where
  pub greatest : (other : List ℕ) → IsPath terms other → terms.low other ≤ℤ terms.low path
  pub first : (other : List ℕ) → IsPath terms other → terms.low other ≡ terms.low path → (other ≡ path) ⊎ ComesBefore path other

-- the seed is the value of one of the seeds
abbrev pub BestOfAll : Type 0
BestOfAll =
    (terms : Terms) (seed : ℤ) (seeds : List (List ℕ)) (start : List ℕ) (nodes : ℕ) (path : List ℕ) (low : ℤ) (best : Bool) → 1 ≤ terms.weeks → Bounds terms → OnLadder terms → Among start seeds → terms.low start ≡ seed →
    IsSearched terms seed seeds nodes path low best → IsTrue best → IsBestPath terms path
