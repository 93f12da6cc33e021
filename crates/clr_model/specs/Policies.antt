-- What may happen in a season, and policies as whole trees of decisions.
use Rattle.std.specs.Prelude.{ℕ, zero, suc, ◌≤◌, List, [], ◌∷◌, ◌++◌, length, IsTrue, ⊤}
use Rattle.std.specs.List.{AllByRecursion}
use Rattle.clr_num.specs.Lists.{all_lists}
use Rattle.clr_rules.specs.Rules.{obeys}
use Rattle.clr_season.specs.Season.{Season, demands}

-- what the stores together may ask for in one week: all lists with a demand from 0 to the greatest for each store
abbrev pub joint_demands : Season → List (List ℕ)
joint_demands season = all_lists (demands season) (length season.stores)

-- what may happen in so many weeks: all lists with the stores' demands for each week
abbrev pub outcomes : Season → ℕ → List (List (List ℕ))
outcomes season weeks = all_lists (joint_demands season) weeks

-- A policy: it stops, or takes a rung for the week and then has a kid for each list of the stores' demands in that week, by
-- which it goes on. So it may choose by all demands of the weeks before.
pub data Tree : Type 0 where
  stop : Tree
  node : ℕ → (List ℕ → Tree) → Tree

-- the rungs that are met where the demands of an outcome's weeks pick the kids
abbrev pub branch : Tree → List (List ℕ) → List ℕ
branch stop outcome = []
branch (node rung kids) [] = []
branch (node rung kids) (week ∷ outcome) = rung ∷ branch (kids week) outcome

-- each of its branches has so many nodes, and their rungs are of the ladder
abbrev pub IsWhole : Season → ℕ → Tree → Type 0
IsWhole season zero stop = ⊤
IsWhole season zero (node rung kids) = ⊥
IsWhole season (suc weeks) stop = ⊥
IsWhole season (suc weeks) (node rung kids) =
    (1 ≤ rung) × (rung ≤ length season.rules.prices) × AllByRecursion (λ week. IsWhole season weeks (kids week)) (joint_demands season)

-- After this prefix the tree lasts for so many weeks, and whatever happens its branch makes the prefix a path that obeys: also
-- where it happens with no chance.
pub record AbidesFrom (season : Season) (prefix : List ℕ) (weeks : ℕ) (tree : Tree) : Type 0 where
  pub whole : IsWhole season weeks tree
  pub branches : AllByRecursion (λ outcome. IsTrue (obeys season.rules (prefix ++ branch tree outcome))) (outcomes season weeks)

-- a rule-abiding policy for the season: it lasts for all its weeks, and its branch of every outcome obeys
abbrev pub Abides : Season → Tree → Type 0
Abides season tree = AbidesFrom season [] season.rules.weeks tree

-- the policy that follows a path, whatever happens
abbrev pub const_tree : List ℕ → Tree
const_tree [] = stop
const_tree (rung ∷ path) = node rung (λ week. const_tree path)
