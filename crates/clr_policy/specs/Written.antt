-- A policy as it is written, and its branches.
use Rattle.std.specs.Prelude.{◌≡◌, IsTrue, ℕ, ◌+◌, ◌≤◌, min, List, [], ◌∷◌, ◌++◌, length, map}
use Rattle.std.specs.List.{AllByRecursion}
use Rattle.clr_rules.specs.Rules.{are_rungs}
use Rattle.clr_season.specs.Season.{Season}
use Rattle.clr_policy.specs.declared.policy.Policy.{Policy}
use Rattle.clr_policy.specs.declared.policy.Policy.TheVariants.{End, Rung', Test'}

-- A policy ends, or chooses a rung for the next week and goes on after it, or asks whether the stock that a store has left is at most a
-- limit and goes on by the answer: yes first, then no.
pub data Written : Type 0 where
  finish : Written
  choose : ℕ → Written → Written
  ask : ℕ → ℕ → Written → Written → Written

-- the policy that the code keeps
abbrev pub written : Policy → Written
written End = finish
written (Rung' rung p after) = choose rung (written after)
written (Test' store limit p if_yes q if_no) = ask store limit (written if_yes) (written if_no)

-- Its branches, in the order in which they end: the rungs from the root to an end, with any answer at each test.
abbrev pub branches : Written → List (List ℕ)
branches finish = [] ∷ []
branches (choose rung after) = map (λ rest. rung ∷ rest) (branches after)
branches (ask store limit if_yes if_no) = branches if_yes ++ branches if_no

-- the stores that its tests ask for
abbrev pub stores_asked : Written → List ℕ
stores_asked finish = []
stores_asked (choose rung after) = stores_asked after
stores_asked (ask store limit if_yes if_no) = store ∷ (stores_asked if_yes ++ stores_asked if_no)

-- A policy for so many weeks of a season: each branch has a rung of the ladder for each of them, and each test asks for a store of the season.
pub record IsPolicyFor (season : Season) (weeks : ℕ) (policy : Written) : Type 0 where
  pub lengths : AllByRecursion (λ branch. length branch ≡ weeks) (branches policy)
  pub rungs : AllByRecursion (λ branch. IsTrue (are_rungs season.rules branch)) (branches policy)
  pub stores : AllByRecursion (λ store. (1 ≤ store) × (store ≤ length season.stores)) (stores_asked policy)

-- for all its weeks
abbrev pub IsPolicy : Season → Written → Type 0
IsPolicy season policy = IsPolicyFor season season.rules.weeks policy

-- the number of rungs and tests that are written
abbrev pub object_count : Written → ℕ
object_count finish = 0
object_count (choose rung after) = 1 + object_count after
object_count (ask store limit if_yes if_no) = 1 + object_count if_yes + object_count if_no

abbrev pub most_objects : ℕ
most_objects = 1000000000000000000

-- held at 10^18
abbrev pub held_objects : Written → ℕ
held_objects policy = min (object_count policy) most_objects
