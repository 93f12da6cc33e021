-- The best seed so far.
use Rattle.std.specs.Prelude.{◌≡◌, ℕ, ◌-◌, ◌≤◌, ◌<◌, IsTrue, List, ◌++◌, length, replicate}
use Rattle.clr_rules.specs.Rules.{obeys}
use Rattle.clr_season.specs.Season.{Season}
use Rattle.clr_model.specs.PathValue.{path_low}
use Rattle.clr_search.specs.declared.seeds.Seed.{Seed}
use Rattle.clr_search.specs.Found.{seeds}
use Rattle.clr_walk.specs.Prefixes.{Among}
use Rattle.clr_walk.specs.Walks.{IsNoBetter}

-- the path that stands on the first rung for some weeks, and then on one rung to the end
abbrev pub once : ℕ → ℕ → ℕ → List ℕ
once weeks week rung = replicate week 1 ++ replicate (weeks - week) rung

-- a path is no better than the seed
abbrev pub IsBehind : Season → List ℕ → List ℕ → Type 0
IsBehind season best path = IsNoBetter (path_low season path) (path_low season best) path best

-- each obeying path that leaves the first rung once, after so many weeks and to a rung below this one, is no better
abbrev pub AreBehind : Season → List ℕ → ℕ → ℕ → Type 0
AreBehind season best week end = (rung : ℕ) → 2 ≤ rung → rung < end → IsTrue (obeys season.rules (once season.rules.weeks week rung)) → IsBehind season best (once season.rules.weeks week rung)

-- it is a seed, with its low value
pub record IsSeed (season : Season) (seed : Seed) : Type 0 where
  pub among : Among seed.path.items (seeds season.rules)
  pub value : seed.low ≡ path_low season seed.path.items
  pub weeks : length seed.path.items ≡ season.rules.weeks

-- after a path was offered the seed is no worse than before, and no worse than the path where that obeys
pub record IsSeedAfter (season : Season) (path : List ℕ) (before after : Seed) : Type 0 where
  pub old : IsBehind season after.path.items before.path.items
  pub offered : IsTrue (obeys season.rules path) → IsBehind season after.path.items path
