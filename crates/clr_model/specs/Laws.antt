-- The laws of the model: each stands on the contract of a public function.
use Rattle.std.specs.Prelude.{◌≡◌, ℕ, suc, ◌+◌, ◌-◌, ◌*◌, ◌≤◌, ◌^◌, min, ℤ, pos, ◌+ℤ◌, ◌*ℤ◌, ◌≤ℤ◌, List, length, get_or}
use Rattle.clr_num.specs.Sums.{sum_over}
use Rattle.clr_rules.specs.Rules.{IsPath, markdowns}
use Rattle.clr_season.specs.Season.{Season, IsSeason, demands, weight}
use Rattle.clr_model.specs.Policies.{Tree, node, branch, joint_demands, outcomes, IsWhole, const_tree}
use Rattle.clr_model.specs.Revenue.{sum_stores, of_store, week_cents, sold, stocks_left, markdowns_after}
use Rattle.clr_model.specs.Expected.{week_chance, chance, den, earned, Encloses}
use Rattle.clr_model.specs.PathValue.{path_low, path_high}

-- The chances of the outcomes of a whole tree sum to the denominator: over a whole season, and over some of its weeks after so many.
abbrev pub ChancesSum : Type 0
ChancesSum =
    (season : Season) (done weeks : ℕ) (tree : Tree) → IsSeason season → done + weeks ≤ season.rules.weeks → IsWhole season weeks tree →
    sum_over (outcomes season weeks) (λ outcome. chance season done (branch tree outcome) outcome) ≡ den season weeks

-- What a node earns, from any start, is by the demands of its week: what the stores earn in the week, costs taken off, and what
-- the kid earns from there, after the week's rung and with the stocks that are left.
abbrev pub OneWeekSplitOff : Type 0
OneWeekSplitOff =
    (season : Season) (done weeks before : ℕ) (stocks : List ℕ) (rung : ℕ) (kids : List ℕ → Tree) → IsSeason season → done + suc weeks ≤ season.rules.weeks → IsWhole season (suc weeks) (node rung kids) →
    earned season done (suc weeks) before stocks (node rung kids)
    ≡ sum_over (joint_demands season) (λ week. week_chance season (suc done) rung week
    *ℤ (sum_stores season (λ store. week_cents season store before rung (of_store stocks store) (of_store week store)) *ℤ den season weeks
    +ℤ earned season (suc done) weeks rung (stocks_left stocks week) (kids week)))

-- A sum over the joint demands of a sum over the stores is, but for a power of the base, a sum over the stores and their own demands.
abbrev pub OneStoreSplitOff : Type 0
OneStoreSplitOff =
    (season : Season) (week rung : ℕ) (f : ℕ → ℕ → ℤ) → IsSeason season → 1 ≤ week → week ≤ season.rules.weeks → 1 ≤ rung → rung ≤ length season.rules.prices →
    sum_over (joint_demands season) (λ asked. week_chance season week rung asked *ℤ sum_stores season (λ store. f store (of_store asked store)))
    ≡ pos (season.base ^ (length season.stores - 1)) *ℤ sum_stores season (λ store. sum_over (demands season) (λ demand. pos (weight season store week rung demand) *ℤ f store demand))

-- what is sold in the week after so many is what is asked for in it, and at most what was left of the stock
abbrev pub SoldInAWeek : Type 0
SoldInAWeek =
    (stock : ℕ) (asked : List ℕ) (weeks : ℕ) → weeks + 1 ≤ length asked →
    sold stock asked (weeks + 1) - sold stock asked weeks ≡ min (stock - sold stock asked weeks) (get_or asked weeks 0)

-- the markdown weeks that a store pays for along a path, after rung 1, are the path's
abbrev pub MarkdownsCounted : Type 0
MarkdownsCounted = (path : List ℕ) → markdowns_after 1 path ≡ markdowns path

-- Two numbers, in units, between which what a path earns in expectation lies, and at most a unit apart for each store and week.
pub record IsInterval (season : Season) (path : List ℕ) (low high : ℤ) : Type 0 where
  pub encloses : Encloses season low high (const_tree path)
  pub width : high ≤ℤ (low +ℤ pos (length season.stores * season.rules.weeks))

-- the low and the high value of a path are so, for every season and every path
abbrev pub PathEnclosed : Type 0
PathEnclosed = (season : Season) (path : List ℕ) → IsSeason season → IsPath season.rules path → IsInterval season path (path_low season path) (path_high season path)
