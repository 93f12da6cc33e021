-- The plan report: the sizes, the path with its prices and its revenue, whether it is the best, the bound over all policies and how far
-- below it the path stays, and what the best policy earns where all stores were solved together.
use Rattle.std.specs.Prelude.{◌≡◌, length, ℕ, ◌^◌, ◌<◌, ◌≤◌, ◌↔◌, Bool, if◌then◌else◌, IfSome, IsSome, IsTrue, List, [], ◌∷◌, ◌++◌, map, Option, None, Some, ℤ, ◌-ℤ◌, codes, decimal}
use Rattle.clr_num.specs.Money.{cents_text, money_text}
use Rattle.clr_average.specs.Average.{IsWithin}
use Rattle.clr_rules.specs.Rules.{IsPath, price}
use Rattle.clr_season.specs.Season.{Season, IsSeason}
use Rattle.clr_model.specs.Fits.{fits}
use Rattle.clr_report.specs.declared.plan.PlanFacts.{PlanFacts}
use Rattle.clr_report.specs.declared.plan.PlanSizes.{PlanSizes}
use Rattle.clr_report.specs.Lines.{line}

-- ---- the lines

-- how many stores, weeks and rungs there are, and the base of the weights
abbrev pub season_line : PlanSizes → List ℕ
season_line sizes = line (codes "season" ∷ decimal sizes.stores ∷ codes "stores" ∷ decimal sizes.weeks ∷ codes "weeks" ∷ decimal sizes.rungs ∷ codes "rungs" ∷ codes "base" ∷ decimal sizes.base ∷ [])

-- the rung of each week
abbrev pub path_line : List ℕ → List ℕ
path_line rungs = line (codes "path" ∷ map decimal rungs)

-- the price of each week, in cents
abbrev pub prices_line : List ℕ → List ℕ
prices_line prices = line (codes "prices" ∷ map cents_text prices)

-- two numbers between which the path's expected revenue lies, in units of 10^-8
abbrev pub revenue_line : ℤ → ℤ → List ℕ
revenue_line low high = line (codes "revenue" ∷ money_text low ∷ money_text high ∷ [])

-- whether the search took all tight prefixes, so that no path has a greater low value
abbrev pub best_line : Bool → List ℕ
best_line best = line (codes "best" ∷ (if best then codes "yes" else codes "open") ∷ [])

-- the bound over all policies, in units, and the step of the descent that gave it
abbrev pub bound_line : ℤ → ℕ → List ℕ
bound_line bound step = line (codes "bound" ∷ money_text bound ∷ codes "step" ∷ decimal step ∷ [])

-- how far the path's low value stays below the bound, in units
abbrev pub gap_line : ℤ → List ℕ
gap_line gap = line (codes "gap" ∷ money_text gap ∷ [])

-- What all stores together can earn at most, rounded down and up, in units, and the rung that the table policy begins with. There is
-- no such line where they weren't solved together.
abbrev pub exact_line : Option (ℤ × ℤ × ℕ) → List ℕ
exact_line None = []
exact_line (Some (low, top, rung)) = line (codes "exact" ∷ money_text low ∷ money_text top ∷ codes "first" ∷ decimal rung ∷ [])

-- ---- the report

-- the sizes of a season
abbrev pub sizes_of : Season → PlanSizes
sizes_of season = record { stores = length season.stores; weeks = season.rules.weeks; rungs = length season.rules.prices; base = season.base }

-- the report on a plan of a season
unfoldable pub plan_text : Season → PlanFacts → List ℕ
plan_text season facts =
    season_line (sizes_of season)
    ++ path_line facts.path
    ++ prices_line (map (price season.rules) facts.path)
    ++ revenue_line facts.low facts.high
    ++ best_line facts.best
    ++ bound_line facts.bound facts.at_step
    ++ gap_line (facts.bound -ℤ facts.low)
    ++ exact_line facts.exact

-- money of at most 10^20 units in size, and a rung of the season
pub record IsExactOf (season : Season) (exact : ℤ × ℤ × ℕ) : Type 0 where
  pub low : IsWithin 100000000000000000000 exact.0
  pub top : IsWithin 100000000000000000000 exact.1
  pub first : 1 ≤ exact.2
  pub last : exact.2 ≤ length season.rules.prices

-- A path of the season, and money of at most 10^20 units in size. All stores were solved together exactly where the season is small
-- enough.
pub record IsPlanOf (season : Season) (facts : PlanFacts) : Type 0 where
  pub path : IsPath season.rules facts.path
  pub low : IsWithin 100000000000000000000 facts.low
  pub high : IsWithin 100000000000000000000 facts.high
  pub bound : IsWithin 100000000000000000000 facts.bound
  pub exact : IfSome facts.exact (IsExactOf season)
  pub fit : IsTrue (fits season) ↔ IsSome facts.exact

-- For one season the report determines the path and each number.
abbrev pub PlanTextDetermines : Type 0
PlanTextDetermines =
    (season : Season) (facts others : PlanFacts) → IsSeason season → IsPlanOf season facts → IsPlanOf season others →
    facts.at_step < 2 ^ 32 → others.at_step < 2 ^ 32 → plan_text season facts ≡ plan_text season others → facts ≡ others
