-- The season that the parts of a season make.
use Rattle.std.specs.Prelude.{◌≡◌, ℕ, List, length}
use Rattle.clr_rules.specs.Rules.{Rulebook}
use Rattle.clr_stock.specs.Stock.{Store}
use Rattle.clr_demand.specs.Weights.{DemandWeights}
use Rattle.clr_season.specs.Season.{Season, IsSeason}

abbrev pub season_from : ℕ → Rulebook → List Store → ℕ → DemandWeights → Season
season_from version rules stores base demand = record {
  version = version;
  rules = rules;
  stores = stores;
  base = base;
  top = demand.top;
  weights = demand.weights;
}

-- parts that belong together and make a season
pub record FitTogether (version : ℕ) (rules : Rulebook) (stores : List Store) (base : ℕ) (demand : DemandWeights) : Type 0 where
  pub stores_are : demand.stores ≡ length stores
  pub weeks_are : demand.weeks ≡ rules.weeks
  pub rungs_are : demand.rungs ≡ length rules.prices
  pub base_is : demand.base ≡ base
  pub season : IsSeason (season_from version rules stores base demand)
