-- The parts that the files give belong together.
use Rattle.std.proofs.Common.{◌≤◌, ℕ, List, length}
use Rattle.clr_rules.specs.Limits.{AreLimits}
use Rattle.clr_rules.specs.Rules.{IsRulebook, rulebook_of}
use Rattle.clr_rules.specs.declared.limits.Limits.{Limits}
use Rattle.clr_rules.specs.declared.season_rules.Window.{Window}
use Rattle.clr_stock.specs.Stock.{AreStores, Store}
use Rattle.clr_demand.specs.Weights.{AreWeights, DemandWeights}
use Rattle.clr_season.specs.Season.{cells, most_cells}
use Rattle.clr_season.specs.View.{FitTogether}

pub parts_fit :
    (limits : Limits) (windows : List Window) (prices : List ℕ) (stores : List Store) (demand : DemandWeights) → AreLimits limits → IsRulebook (rulebook_of limits windows prices) → 1 ≤ length stores → AreStores stores →
    AreWeights (length stores) limits.weeks (length prices) limits.base demand → cells (rulebook_of limits windows prices) stores ≤ most_cells →
    FitTogether limits.version (rulebook_of limits windows prices) stores limits.base demand
parts_fit limits windows prices stores demand ranges book some all weights few = record {
  stores_are = weights.stores_are;
  weeks_are = weights.weeks_are;
  rungs_are = weights.rungs_are;
  base_is = weights.base_are;
  season = record {
    first_version = ranges.first_version;
    last_version = ranges.last_version;
    rules = book;
    some = some;
    stores = all;
    least_base = ranges.least_base;
    most_base = ranges.most_base;
    most_demand = weights.top_high;
    sizes = λ store week rung at. weights.unit_count store week rung at.first_store at.last_store at.first_week at.last_week at.first_rung at.last_rung;
    sums = λ store week rung at. weights.sums store week rung at.first_store at.last_store at.first_week at.last_week at.first_rung at.last_rung;
    few_cells = few;
  };
}
