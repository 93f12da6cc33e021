-- A markdown season. Stores, weeks and rungs are counted from 1, demands from 0. Prices, salvages and costs are in cents.
use Rattle.std.specs.Prelude.{◌≡◌, ◌≤◌, ℕ, suc, ◌+◌, ◌-◌, ◌*◌, min, List, [], length, get_or, drop, sum}
use Rattle.std.specs.List.{sum_by}
use Rattle.clr_num.specs.Lists.{numbers, nth}
use Rattle.clr_rules.specs.Rules.{Rulebook, IsRulebook}
use Rattle.clr_stock.specs.Stock.{Store, AreStores, no_store}

-- The version of the rules file, the rules, the stores, the base that weights sum to, the greatest demand that is listed, and the weights of all
-- demands: by store, week and rung, and then by units from 0 to the greatest.
pub record Season : Type 0 where
  pub version : ℕ
  pub rules : Rulebook
  pub stores : List Store
  pub base : ℕ
  pub top : ℕ
  pub weights : List (List (List (List ℕ)))

abbrev pub store_at : Season → ℕ → Store
store_at season store = nth season.stores store no_store

-- the demands 0 to the greatest
abbrev pub demands : Season → List ℕ
demands season = numbers 0 (suc season.top)

-- the weights of a store in a week on a rung, by units from 0
abbrev pub weights_of : Season → ℕ → ℕ → ℕ → List ℕ
weights_of season store week rung = nth (nth (nth season.weights store []) week []) rung []

-- the weight of a demand at a store in a week on a rung
abbrev pub weight : Season → ℕ → ℕ → ℕ → ℕ → ℕ
weight season store week rung demand = get_or (weights_of season store week rung) demand 0

-- the weight of all demands of at least so many units
abbrev pub tail : Season → ℕ → ℕ → ℕ → ℕ → ℕ
tail season store week rung units = sum (drop units (weights_of season store week rung))

-- the numbers of a store, a week and a rung of the season
pub record IsPlace (season : Season) (store week rung : ℕ) : Type 0 where
  pub first_store : 1 ≤ store
  pub last_store : store ≤ length season.stores
  pub first_week : 1 ≤ week
  pub last_week : week ≤ season.rules.weeks
  pub first_rung : 1 ≤ rung
  pub last_rung : rung ≤ length season.rules.prices

-- the table cells for one stock of one store: one for each number of weeks done and each summary of the weeks before
abbrev pub stock_cells : Rulebook → ℕ
stock_cells rules =
    (rules.weeks + 1) * length rules.prices * (min rules.markdowns (min (length rules.prices - 1) rules.weeks) + 1) * rules.spacing

-- those of a store that opens with so many units
abbrev pub store_cells : Rulebook → ℕ → ℕ
store_cells rules units = stock_cells rules * (units + 1)

-- those of all stores
abbrev pub cells : Rulebook → List Store → ℕ
cells rules stores = sum_by (λ store. store_cells rules store.units) stores

abbrev pub most_cells : ℕ
most_cells = 16000000

-- What holds of every season: the rules, the stores and the numbers lie within their limits, and the weights of each
-- store, week and rung are as many as there are demands and sum to the base.
pub record IsSeason (season : Season) : Type 0 where
  pub first_version : 1 ≤ season.version
  pub last_version : season.version ≤ 3
  pub rules : IsRulebook season.rules
  pub some : 1 ≤ length season.stores
  pub stores : AreStores season.stores
  pub least_base : 1 ≤ season.base
  pub most_base : season.base ≤ 1000000
  pub most_demand : season.top ≤ 200
  pub sizes : (store week rung : ℕ) → IsPlace season store week rung → length (weights_of season store week rung) ≡ suc season.top
  pub sums : (store week rung : ℕ) → IsPlace season store week rung → sum (weights_of season store week rung) ≡ season.base
  pub few_cells : cells season.rules season.stores ≤ most_cells
