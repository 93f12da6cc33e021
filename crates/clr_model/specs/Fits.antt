-- Which seasons are small enough for a table of the stocks of all stores together.
use Rattle.std.specs.Prelude.{ℕ, ◌+◌, ◌*◌, ◌^◌, Bool, ◌&&◌, nat_le, List, [], ◌∷◌, length}
use Rattle.clr_stock.specs.Stock.{Store}
use Rattle.clr_season.specs.Season.{Season, stock_cells}
use Rattle.clr_model.specs.JointWeek.{joint_base}

-- the number of lists of stocks: one stock for each store, from 0 to what it opens with
abbrev pub stock_lists : List Store → ℕ
stock_lists [] = 1
stock_lists (store ∷ stores) = (store.units + 1) * stock_lists stores

-- the table cells for all stores together: one for each number of weeks done, summary of the weeks before and list of stocks
abbrev pub joint_size : Season → ℕ
joint_size season = stock_cells season.rules * stock_lists season.stores

-- the number of rungs and joint demands of a week
abbrev pub joint_branches : Season → ℕ
joint_branches season = length season.rules.prices * (season.top + 1) ^ length season.stores

abbrev pub most_joint_stores : ℕ
most_joint_stores = 4

abbrev pub most_joint_base : ℕ
most_joint_base = 1000000000000000000

abbrev pub most_joint_size : ℕ
most_joint_size = 1000000

abbrev pub most_joint_work : ℕ
most_joint_work = 100000000

-- There are at most four stores. What the chances of a week sum to, the table cells, and these times the rungs and joint demands lie
-- within their limits. Each number is compared as it is; holding a number at 10^18, where it is larger, would change no answer.
abbrev pub fits : Season → Bool
fits season =
    nat_le (length season.stores) most_joint_stores
    && (nat_le (joint_base season) most_joint_base
    && (nat_le (joint_size season) most_joint_size && nat_le (joint_size season * joint_branches season) most_joint_work))
