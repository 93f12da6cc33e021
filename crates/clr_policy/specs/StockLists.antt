-- Numbers for all lists of stocks: one stock for each store, from 0 to a greatest one. They stand in the order of lists, the first store
-- slowest.
use Rattle.std.specs.Prelude.{◌≡◌, ℕ, suc, ◌+◌, ◌-◌, ◌*◌, ◌^◌, ◌≤◌, ◌<◌, min, ℤ, pos, ◌+ℤ◌, ◌-ℤ◌, ◌*ℤ◌, List, [], ◌∷◌, length, map, get_or, drop, sum, ◌/◌, ◌%◌, nat_le, if◌then◌else◌, ⊤}
use Rattle.std.specs.List.{flat_map}
use Rattle.clr_num.specs.Lists.{numbers}
use Rattle.clr_num.specs.Sums.{sum_over}
use Rattle.clr_average.specs.Average.{IsWithin}
use Rattle.clr_season.specs.Season.{Season, demands, weight}
use Rattle.clr_model.specs.Revenue.{cent, earn, full_stocks, left, salvage_cents}
use Rattle.clr_model.specs.JointFold.{fold_stores}
use Rattle.clr_model.specs.Stocks.{lists_of, place_in}
use Rattle.clr_policy.specs.declared.stock_lists.Week.{Week}

-- a size that what a store earns in a week doesn't pass
abbrev pub most_gain : ℕ
most_gain = 20000000000000000

-- a size that no sum over a week's demands passes
abbrev pub most_total : ℕ
most_total = 80000000000000000000000000000000000000

-- one stock for each store, none above its greatest one
abbrev pub AreWithin : List ℕ → List ℕ → Type 0
AreWithin [] [] = ⊤
AreWithin [] (stock ∷ stocks) = ⊥
AreWithin (most ∷ mosts) [] = ⊥
AreWithin (most ∷ mosts) (stock ∷ stocks) = (stock ≤ most) × AreWithin mosts stocks

-- the number at a place
abbrev pub at_place : List ℤ → ℕ → ℤ
at_place values place = get_or values place (pos 0)

abbrev pub AllWithin : ℕ → List ℤ → Type 0
AllWithin reach values = (k : ℕ) → k < length values → IsWithin reach (at_place values k)

-- in the row of a stock
abbrev pub RowWithin : ℕ → ℕ → ℕ → List ℤ → Type 0
RowWithin reach width stock values = (place : ℕ) → place < width → IsWithin reach (at_place values (stock * width + place))

-- the number of each list of stocks is its value
pub record AreValues (mosts : List ℕ) (value : List ℕ → ℤ) (values : List ℤ) : Type 0 where
  pub size : length values ≡ lists_of mosts
  pub each : (stocks : List ℕ) → AreWithin mosts stocks → at_place values (place_in mosts stocks) ≡ value stocks

-- ---- one store's demands

-- what sold units earn, each so much, less a cost
abbrev pub gain_of : ℕ → ℕ → ℕ → ℤ
gain_of unit cost sold = pos (unit * sold) -ℤ pos cost

-- The values stand in rows of so many, one row for each stock of a store. At a place, where of a stock so many units are sold: what stands
-- there in the row of the stock left, and what is earned.
abbrev pub part : List ℤ → ℕ → ℕ → ℕ → ℕ → ℕ → ℕ → ℤ
part values unit cost width stock place sold = at_place values ((stock - sold) * width + place) +ℤ gain_of unit cost sold

-- the sum over the demands of the weight times that
abbrev pub stock_sum : List ℕ → ℕ → ℕ → List ℤ → ℕ → ℕ → ℕ → ℤ
stock_sum weights unit cost values width stock place =
    sum_over (numbers 0 (length weights)) (λ demand. pos (get_or weights demand 0) *ℤ part values unit cost width stock place (min stock demand))

-- over the demands below a number, each sold in full
abbrev pub sum_below : List ℕ → ℕ → ℕ → List ℤ → ℕ → ℕ → ℕ → ℕ → ℤ
sum_below weights unit cost values width stock place count =
    sum_over (numbers 0 count) (λ demand. pos (get_or weights demand 0) *ℤ part values unit cost width stock place demand)

-- at a place no part passes a limit, and the weights sum to the base
pub record AreSmall (base limit : ℕ) (weights : List ℕ) (unit cost width stock place : ℕ) (values : List ℤ) : Type 0 where
  pub based : 1 ≤ base
  pub whole : sum weights ≡ base
  pub some : 1 ≤ length weights
  pub each : (sold : ℕ) → sold ≤ stock → IsWithin limit (part values unit cost width stock place sold)
  pub fits : base * limit ≤ most_total

-- The same by a season: what the place of a stock gets from a store's demands, where the base stands `scale` times below what is earned.
abbrev pub store_sum : Season → ℕ → ℕ → ℕ → ℕ → ℕ → List ℤ → ℕ → ℕ → ℕ → ℤ
store_sum season done before rung store scale values width stock place =
    sum_over (demands season) (λ demand. pos (weight season store (suc done) rung demand) *ℤ (at_place values (left stock demand * width + place) +ℤ earn season store before rung stock demand *ℤ pos scale))

-- the greatest stocks of a store and those after it
abbrev pub stocks_from : Season → ℕ → List ℕ
stocks_from season store = drop (store - 1) (full_stocks season)

-- the values of these stores' stocks before their demands fall in a week
abbrev pub folded : Season → ℕ → ℕ → ℕ → ℕ → List ℤ → List ℕ → ℤ
folded season done before rung store values stocks =
    fold_stores season done before rung store stocks (λ rest. at_place values (place_in (stocks_from season store) rest))

-- those of the stores after a store, in the row of one of its stocks
abbrev pub row_folded : Season → ℕ → ℕ → ℕ → ℕ → ℕ → List ℤ → ℕ → List ℕ → ℤ
row_folded season done before rung store width values stock rest =
    fold_stores season done before rung (store + 1) rest (λ more. at_place values (stock * width + place_in (stocks_from season (store + 1)) more))

-- a week of the season, a rung and the rung before
pub record IsWeek (season : Season) (week : Week) : Type 0 where
  pub early : week.done < season.rules.weeks
  pub low_before : 1 ≤ week.before
  pub high_before : week.before ≤ length season.rules.prices
  pub low : 1 ≤ week.rung
  pub high : week.rung ≤ length season.rules.prices

-- a size that the values don't pass after the demands of a store and those after it
abbrev pub reach_after : Season → ℕ → ℕ → ℕ
reach_after season store reach = season.base ^ (length season.stores + 1 - store) * (reach + (length season.stores + 1 - store) * most_gain)

-- a size that no value passes
abbrev pub most_reach : ℕ
most_reach = 70000000000000000000

-- ---- the end of the season

-- what the stocks of a store and those after it are worth at the end
abbrev pub ends_from : Season → ℕ → List ℕ → ℤ
ends_from season store [] = pos 0
ends_from season store (stock ∷ stocks) = pos cent *ℤ salvage_cents season store stock +ℤ ends_from season (suc store) stocks

-- a row of values, each with so much more
abbrev pub with_more : List ℤ → ℤ → List ℤ
with_more values more = map (λ value. value +ℤ more) values

-- such a row for each number of units, one after another
abbrev pub rows_of : ℕ → List ℤ → ℕ → List ℤ
rows_of unit values rows = flat_map (λ stock. with_more values (pos (unit * stock))) (numbers 0 rows)

-- ---- a test of a store's stock

-- the stock of a store at a place, where the row of each of its stocks has so many places
abbrev pub stock_at : ℕ → ℕ → ℕ → ℕ
stock_at width rows place = place / width % rows

-- what stands at a place: the first where the stock is at most the limit
abbrev pub chosen : ℕ → ℕ → ℕ → List ℤ → List ℤ → ℕ → ℤ
chosen width rows limit below above place = if nat_le (stock_at width rows place) limit then at_place below place else at_place above place

-- ---- a policy

-- a size that the values don't pass where so many weeks are left
abbrev pub reach_left : ℕ → ℕ
reach_left weeks = (weeks + 1) * (64 * most_gain)
