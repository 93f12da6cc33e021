-- One store after another is folded into the values of a week.
use Rattle.std.specs.Prelude.{◌≡◌, ℕ, suc, ◌+◌, ◌-◌, ◌*◌, ◌/◌, ◌%◌, ◌^◌, ◌<◌, ◌≤◌, min, ℤ, pos, ◌+ℤ◌, ◌*ℤ◌, List, length, get_or, drop, sum}
use Rattle.clr_num.specs.Lists.{numbers}
use Rattle.clr_num.specs.Sums.{sum_over}
use Rattle.clr_season.specs.Season.{Season, demands, store_at, weight}
use Rattle.clr_model.specs.JointFold.{fold_stores}
use Rattle.clr_model.specs.Revenue.{earn, full_stocks}
use Rattle.clr_rows.specs.Rows.{AreWithin}
use Rattle.clr_model.specs.Stocks.{lists_of, place_in, stocks_at}

-- the first weights times (the item of what their demands leave and what the sold units earn), where a unit of stock lies a stride apart
abbrev pub cell_sum : List ℕ → ℕ → List ℤ → ℕ → ℕ → ℕ → ℕ → ℤ
cell_sum weights unit items place stock stride count =
    sum_over (numbers 0 count) (λ demand. pos (get_or weights demand 0) *ℤ (get_or items (place - min demand stock * stride) (pos 0) +ℤ pos (unit * min demand stock)))

-- weights that sum to the base, items no larger than a reach, and sums that 128 bits hold
pub record IsCell (base reach unit most : ℕ) (weights : List ℕ) (items : List ℤ) : Type 0 where
  pub some : 1 ≤ base
  pub whole : sum weights ≡ base
  pub values : AreWithin reach items
  pub fits : base * (reach + unit * most) < 2 ^ 127

-- ---- one store

-- what a store makes of the item at a place: the sum over its demands of the weight times the item at what is left and what it earns, times
-- the power of the base for the stores after it
abbrev pub fold_item : Season → ℕ → ℕ → ℕ → ℕ → ℕ → List ℤ → ℕ → ℤ
fold_item season done rung store stride power items place =
    let stock : ℕ = (place / stride) % suc (store_at season store).units in
    sum_over (demands season) (λ demand. pos (weight season store (suc done) rung demand) *ℤ (get_or items (place - min demand stock * stride) (pos 0) +ℤ earn season store rung rung stock demand *ℤ pos power))

-- no item is larger than this after so many stores
abbrev pub fold_reach : ℕ → ℕ → ℕ
fold_reach base count = base ^ count * (1000000000000000000 + count * 20000000000000000)

-- ---- all stores

-- the units of the last stores, so many of them
abbrev pub last_units : Season → ℕ → List ℕ
last_units season count = drop (length season.stores - count) (full_stocks season)

-- Items after the last stores are folded: each place is one of the lists of their stocks, in a block for what comes before them.
pub record AreFolded (season : Season) (done rung count : ℕ) (row items : List ℤ) : Type 0 where
  pub size : length items ≡ length row
  pub within : AreWithin (fold_reach season.base count) items
  pub each :
      (block place : ℕ) → place < lists_of (last_units season count) → block * lists_of (last_units season count) + place < length row →
      get_or items (block * lists_of (last_units season count) + place) (pos 0)
      ≡ fold_stores season done rung rung (suc (length season.stores - count)) (stocks_at (last_units season count) place)
      (λ rest. get_or row (block * lists_of (last_units season count) + place_in (last_units season count) rest) (pos 0))
