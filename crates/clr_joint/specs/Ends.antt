-- What the stocks of the last stores are worth at the end.
use Rattle.std.specs.Prelude.{◌≡◌, ℕ, suc, ◌+◌, ◌-◌, ◌*◌, ◌<◌, ℤ, pos, ◌*ℤ◌, List, length, get_or}
use Rattle.clr_num.specs.Sums.{sum_of}
use Rattle.clr_season.specs.Season.{Season}
use Rattle.clr_model.specs.Revenue.{cent, salvage_cents}
use Rattle.clr_rows.specs.Rows.{AreWithin}
use Rattle.clr_joint.specs.Folds.{last_units}
use Rattle.clr_model.specs.Stocks.{lists_of, stocks_at}

-- of the stores from one on, so many of them
abbrev pub worth_from : Season → ℕ → ℕ → List ℕ → ℤ
worth_from season first count stocks = sum_of count (λ i. pos cent *ℤ salvage_cents season (first + i) (get_or stocks i 0))

-- a row with the worth of all lists of stocks of the last stores, so many of them
pub record AreWorths (season : Season) (count : ℕ) (row : List ℤ) : Type 0 where
  pub size : length row ≡ lists_of (last_units season count)
  pub within : AreWithin (count * 20000000000000000) row
  pub each : (place : ℕ) → place < length row → get_or row place (pos 0) ≡ worth_from season (suc (length season.stores - count)) count (stocks_at (last_units season count) place)
