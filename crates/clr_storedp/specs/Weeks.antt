-- The rows of one week of a store's table.
use Rattle.std.specs.Prelude.{◌≡◌, ℕ, ◌+◌, ◌-◌, ◌<◌, ℤ, pos, List, [], length, get_or}
use Rattle.clr_season.specs.Season.{IsPlace, Season}
use Rattle.clr_mult.specs.Tables.{Table}
use Rattle.clr_model.specs.StoreValue.{Multipliers}
use Rattle.clr_rows.specs.Rows.{AreRows, AreWithin, WeekRows}
use Rattle.clr_rows.specs.Summaries.{live_week}
use Rattle.clr_storedp.specs.Tables.{AreOfSeason, AreSmall}
use Rattle.clr_storedp.specs.BySummary.{summary_choice, summary_value}

-- The values at each live summary after so many weeks, and the choices where a week is to come.
pub record IsWeek (div : ℤ → ℕ → ℤ) (m : Multipliers) (season : Season) (store width done : ℕ) (week : WeekRows) : Type 0 where
  pub values : AreRows (pos 0) width (live_week season.rules done) (length (live_week season.rules done)) (summary_value div m season store done) week.values
  pub choices : done < season.rules.weeks → AreRows 0 width (live_week season.rules done) (length (live_week season.rules done)) (summary_choice div m season store done) week.choices
  pub last : done ≡ season.rules.weeks → week.choices ≡ []
  pub small : AreWithin 1000000000000000000 week.values

-- the rows of the last weeks of a table, so many of them, from the end of the season back
pub record AreWeeks (div : ℤ → ℕ → ℤ) (m : Multipliers) (season : Season) (store width count : ℕ) (weeks : List WeekRows) : Type 0 where
  pub size : length weeks ≡ count
  pub each : (back : ℕ) → back < count → IsWeek div m season store width (season.rules.weeks - back) (get_or weeks back (record { values = []; choices = [] }))

-- ---- what a store is paid

-- a rung that a store may take in the week after so many, and multipliers of the season that are small
pub record IsPayable (season : Season) (table : Table ℤ) (store done rung : ℕ) : Type 0 where
  pub place : IsPlace season store (done + 1) rung
  pub of_season : AreOfSeason season table
  pub small : AreSmall table
