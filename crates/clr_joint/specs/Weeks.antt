-- The rows of one week of a table of all stores.
use Rattle.std.specs.Prelude.{◌≡◌, ℕ, ◌-◌, ◌<◌, ℤ, pos, List, [], length, get_or}
use Rattle.clr_season.specs.Season.{Season}
use Rattle.clr_model.specs.Revenue.{full_stocks}
use Rattle.clr_rows.specs.Rows.{AreRows, AreWithin, WeekRows}
use Rattle.clr_rows.specs.Summaries.{live_week}
use Rattle.clr_joint.specs.BySummary.{by_place, summary_choice, summary_value}
use Rattle.clr_model.specs.Stocks.{lists_of}

-- The values at each live summary after so many weeks, and the choices where a week is to come.
pub record IsWeek (div : ℤ → ℕ → ℤ) (season : Season) (done : ℕ) (week : WeekRows) : Type 0 where
  pub values : AreRows (pos 0) (lists_of (full_stocks season)) (live_week season.rules done) (length (live_week season.rules done)) (by_place season (summary_value div season done)) week.values
  pub choices : done < season.rules.weeks → AreRows 0 (lists_of (full_stocks season)) (live_week season.rules done) (length (live_week season.rules done)) (by_place season (summary_choice div season done)) week.choices
  pub last : done ≡ season.rules.weeks → week.choices ≡ []
  pub small : AreWithin 1000000000000000000 week.values

-- the rows of the last weeks of a table, so many of them, from the end of the season back
pub record AreWeeks (div : ℤ → ℕ → ℤ) (season : Season) (count : ℕ) (weeks : List WeekRows) : Type 0 where
  pub size : length weeks ≡ count
  pub each : (back : ℕ) → back < count → IsWeek div season (season.rules.weeks - back) (get_or weeks back (record { values = []; choices = [] }))
