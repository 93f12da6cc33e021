-- The rows that a table of all stores is made of.
use Rattle.std.specs.Prelude.{◌≡◌, ℕ, ◌<◌, ◌≤◌, List, length, map}
use Rattle.std.specs.List.{zip}
use Rattle.clr_rules.specs.declared.season_rules.Summary.{Summary}
use Rattle.clr_rules.specs.LiveSummaries.{at_week}
use Rattle.clr_rows.specs.Rows.{IsInside, WeekRows, place_of, row_at, week_at}
use Rattle.clr_model.specs.Stocks.{all_stocks, lists_of}
use Rattle.clr_joint.specs.Tables.{Entry}

-- the entry of a pair, from the rows of the values rounded down, with the choices, and up
abbrev pub entry_of : List (ℕ × Summary) → List ℕ → ℕ → List WeekRows → List WeekRows → ℕ × Summary → Entry
entry_of pairs units width lows tops pair =
    let place : ℕ = place_of (at_week pair.0 pairs) pair.1 in
    record {
      done = pair.0;
      summary = pair.1;
      values = zip (all_stocks units) (zip (row_at width (week_at lows pair.0).values place) (row_at width (week_at tops pair.0).values place));
      choices = zip (all_stocks units) (row_at width (week_at lows pair.0).choices place);
    }

abbrev pub entries_of : List (ℕ × Summary) → List ℕ → ℕ → List WeekRows → List WeekRows → List Entry
entries_of pairs units width lows tops = map (entry_of pairs units width lows tops) pairs

-- what holds of the rows of each table: as many rows as live summaries in each week, of one number for each of at most a million
-- lists of stocks, and some summary before the first week
pub record IsKept (pairs : List (ℕ × Summary)) (units : List ℕ) (width : ℕ) (lows tops : List WeekRows) : Type 0 where
  pub opens : 0 < length (at_week 0 pairs)
  pub width_is : width ≡ lists_of units
  pub few : width ≤ 1000000
  pub low : IsInside pairs width lows
  pub top : IsInside pairs width tops
  pub weeks : length lows ≡ length tops
