-- The averages of a week, and the entries that a table's rows make.
use Rattle.std.specs.Prelude.{◌≡◌, ℕ, ◌+◌, ◌*◌, ◌<◌, ℤ, pos, List, length, get_or, slice_get, Some, map}
use Rattle.clr_rules.specs.declared.season_rules.Summary.{Summary}
use Rattle.clr_rules.specs.LiveSummaries.{at_week}
use Rattle.clr_season.specs.Season.{Season}
use Rattle.clr_model.specs.PathValue.{weighed}
use Rattle.clr_rows.specs.Rows.{WeekRows, place_of, row_at, week_at}
use Rattle.clr_storedp.specs.Tables.{Entry}

-- for each of the first summaries the averages of the week that ends in it, over the rows of the values after it
pub record AreAverages (div : ℤ → ℕ → ℤ) (season : Season) (store done width : ℕ) (list : List Summary) (after : List ℤ) (count : ℕ) (items : List ℤ) : Type 0 where
  pub size : length items ≡ count * width
  pub each :
      (place stock : ℕ) (s : Summary) → place < count → slice_get list place ≡ Some s → stock < width →
      get_or items (place * width + stock) (pos 0) ≡ div (weighed season store done s.last s.last stock (λ rest. get_or (row_at width after place) rest (pos 0))) season.base

-- the entry of a pair
abbrev pub entry_of : List (ℕ × Summary) → ℕ → List WeekRows → ℕ × Summary → Entry
entry_of pairs width weeks pair = record {
  done = pair.0;
  summary = pair.1;
  values = row_at width (week_at weeks pair.0).values (place_of (at_week pair.0 pairs) pair.1);
  choices = row_at width (week_at weeks pair.0).choices (place_of (at_week pair.0 pairs) pair.1);
}

abbrev pub entries_of : List (ℕ × Summary) → ℕ → List WeekRows → List Entry
entries_of pairs width weeks = map (entry_of pairs width weeks) pairs
