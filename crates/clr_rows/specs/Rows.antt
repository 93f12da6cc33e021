-- Rows of one width, one after another: a row for each summary of a list.
use Rattle.std.specs.Prelude.{◌≡◌, ℕ, suc, ◌+◌, ◌-◌, ◌*◌, ◌<◌, ℤ, pos, List, [], ◌∷◌, length, get_or, slice_get, Some, take, drop, if◌then◌else◌}
use Rattle.clr_average.specs.Average.{IsWithin}
use Rattle.clr_rules.specs.declared.season_rules.Summary.{Summary}
use Rattle.clr_rules.specs.LiveSummaries.{at_week, same_summary, IsAmong}

-- a row for each of the first summaries of a list, with the numbers of a function
pub record AreRows {X : Type 0} (default : X) (width : ℕ) (list : List Summary) (count : ℕ) (f : Summary → ℕ → X) (items : List X) : Type 0 where
  pub size : length items ≡ count * width
  pub each : (place stock : ℕ) (s : Summary) → place < count → slice_get list place ≡ Some s → stock < width → get_or items (place * width + stock) default ≡ f s stock

-- no number is larger than this
abbrev pub AreWithin : ℕ → List ℤ → Type 0
AreWithin limit values = (k : ℕ) → k < length values → IsWithin limit (get_or values k (pos 0))

-- a row by its place
abbrev pub row_at : {X : Type 0} → ℕ → List X → ℕ → List X
row_at width items place = take width (drop (place * width) items)

-- ---- the rows of a week

-- the values, and the choices where a week is to come
pub record WeekRows : Type 0 where
  pub values : List ℤ
  pub choices : List ℕ

-- the place of a summary in a list
abbrev pub place_of : List Summary → Summary → ℕ
place_of [] s = 0
place_of (t ∷ list) s = if same_summary t s then 0 else suc (place_of list s)

-- the rows of a week by the weeks done, where they stand from the end of the season back
abbrev pub week_at : List WeekRows → ℕ → WeekRows
week_at weeks done = get_or weeks (length weeks - 1 - done) (record { values = []; choices = [] })

-- what holds of the rows of each table: there are as many rows as summaries in each week, all of one width and with no value too large
pub record IsInside (pairs : List (ℕ × Summary)) (width : ℕ) (weeks : List WeekRows) : Type 0 where
  pub some : 0 < length pairs
  pub weeks_done : (done : ℕ) (s : Summary) → IsAmong pairs done s → done < length weeks
  pub values : (done : ℕ) → done < length weeks → length (week_at weeks done).values ≡ length (at_week done pairs) * width
  pub choices : (done : ℕ) → suc done < length weeks → length (week_at weeks done).choices ≡ length (at_week done pairs) * width
  pub last : (done : ℕ) → suc done ≡ length weeks → (week_at weeks done).choices ≡ []
  pub small : (done : ℕ) → done < length weeks → AreWithin 1000000000000000000 (week_at weeks done).values
