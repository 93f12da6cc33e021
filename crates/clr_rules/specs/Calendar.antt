-- What calendar.csv says, or its first refusal.
use Rattle.std.specs.Prelude.{ℕ, ◌+◌, ◌==◌, ◌++◌, nat_le, List, [], ◌∷◌, codes, find, map, position, Option, Some, None, option_map, Result, Ok, Err}
use Rattle.std.specs.Option.{option_map_or}
use Rattle.clr_num.specs.Lists.{numbers}
use Rattle.clr_text.specs.Judged.{◌>>=◌, field_at, judged, number_at, refusal_at, tested}
use Rattle.clr_text.specs.Tables.{Refusal, table_of, whole_row}
use Rattle.clr_text.specs.declared.file.Why.TheVariants.{Order, Repeat}
use Rattle.clr_rules.specs.Rules.{free_window}
use Rattle.clr_rules.specs.declared.calendar_file.Listed.{Listed}
use Rattle.clr_rules.specs.declared.season_rules.Window.{Window}

abbrev pub calendar_columns : List (List ℕ)
calendar_columns = codes "week" ∷ codes "from" ∷ codes "to" ∷ codes "frozen" ∷ []

-- what a row lists, whatever the other rows list
unfoldable pub listed_at : ℕ → ℕ → List (List ℕ) → Result Listed Refusal
listed_at weeks row fields = do
  week ← number_at row 1 1 weeks (field_at fields 1)
  from ← number_at row 2 1 12 (field_at fields 2)
  to ← number_at row 3 1 12 (field_at fields 3)
  here ← tested (nat_le from to) (refusal_at row 3 Order) to
  frozen ← number_at row 4 0 1 (field_at fields 4)
  Ok (record { week = week; window = record { from = from; to = to; frozen = frozen == 1 } })

-- the number, from 1, of the row that lists a week
abbrev pub row_of : List Listed → ℕ → Option ℕ
row_of rows week = option_map (λ i. i + 1) (position (λ r. r.week == week) rows)

-- a week that no row before lists
abbrev pub unrepeated : ℕ → Listed → Option ℕ → Result Listed Refusal
unrepeated row listed None = Ok listed
unrepeated row listed (Some first_row) = Err (whole_row row (Repeat first_row))

-- what the rows list, with one more
unfoldable pub calendar_row : ℕ → ℕ → List Listed → List (List ℕ) → Result (List Listed) Refusal
calendar_row weeks row before fields = do
  read ← listed_at weeks row fields
  listed ← unrepeated row read (row_of before read.week)
  Ok (before ++ listed ∷ [])

-- The window of a week: that of the row that lists it, or else one in which each rung may stand.
abbrev pub listed_window : List Listed → ℕ → Window
listed_window rows week = option_map_or (λ r. r.window) (find (λ r. r.week == week) rows) free_window

-- the windows of a file by week, or its first refusal
unfoldable pub calendar_of : ℕ → List ℕ → Result (List Window) Refusal
calendar_of weeks bytes = do
  found ← table_of calendar_columns bytes
  rows ← judged (calendar_row weeks) 1 [] found
  Ok (map (listed_window rows) (numbers 1 weeks))
