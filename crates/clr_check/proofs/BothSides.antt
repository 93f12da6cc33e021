-- The conditions of a path's values on either side of what it earns.
use Rattle.std.proofs.Common.{◌≡◌, ℕ, ◌<◌, ◌≤◌, suc, List, [], length, map, get_or, Option, ℤ}
use Rattle.clr_rules.specs.Rules.{IsPath}
use Rattle.clr_season.specs.Season.{Season, IsSeason}
use Rattle.clr_cert.specs.Conditions.{conditions, path_entry}
use Rattle.clr_cert.specs.Lines.{stocks_of}
use Rattle.clr_cert.specs.Places.{IsWeekStore}
use Rattle.clr_cert.specs.Reading.{entries_in}
use Rattle.clr_check.specs.declared.faults.Bound.{Bound}
use Rattle.clr_check.specs.declared.faults.Bound.TheVariants.{Below, Above}
use Rattle.clr_check.specs.declared.faults.Fault.{Fault}
use Rattle.clr_check.specs.declared.tables.Tables.{Tables}
use Rattle.clr_check.specs.Faults.{HasRow, compare_by, first_fault}
use Rattle.clr_check.specs.Sides.{path_place, path_rows}
use Rattle.clr_check.specs.Standing.{AreTables, IsLineKept, row_number}
use Rattle.clr_check.specs.Weeks.{AreEntries}
use Rattle.clr_check.proofs.ConditionsLemmas.{high_is, low_is, table_row}

pub path_row : (season : Season) (bound : Bound) (store done : ℕ) (tables : Tables) → 1 ≤ store → store ≤ length season.stores → AreTables season tables → AreEntries season store (get_or (path_rows bound tables) (row_number store done) [])
path_row season Below store done tables low high are = table_row season store done tables.lows low high are.lows
path_row season Above store done tables low high are = table_row season store done tables.highs low high are.highs

pub side_is : (season : Season) (lines : List (List ℕ)) (row : ℕ) (tables : Tables) (numbers : List ℤ) (found : Option Fault) → IsSeason season → (bound : Bound) (done store : ℕ) (after : List ℤ) → IsWeekStore season done store → IsPath season.rules tables.path →
    after ≡ get_or (path_rows bound tables) (row_number store (suc done)) [] → IsLineKept season lines row (path_place bound done store) tables numbers →
    ((table : ℕ → ℕ → ℕ → ℤ) → HasRow season store numbers (table done store) → (done < season.rules.weeks → HasRow season store after (table (suc done) store)) → found ≡ first_fault (map (path_entry (compare_by bound) season tables.path table done store) (stocks_of season store))) →
    found ≡ first_fault (conditions season (entries_in season lines) numbers (path_place bound done store))
side_is season lines row tables numbers found ok Below done store after place is after_is kept all = low_is season lines row tables numbers found ok done store after place is after_is kept all
side_is season lines row tables numbers found ok Above done store after place is after_is kept all = high_is season lines row tables numbers found ok done store after place is after_is kept all
