-- The two sides of what a path earns: the lines and the rows of the values below it, and of those above.
use Rattle.std.specs.Prelude.{ℕ, ℤ, List}
use Rattle.clr_cert.specs.declared.place.Place.{Place}
use Rattle.clr_cert.specs.declared.place.Place.TheVariants.{Low, High}
use Rattle.clr_check.specs.declared.faults.Bound.{Bound}
use Rattle.clr_check.specs.declared.faults.Bound.TheVariants.{Below, Above}
use Rattle.clr_check.specs.declared.tables.Tables.{Tables}

-- the place of the line with a store's values after so many weeks
abbrev pub path_place : Bound → ℕ → ℕ → Place
path_place Below done store = Low done store
path_place Above done store = High done store

-- the rows that keep such values
abbrev pub path_rows : Bound → Tables → List (List ℤ)
path_rows Below tables = tables.lows
path_rows Above tables = tables.highs
