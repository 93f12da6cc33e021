-- The files of a made season read to a season, in whichever folder they lie.
use Rattle.std.specs.Prelude.{◌≡◌, ℕ, List, [], ◌∷◌, length, Some, Ok}
use Rattle.clr_io.specs.Files.{Files, held}
use Rattle.clr_rules.specs.FirstPath.{SomePathObeys}
use Rattle.clr_season.specs.Reads.{path_of, season_in}
use Rattle.clr_season.specs.Season.{IsSeason, Season}
use Rattle.clr_season.specs.declared.reads.File.TheVariants.{Rules, Ladder, Stock, Demand}
use Rattle.clr_make.specs.declared.files.Made.{Made}

-- a folder holds these files under their names
pub record HoldsMade (files : Files) (folder : List ℕ) (made : Made) : Type 0 where
  pub rules : held (path_of folder Rules) files ≡ Some made.rules.items
  pub ladder : held (path_of folder Ladder) files ≡ Some made.ladder.items
  pub stock : held (path_of folder Stock) files ≡ Some made.stock.items
  pub demand : held (path_of folder Demand) files ≡ Some made.demand.items

-- a folder's files in the order in which they are made, and nothing else
abbrev pub files_in : List ℕ → Made → Files
files_in folder made =
    (path_of folder Rules, made.rules.items) ∷ (path_of folder Ladder, made.ladder.items) ∷ (path_of folder Stock, made.stock.items) ∷ (path_of folder Demand, made.demand.items) ∷ []

-- there the folder holds them
abbrev pub FilesAreHeld : Type 0
FilesAreHeld = (folder : List ℕ) (made : Made) → HoldsMade (files_in folder made) folder made

-- what a folder reads to is a season of these sizes, and some path obeys its rules
pub record ReadsToSeason (files : Files) (folder : List ℕ) : Type 0 where
  pub season : Season
  pub reads : season_in files folder ≡ Ok season
  pub valid : IsSeason season
  pub stores : length season.stores ≡ 24
  pub weeks : season.rules.weeks ≡ 12
  pub rungs : length season.rules.prices ≡ 6
  pub base : season.base ≡ 100
  pub some_path : SomePathObeys season.rules

-- each folder that holds the files reads to such a season
abbrev pub ReadInFolders : Made → Type 0
ReadInFolders made = (files : Files) (folder : List ℕ) → HoldsMade files folder made → ReadsToSeason files folder
