-- What the files of a folder read to: a season, or what stands against one first, in the order of the files.
use Rattle.std.specs.Prelude.{◌≡◌, ◌≤◌, ◌++◌, ◌∷◌, ◌==◌, ℕ, Bool, nat_le, length, map, List, codes, Option, Some, None, Result, Ok, Err, MatchResult, if◌then◌else◌}
use Rattle.clr_io.specs.Files.{Files, held}
use Rattle.clr_text.specs.Tables.{Refusal}
use Rattle.clr_text.specs.declared.file.FileError.{FileError}
use Rattle.clr_text.specs.declared.file.FileError.TheVariants as f
use Rattle.clr_rules.specs.Calendar.{calendar_of}
use Rattle.clr_rules.specs.Limits.{limits_of}
use Rattle.clr_rules.specs.Rules.{free_weeks, rulebook_of}
use Rattle.clr_rules.specs.declared.limits.Limits.{Limits}
use Rattle.clr_rules.specs.declared.season_rules.Window.{Window}
use Rattle.clr_stock.specs.Ladder.{ladder_of}
use Rattle.clr_stock.specs.Stock.{Store, stock_of}
use Rattle.clr_demand.specs.Demand.{demand_of}
use Rattle.clr_demand.specs.Weights.{DemandWeights}
use Rattle.clr_season.specs.Season.{Season, cells, most_cells}
use Rattle.clr_season.specs.View.{season_from}
use Rattle.clr_season.specs.declared.reads.File.{File}
use Rattle.clr_season.specs.declared.reads.File.TheVariants.{Rules, Calendar, Ladder, Stock, Demand}
use Rattle.clr_season.specs.declared.reads.SeasonError.{SeasonError}
use Rattle.clr_season.specs.declared.reads.SeasonError.TheVariants.{Read, Absent, TooLong, Refused, Cells, Memory}

-- ---- the files of a folder

abbrev pub most_bytes : ℕ
most_bytes = 33554432

abbrev pub name_of : File → List ℕ
name_of Rules = codes "rules.json"
name_of Calendar = codes "calendar.csv"
name_of Ladder = codes "ladder.csv"
name_of Stock = codes "stock.csv"
name_of Demand = codes "demand.csv"

-- a file's name: the folder's word, a slash, and the name in the folder
abbrev pub path_of : List ℕ → File → List ℕ
path_of folder file = folder ++ 47 ∷ name_of file

-- ---- what stands against a season

-- a file that isn't held, one that is too long, the first refusal of a file's content, or too many cells
pub data Stop : Type 0 where
  absent : File → Stop
  too_long : File → Stop
  refused : File → Refusal → Stop
  too_many_cells : ℕ → Stop

-- the first that stands against it, or what comes next
infixl 10 ◌>>=◌
abbrev pub ◌>>=◌ : {A B : Type 0} → Result A Stop → (A → Result B Stop) → Result B Stop
(Ok x) >>= f = f x
(Err stop) >>= f = Err stop

-- the bytes of a file that is held, where they are not too many
abbrev pub short_enough : File → Option (List ℕ) → Result (List ℕ) Stop
short_enough file None = Err (absent file)
short_enough file (Some bytes) = if nat_le (length bytes) most_bytes then Ok bytes else Err (too_long file)

unfoldable pub fetched : Files → List ℕ → File → Result (List ℕ) Stop
fetched files folder file = short_enough file (held (path_of folder file) files)

-- what a file's bytes are read as
abbrev pub read_as : {A : Type 0} → File → Result A Refusal → Result A Stop
read_as file (Ok x) = Ok x
read_as file (Err refusal) = Err (refused file refusal)

-- ---- the files, one after another

unfoldable pub limits_in : Files → List ℕ → Result Limits Stop
limits_in files folder = fetched files folder Rules >>= (λ bytes. read_as Rules (limits_of bytes))

-- the windows of the weeks: those of calendar.csv, where the rules say that there is one, and else each rung in each week
unfoldable pub calendar_in : Files → List ℕ → Limits → Result (List Window) Stop
calendar_in files folder limits =
    if limits.calendar
    then fetched files folder Calendar >>= (λ bytes. read_as Calendar (calendar_of limits.weeks bytes))
    else Ok (free_weeks limits.weeks)

unfoldable pub prices_in : Files → List ℕ → Result (List ℕ) Stop
prices_in files folder = fetched files folder Ladder >>= (λ bytes. read_as Ladder (ladder_of bytes))

-- From version 2 on stores have a cost of relabelling.
abbrev pub has_relabelling : Limits → Bool
has_relabelling limits = nat_le 2 limits.version

unfoldable pub stores_in : Files → List ℕ → Limits → Result (List Store) Stop
stores_in files folder limits = fetched files folder Stock >>= (λ bytes. read_as Stock (stock_of (has_relabelling limits) bytes))

-- In version 3 the listed weights may sum to any divisor of the base.
abbrev pub is_scaled : Limits → Bool
is_scaled limits = limits.version == 3

unfoldable pub weights_in : Files → List ℕ → Limits → List ℕ → List Store → Result DemandWeights Stop
weights_in files folder limits prices stores =
    fetched files folder Demand >>= (λ bytes. read_as Demand (demand_of (map (λ store. store.name) stores) (record { weeks = limits.weeks; rungs = length prices; base = limits.base }) (is_scaled limits) bytes))

-- the season of these parts, where its cells are not too many
unfoldable pub season_within : Limits → List Window → List ℕ → List Store → DemandWeights → Result Season Stop
season_within limits windows prices stores weights =
    if nat_le (cells (rulebook_of limits windows prices) stores) most_cells
    then Ok (season_from limits.version (rulebook_of limits windows prices) stores limits.base weights)
    else Err (too_many_cells (cells (rulebook_of limits windows prices) stores))

-- The season of a folder, or what stands against it first: each file is held, not too long and read, before the next is opened.
unfoldable pub season_in : Files → List ℕ → Result Season Stop
season_in files folder = do
  limits ← limits_in files folder
  windows ← calendar_in files folder limits
  prices ← prices_in files folder
  stores ← stores_in files folder limits
  weights ← weights_in files folder limits prices stores
  season_within limits windows prices stores weights

-- ---- what is answered

-- the places of the files in their order
abbrev pub place_of : File → ℕ
place_of Rules = 1
place_of Calendar = 2
place_of Ladder = 3
place_of Stock = 4
place_of Demand = 5

-- the place of the file that a stop is of, and past all of them for the cells
abbrev pub stop_place : Stop → ℕ
stop_place (absent file) = place_of file
stop_place (too_long file) = place_of file
stop_place (refused file refusal) = place_of file
stop_place (too_many_cells found) = 6

-- The files before this one are held, not too long and not refused: what stands against the season, if anything does, is of this file or of one behind it.
abbrev pub ReachesFile : {A : Type 0} → File → Result A Stop → Type 0
ReachesFile file given = MatchResult given (λ _. Unit {0}) (λ stop. place_of file ≤ stop_place stop)

-- What was answered, seen by a view, is what the files give. A fault is of a file that is reached, and want of memory may come anywhere.
abbrev pub Gives : {X Y : Type 0} → (X → Y) → Result X SeasonError → Result Y Stop → Type 0
Gives view (Ok x) given = given ≡ Ok (view x)
Gives view (Err (Read file)) given = ReachesFile file given
Gives view (Err (Absent file)) given = given ≡ Err (absent file)
Gives view (Err (TooLong file)) given = given ≡ Err (too_long file)
Gives view (Err (Refused file row column why)) given = given ≡ Err (refused file (record { row = row; column = column; why = why }))
Gives view (Err (Cells found)) given = given ≡ Err (too_many_cells found)
Gives view (Err Memory) given = Unit {0}

-- a reader's error, as one of the season
abbrev pub file_error : File → FileError → SeasonError
file_error file (f.Refused row column why) = Refused file row column why
file_error file f.Memory = Memory
