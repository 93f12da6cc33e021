-- What stands against a season: each file's own, and then what comes behind it.
use Rattle.std.proofs.Common.{◌≡◌, ◌≤◌, refl, ℕ, List, arith, true, false, Bool}
use Rattle.std.specs.Prelude.{Option, Some, None, Result, Ok, Err, IfSome, MatchResult, nat_le, length, if◌then◌else◌}
use Rattle.clr_io.specs.Files.{Files, held}
use Rattle.clr_text.specs.Tables.{Refusal}
use Rattle.clr_rules.specs.Calendar.{calendar_of}
use Rattle.clr_rules.specs.Rules.{free_weeks, rulebook_of}
use Rattle.clr_rules.specs.declared.limits.Limits.{Limits}
use Rattle.clr_rules.specs.declared.season_rules.Window.{Window}
use Rattle.clr_stock.specs.Stock.{Store}
use Rattle.clr_demand.specs.Weights.{DemandWeights}
use Rattle.clr_season.specs.Season.{Season, cells, most_cells}
use Rattle.clr_season.specs.declared.reads.File.{File}
use Rattle.clr_season.specs.declared.reads.File.TheVariants as f
use Rattle.clr_season.specs.declared.reads.SeasonError.{SeasonError}
use Rattle.clr_season.specs.declared.reads.SeasonError.TheVariants.{Read, Absent, TooLong, Refused, Cells, Memory}
use Rattle.clr_season.specs.Reads.{◌>>=◌, Gives, Stop, calendar_in, fetched, limits_in, most_bytes, path_of, place_of, prices_in, read_as, season_in, season_within, short_enough, stop_place, stores_in, too_long, too_many_cells, weights_in}

-- what stands against it, if anything does, stands at this place or behind it
abbrev pub StopsFrom : {A : Type 0} → ℕ → Result A Stop → Type 0
StopsFrom place given = MatchResult given (λ _. Unit {0}) (λ stop. place ≤ stop_place stop)

short-or-long : (file : File) (bytes : List ℕ) (short : Bool) → StopsFrom {A = List ℕ} (place_of file) (if short then Ok bytes else Err (too_long file))
short-or-long file bytes true = tt
short-or-long file bytes false = omega arith

short-from : (file : File) (given : Option (List ℕ)) → StopsFrom (place_of file) (short_enough file given)
short-from file None = omega arith
short-from file (Some bytes) = short-or-long file bytes (nat_le (length bytes) most_bytes)

fetched-from : (files : Files) (folder : List ℕ) (file : File) → StopsFrom (place_of file) (fetched files folder file)
unfolding fetched
fetched-from files folder file = short-from file (held (path_of folder file) files)

read-from : {A : Type 0} (file : File) (given : Result A Refusal) → StopsFrom (place_of file) (read_as file given)
read-from file (Ok x) = tt
read-from file (Err refusal) = omega arith

-- one after another
pub behind-from : {A B : Type 0} (place : ℕ) (given : Result A Stop) (next : A → Result B Stop) → StopsFrom place given → ((x : A) → StopsFrom place (next x)) → StopsFrom place (given >>= next)
behind-from place (Ok x) next first rest = rest x
behind-from place (Err stop) next first rest = first

later-from : {A : Type 0} (place later : ℕ) (given : Result A Stop) → place ≤ later → StopsFrom later given → StopsFrom place given
later-from place later (Ok x) p from = tt
later-from place later (Err stop) p from = omega arith

-- ---- what comes behind each file

abbrev behind_stock : Files → List ℕ → Limits → List Window → List ℕ → List Store → Result Season Stop
behind_stock files folder limits windows prices stores = weights_in files folder limits prices stores >>= season_within limits windows prices stores

abbrev behind_ladder : Files → List ℕ → Limits → List Window → List ℕ → Result Season Stop
behind_ladder files folder limits windows prices = stores_in files folder limits >>= behind_stock files folder limits windows prices

abbrev behind_calendar : Files → List ℕ → Limits → List Window → Result Season Stop
behind_calendar files folder limits windows = prices_in files folder >>= behind_ladder files folder limits windows

abbrev behind_limits : Files → List ℕ → Limits → Result Season Stop
behind_limits files folder limits = calendar_in files folder limits >>= behind_calendar files folder limits

few-or-many : (season : Season) (found : ℕ) (few : Bool) → StopsFrom 5 (if few then Ok season else Err (too_many_cells found))
few-or-many season found true = tt
few-or-many season found false = omega arith

within-from : (limits : Limits) (windows : List Window) (prices : List ℕ) (stores : List Store) (weights : DemandWeights) → StopsFrom 5 (season_within limits windows prices stores weights)
unfolding season_within
within-from limits windows prices stores weights = few-or-many _ _ (nat_le (cells (rulebook_of limits windows prices) stores) most_cells)

file-from : {A : Type 0} (files : Files) (folder : List ℕ) (file : File) (reader : List ℕ → Result A Refusal) → StopsFrom (place_of file) (fetched files folder file >>= (λ bytes. read_as file (reader bytes)))
file-from files folder file reader =
    behind-from (place_of file) (fetched files folder file) (λ bytes. read_as file (reader bytes)) (fetched-from files folder file) (λ bytes. read-from file (reader bytes))

behind-stock-from : (files : Files) (folder : List ℕ) (limits : Limits) (windows : List Window) (prices : List ℕ) (stores : List Store) → StopsFrom 5 (behind_stock files folder limits windows prices stores)
unfolding weights_in fetched
behind-stock-from files folder limits windows prices stores =
    behind-from 5 (weights_in files folder limits prices stores) (season_within limits windows prices stores) (file-from files folder f.Demand _) (within-from limits windows prices stores)

behind-ladder-from : (files : Files) (folder : List ℕ) (limits : Limits) (windows : List Window) (prices : List ℕ) → StopsFrom 4 (behind_ladder files folder limits windows prices)
unfolding stores_in fetched
behind-ladder-from files folder limits windows prices =
    behind-from 4 (stores_in files folder limits) (behind_stock files folder limits windows prices) (file-from files folder f.Stock _) (λ stores. later-from 4 5 _ (omega arith) (behind-stock-from files folder limits windows prices stores))

behind-calendar-from : (files : Files) (folder : List ℕ) (limits : Limits) (windows : List Window) → StopsFrom 3 (behind_calendar files folder limits windows)
unfolding prices_in fetched
behind-calendar-from files folder limits windows =
    behind-from 3 (prices_in files folder) (behind_ladder files folder limits windows) (file-from files folder f.Ladder _) (λ prices. later-from 3 4 _ (omega arith) (behind-ladder-from files folder limits windows prices))

calendar-or-none : (files : Files) (folder : List ℕ) (weeks : ℕ) (has : Bool) →
    StopsFrom 2 (if has then fetched files folder f.Calendar >>= (λ bytes. read_as f.Calendar (calendar_of weeks bytes)) else Ok (free_weeks weeks))
calendar-or-none files folder weeks true = file-from files folder f.Calendar _
calendar-or-none files folder weeks false = tt

behind-limits-from : (files : Files) (folder : List ℕ) (limits : Limits) → StopsFrom 2 (behind_limits files folder limits)
unfolding calendar_in
behind-limits-from files folder limits =
    behind-from 2 (calendar_in files folder limits) (behind_calendar files folder limits) (calendar-or-none files folder limits.weeks limits.calendar) (λ windows. later-from 2 3 _ (omega arith) (behind-calendar-from files folder limits windows))

-- ---- a season that is not read

-- an error of one file is one of the season
same-error :
    {A : Type 0} (file : File) (error : SeasonError) (given : Result A Stop) (next : A → Result Season Stop) → Gives {X = A} {Y = A} (λ x. x) (Err error) given → ((other : File) → error ≡ Read other → other ≡ file) →
    ((x : A) → StopsFrom (place_of file) (next x)) → Gives {X = Season} {Y = Season} (λ s. s) (Err error) (given >>= next)
same-error file (Read other) given next is of behind =
    let same : other ≡ file = of other refl in
    behind-from (place_of other) given next is (λ x. rw same (behind x))
same-error file (Absent other) given next is of behind = rw is refl
same-error file (TooLong other) given next is of behind = rw is refl
same-error file (Refused other row column why) given next is of behind = rw is refl
same-error file (Cells found) given next is of behind = rw is refl
same-error file Memory given next is of behind = tt

pub limits-error :
    (files : Option Files) (folder : List ℕ) (error : SeasonError) → IfSome files (λ held. Gives {X = Limits} {Y = Limits} (λ x. x) (Err error) (limits_in held folder)) → ((other : File) → error ≡ Read other → other ≡ f.Rules) →
    IfSome files (λ held. Gives {X = Season} {Y = Season} (λ s. s) (Err error) (season_in held folder))
unfolding season_in
limits-error None folder error is of = tt
limits-error (Some files) folder error is of = same-error f.Rules error (limits_in files folder) (behind_limits files folder) is of (λ limits. later-from 1 2 _ (omega arith) (behind-limits-from files folder limits))

pub calendar-error :
    (files : Option Files) (folder : List ℕ) (limits : Limits) (error : SeasonError) → IfSome files (λ held. limits_in held folder ≡ Ok limits) →
    IfSome files (λ held. Gives {X = List Window} {Y = List Window} (λ x. x) (Err error) (calendar_in held folder limits)) → ((other : File) → error ≡ Read other → other ≡ f.Calendar) →
    IfSome files (λ held. Gives {X = Season} {Y = Season} (λ s. s) (Err error) (season_in held folder))
unfolding season_in
calendar-error None folder limits error read is of = tt
calendar-error (Some files) folder limits error read is of =
    rw read (same-error f.Calendar error (calendar_in files folder limits) (behind_calendar files folder limits) is of (λ windows. later-from 2 3 _ (omega arith) (behind-calendar-from files folder limits windows)))

pub ladder-error :
    (files : Option Files) (folder : List ℕ) (limits : Limits) (windows : List Window) (error : SeasonError) → IfSome files (λ held. limits_in held folder ≡ Ok limits) → IfSome files (λ held. calendar_in held folder limits ≡ Ok windows) →
    IfSome files (λ held. Gives {X = List ℕ} {Y = List ℕ} (λ x. x) (Err error) (prices_in held folder)) → ((other : File) → error ≡ Read other → other ≡ f.Ladder) →
    IfSome files (λ held. Gives {X = Season} {Y = Season} (λ s. s) (Err error) (season_in held folder))
unfolding season_in
ladder-error None folder limits windows error read calendar is of = tt
ladder-error (Some files) folder limits windows error read calendar is of =
    rw (read, calendar) (same-error f.Ladder error (prices_in files folder) (behind_ladder files folder limits windows) is of (λ prices. later-from 3 4 _ (omega arith) (behind-ladder-from files folder limits windows prices)))

pub stock-error :
    (files : Option Files) (folder : List ℕ) (limits : Limits) (windows : List Window) (prices : List ℕ) (error : SeasonError) → IfSome files (λ held. limits_in held folder ≡ Ok limits) →
    IfSome files (λ held. calendar_in held folder limits ≡ Ok windows) → IfSome files (λ held. prices_in held folder ≡ Ok prices) →
    IfSome files (λ held. Gives {X = List Store} {Y = List Store} (λ x. x) (Err error) (stores_in held folder limits)) → ((other : File) → error ≡ Read other → other ≡ f.Stock) →
    IfSome files (λ held. Gives {X = Season} {Y = Season} (λ s. s) (Err error) (season_in held folder))
unfolding season_in
stock-error None folder limits windows prices error read calendar ladder is of = tt
stock-error (Some files) folder limits windows prices error read calendar ladder is of =
    rw (read, calendar, ladder) (same-error f.Stock error (stores_in files folder limits) (behind_stock files folder limits windows prices) is of (λ stores. later-from 4 5 _ (omega arith) (behind-stock-from files folder limits windows prices stores)))

pub demand-error :
    (files : Option Files) (folder : List ℕ) (limits : Limits) (windows : List Window) (prices : List ℕ) (stores : List Store) (error : SeasonError) → IfSome files (λ held. limits_in held folder ≡ Ok limits) →
    IfSome files (λ held. calendar_in held folder limits ≡ Ok windows) → IfSome files (λ held. prices_in held folder ≡ Ok prices) → IfSome files (λ held. stores_in held folder limits ≡ Ok stores) →
    IfSome files (λ held. Gives {X = DemandWeights} {Y = DemandWeights} (λ x. x) (Err error) (weights_in held folder limits prices stores)) → ((other : File) → error ≡ Read other → other ≡ f.Demand) →
    IfSome files (λ held. Gives {X = Season} {Y = Season} (λ s. s) (Err error) (season_in held folder))
unfolding season_in
demand-error None folder limits windows prices stores error read calendar ladder stock is of = tt
demand-error (Some files) folder limits windows prices stores error read calendar ladder stock is of =
    rw (read, calendar, ladder, stock) (same-error f.Demand error (weights_in files folder limits prices stores) (season_within limits windows prices stores) is of (within-from limits windows prices stores))
