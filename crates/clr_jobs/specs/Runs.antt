-- What a run is asked, what it writes, and why it ends without its report.
use Rattle.std.specs.Prelude.{◌≡◌, ◌≢◌, ◌⊎◌, ◌∷◌, [], ℕ, ◌<◌, IfSome, List, Option, Some, None, Result, Ok, Err, if◌then◌else◌}
use Rattle.std.specs.Option.{option_map_or}
use Rattle.clr_io.specs.Files.{Files}
use Rattle.clr_words.specs.Asked.{Ask, IsAsk, asked_of}
use Rattle.clr_words.specs.declared.asked.Job.{Job}
use Rattle.clr_words.specs.declared.asked.Job.TheVariants as j
use Rattle.clr_rules.specs.FirstPath.{NoPathObeys}
use Rattle.clr_rules.specs.Rules.{is_live}
use Rattle.clr_season.specs.Season.{Season, IsSeason}
use Rattle.clr_season.specs.Reads.{Gives as SeasonGives}
use Rattle.clr_season.specs.Reads.{ReachesFile, Stop, absent, most_bytes, refused, season_in, too_long, too_many_cells}
use Rattle.clr_season.specs.declared.reads.File.{File}
use Rattle.clr_season.specs.declared.reads.File.TheVariants as f
use Rattle.clr_season.specs.declared.reads.SeasonError.{SeasonError}
use Rattle.clr_season.specs.declared.reads.SeasonError.TheVariants as e
use Rattle.clr_report.specs.declared.note.Doc.{Doc}
use Rattle.clr_report.specs.declared.note.Doc.TheVariants as d
use Rattle.clr_report.specs.declared.note.Cause.{Cause}
use Rattle.clr_report.specs.declared.note.Cause.TheVariants.{Words, Refused, NoPath, ReadFault, Absent, WriteFault, TooLong, Cells, Size, Base, CertificateNo, PolicyJson, PolicyShape, PolicyUnknown, PolicyRule, Memory}
use Rattle.clr_jobs.specs.Checking.{CheckReports, check_ends}
use Rattle.clr_jobs.specs.FileEnds.{limit_of}
use Rattle.clr_jobs.specs.Judging.{JudgeReports, judge_ends}
use Rattle.clr_jobs.specs.Making.{MakeGives, made_docs}
use Rattle.clr_jobs.specs.Outputs.{Fails, Leaves, Outputs}
use Rattle.clr_jobs.specs.Plans.{PlanGives, no_name}

-- ---- what is asked

-- the documents of the files that a job makes, in their order
abbrev pub docs_by : Job → List ℕ → List Doc
docs_by j.Plan cert = if no_name cert then [] else d.Certificate ∷ []
docs_by j.Check cert = []
docs_by j.Judge cert = []
docs_by j.Make cert = made_docs

-- those of what the words ask
abbrev pub docs_asked : List (List ℕ) → List Doc
docs_asked words = option_map_or (λ ask. docs_by ask.job ask.cert) (asked_of words) []

-- ---- what the files give

-- a file as the notes name it
abbrev pub doc_of : File → Doc
doc_of f.Rules = d.Rules
doc_of f.Calendar = d.Calendar
doc_of f.Ladder = d.Ladder
doc_of f.Stock = d.Stock
doc_of f.Demand = d.Demand

-- how a run ends by what stands against a season
abbrev pub stopped : Stop → Cause
stopped (absent file) = Absent (doc_of file)
stopped (too_long file) = TooLong (doc_of file) most_bytes
stopped (refused file refusal) = Refused (doc_of file) refusal.row refusal.column refusal.why
stopped (too_many_cells found) = Cells found

-- how a run ends by an error of its season
abbrev pub ending_by : SeasonError → Cause
ending_by (e.Read file) = ReadFault (doc_of file)
ending_by (e.Absent file) = Absent (doc_of file)
ending_by (e.TooLong file) = TooLong (doc_of file) most_bytes
ending_by (e.Refused file row column why) = Refused (doc_of file) row column why
ending_by (e.Cells found) = Cells found
ending_by e.Memory = Memory

-- how a run ends by what its folder reads to
abbrev pub season_ends : (Season → Option Cause) → Result Season Stop → Option Cause
season_ends ends (Ok season) = ends season
season_ends ends (Err stop) = Some (stopped stop)

-- how a plan ends by its season
abbrev pub plan_ends : Season → Option Cause
plan_ends season = if is_live season.rules [] then None else Some NoPath

abbrev pub job_ends : Job → Files → Ask → Option Cause
job_ends j.Plan held ask = season_ends plan_ends (season_in held ask.folder)
job_ends j.Check held ask = season_ends (λ season. check_ends season ask held) (season_in held ask.folder)
job_ends j.Judge held ask = season_ends (λ season. judge_ends season ask held) (season_in held ask.folder)
job_ends j.Make held ask = None

-- how a run ends by the files, where it doesn't come to its outputs
abbrev pub ends_by : Files → Ask → Option Cause
ends_by held ask = job_ends ask.job held ask

-- how it ends by the words, and then by the files
abbrev pub ending_asked : Files → List (List ℕ) → Option Cause
ending_asked held words = option_map_or (ends_by held) (asked_of words) (Some Words)

-- ---- what is written

-- The folder that is asked reads to a season, of which something holds.
abbrev pub OfSeason : Option Files → Ask → (Season → Type 0) → Type 0
OfSeason files ask Holds = (season : Season) × IfSome files (λ held. season_in held ask.folder ≡ Ok season) × IsSeason season × Holds season

abbrev pub GivesBy : Job → Option Files → Ask → Outputs → Type 0
GivesBy j.Plan files ask outputs = OfSeason files ask (λ season. PlanGives season ask outputs)
GivesBy j.Check files ask outputs = OfSeason files ask (λ season. (outputs.made ≡ []) × CheckReports files season ask outputs.report)
GivesBy j.Judge files ask outputs = OfSeason files ask (λ season. (outputs.made ≡ []) × JudgeReports files season ask outputs.report)
GivesBy j.Make files ask outputs = MakeGives ask outputs

-- what a whole run writes
abbrev pub Gives : Option Files → Ask → Outputs → Type 0
Gives files ask outputs = GivesBy ask.job files ask outputs

-- Something is asked, each number within its limits, and something holds of what a whole run of it writes.
abbrev pub Writes : Option Files → List (List ℕ) → (Outputs → Type 0) → Type 0
Writes files words Holds = (ask : Ask) × (outputs : Outputs) × (asked_of words ≡ Some ask) × IsAsk ask × Gives files ask outputs × Holds outputs

-- After a fault of an output those before it stand whole, of it a front or no file, and nothing of those behind it.
abbrev pub LeavesOutputs : Option Files → List (List ℕ) → Option Files → Option Files → Option (List ℕ) → Option (List ℕ) → Cause → Type 0
LeavesOutputs files words made_old made_new written_old written_new ending =
    (doc : Doc) → ending ≡ WriteFault doc → Writes files words (λ outputs. Leaves (docs_asked words) outputs made_old made_new written_old written_new doc)

-- ---- why a run ends without its report

-- The job reads files, and the run ends so by them.
abbrev pub ByFiles : Option Files → Ask → Cause → Type 0
ByFiles files ask ending = (ask.job ≢ j.Make) × IfSome files (λ held. ends_by held ask ≡ Some ending)

-- an error of the season of a folder, and why it comes
abbrev pub IsSeasonError : Option Files → List ℕ → ℕ → Type 0 → Cause → Type 0
IsSeasonError files folder taken ShelfRose ending =
    (error : SeasonError) × (ending ≡ ending_by error) × IfSome files (λ held. SeasonGives (λ season. season) (Err error) (season_in held folder))
    × ((file : File) → error ≡ e.Read file → ShelfRose) × ((file : File) → error ≡ e.TooLong file → most_bytes < taken)

-- a job is asked that reads a season
abbrev pub ReadsSeason : List (List ℕ) → Type 0
ReadsSeason words = (ask : Ask) × (asked_of words ≡ Some ask) × (ask.job ≢ j.Make)

-- the job is asked that makes a season, and reads nothing
abbrev pub MakesSeason : List (List ℕ) → Type 0
MakesSeason words = (ask : Ask) × (asked_of words ≡ Some ask) × (ask.job ≡ j.Make)

-- the further file that a job reads behind its season
abbrev pub further_doc : Job → Option Doc
further_doc j.Plan = None
further_doc j.Check = Some d.Certificate
further_doc j.Judge = Some d.Policy
further_doc j.Make = None

-- The job reads a season, and the files before this one are held, not too long and not refused: it is a file of the season, or the further
-- one, where the folder reads to a season.
abbrev pub ReachesDoc : Option Files → Ask → Doc → Type 0
ReachesDoc files ask doc =
    (ask.job ≢ j.Make)
    × (((file : File) × (doc ≡ doc_of file) × IfSome files (λ held. ReachesFile file (season_in held ask.folder))) ⊎ ((further_doc ask.job ≡ Some doc) × OfSeason files ask (λ season. Unit {0})))

-- A plan is asked, and no path of its season obeys.
abbrev pub NoneObeys : Option Files → Ask → Type 0
NoneObeys files ask = (ask.job ≡ j.Plan) × OfSeason files ask (λ season. NoPathObeys season.rules)

-- Why a run ends behind the words and before it writes: what is asked; the files of the shelf, where they are told; the bytes that were
-- taken of the open file in the end; and whether the shelf's faults rose.
abbrev pub ReadEnds : Option Files → Ask → ℕ → Type 0 → Cause → Type 0
ReadEnds files ask taken ShelfRose Words = ⊥
ReadEnds files ask taken ShelfRose (Refused doc row column why) = ReachesDoc files ask doc × ByFiles files ask (Refused doc row column why)
ReadEnds files ask taken ShelfRose NoPath = NoneObeys files ask
ReadEnds files ask taken ShelfRose (ReadFault doc) = ShelfRose × ReachesDoc files ask doc
ReadEnds files ask taken ShelfRose (Absent doc) = ReachesDoc files ask doc × ByFiles files ask (Absent doc)
ReadEnds files ask taken ShelfRose (WriteFault doc) = ⊥
ReadEnds files ask taken ShelfRose (TooLong doc max) = (max ≡ limit_of doc) × (max < taken) × ReachesDoc files ask doc × ByFiles files ask (TooLong doc max)
ReadEnds files ask taken ShelfRose (Cells found) = ByFiles files ask (Cells found)
ReadEnds files ask taken ShelfRose (Size found) = ByFiles files ask (Size found)
ReadEnds files ask taken ShelfRose Base = ByFiles files ask Base
ReadEnds files ask taken ShelfRose (CertificateNo reason) = ByFiles files ask (CertificateNo reason)
ReadEnds files ask taken ShelfRose PolicyJson = ByFiles files ask PolicyJson
ReadEnds files ask taken ShelfRose (PolicyShape branch) = ByFiles files ask (PolicyShape branch)
ReadEnds files ask taken ShelfRose (PolicyUnknown branch) = ByFiles files ask (PolicyUnknown branch)
ReadEnds files ask taken ShelfRose (PolicyRule branch rule) = ByFiles files ask (PolicyRule branch rule)
ReadEnds files ask taken ShelfRose Memory = Unit {0}

-- Why a run ends before it writes: memory was wanting, the words ask nothing, or what is read.
abbrev pub EndsBefore : Option Files → List (List ℕ) → ℕ → Type 0 → Cause → Type 0
EndsBefore files words taken ShelfRose ending =
    (ending ≡ Memory) ⊎ (((ending ≡ Words) × (asked_of words ≡ None)) ⊎ ((ask : Ask) × (asked_of words ≡ Some ask) × ReadEnds files ask taken ShelfRose ending))

-- Why a run ends: before it writes, or by a fault of an output, where the words and the files come to outputs. The three conditions say
-- whether the faults of the shelf, of the desk and of the report's sink rose.
abbrev pub Caused : Option Files → List (List ℕ) → ℕ → Type 0 → Type 0 → Type 0 → Cause → Type 0
Caused files words taken ShelfRose DeskRose OutRose ending =
    EndsBefore files words taken ShelfRose ending
    ⊎ ((doc : Doc) × (ending ≡ WriteFault doc) × Fails (docs_asked words) DeskRose OutRose doc × IfSome files (λ held. ending_asked held words ≡ None))
