-- How runs end.
use Rattle.std.proofs.Common.{◌≡◌, ◌<◌, ◌≤◌, inl, inr, arith, refl, sym, subst, ◌∙◌, ℕ, List, [], Some, None, Bool, true, false}
use Rattle.std.specs.Prelude.{◌≢◌, ◌⊎◌, ◌↔◌, IfSome, IsErrOf, IsTrue, Option, Result, Ok, Err}
use Rattle.clr_io.specs.Files.{Files}
use Rattle.clr_words.specs.Asked.{Ask, asked_of}
use Rattle.clr_words.specs.declared.asked.Job.{Job}
use Rattle.clr_words.specs.declared.asked.Job.TheVariants as j
use Rattle.clr_rules.specs.FirstPath.{NoPathObeys, SomePathObeys}
use Rattle.clr_rules.specs.Rules.{Rulebook, is_live}
use Rattle.clr_rules.proofs.FirstPaths.{some_or_none_obeys_lem}
use Rattle.clr_cert.specs.Accepts.{Accepts}
use Rattle.clr_cert.specs.Entries.{CertEntries}
use Rattle.clr_cert.specs.Lines.{cert_text}
use Rattle.clr_season.specs.Reads.{ReachesFile, Stop, absent, most_bytes, place_of, refused, season_in, stop_place, too_long, too_many_cells}
use Rattle.clr_season.specs.Season.{IsSeason, Season}
use Rattle.clr_season.specs.declared.reads.File.{File}
use Rattle.clr_season.specs.declared.reads.File.TheVariants as f
use Rattle.clr_season.specs.declared.reads.SeasonError.TheVariants as e
use Rattle.clr_report.specs.declared.note.Cause.TheVariants.{NoPath, Memory}
use Rattle.clr_report.specs.declared.note.Cause.{Cause}
use Rattle.clr_jobs.specs.FileEnds.{limit_of}
use Rattle.clr_jobs.specs.Outputs.{Outputs}
use Rattle.clr_jobs.specs.Plans.{IsPlanText, PlanGives, cert_files}
use Rattle.clr_jobs.specs.Runs.{ByFiles, Gives, GivesBy, IsSeasonError, OfSeason, ReachesDoc, ReadEnds, doc_of, ending_asked, ends_by, job_ends, plan_ends, season_ends, stopped}

-- an error that was handed on
pub same-error : {X : Type 0} (error ending : Cause) → IsErrOf {T = X} {E = Cause} (Err error) ending → error ≡ ending
same-error error ending is = cc

-- an error is that of its own result
pub given-error : {X : Type 0} (error : Cause) → IsErrOf {T = X} {E = Cause} (Err error) error
given-error error = refl

-- ---- by an error of the season

-- the job ends by what stands against its season
abbrev pub StopsBySeason : Job → Type 0
StopsBySeason job = (held : Files) (ask : Ask) (stop : Stop) → ask.job ≡ job → season_in held ask.folder ≡ Err stop → ends_by held ask ≡ Some (stopped stop)

pub plan-stops : StopsBySeason j.Plan
plan-stops held ask stop plan is = rw (plan, is) refl

pub judge-stops : StopsBySeason j.Judge
judge-stops held ask stop judge is = subst (λ job. job_ends job held ask ≡ Some (stopped stop)) (sym judge) (rw is refl)

pub check-stops : StopsBySeason j.Check
check-stops held ask stop check is = subst (λ job. job_ends job held ask ≡ Some (stopped stop)) (sym check) (rw is refl)

not-make : (job given : Job) → job ≡ given → given ≢ j.Make → job ≢ j.Make
not-make job given is other = λ make. other (sym is ∙ make)

stops-so : (job : Job) → StopsBySeason job → (files : Option Files) (ask : Ask) (stop : Stop) → ask.job ≡ job → IfSome files (λ held. season_in held ask.folder ≡ Err stop) → IfSome files (λ held. ends_by held ask ≡ Some (stopped stop))
stops-so job stops None ask stop of is = tt
stops-so job stops (Some held) ask stop of is = stops held ask stop of is

by-files : (job : Job) → StopsBySeason job → job ≢ j.Make → (files : Option Files) (ask : Ask) (stop : Stop) → ask.job ≡ job → IfSome files (λ held. season_in held ask.folder ≡ Err stop) → ByFiles files ask (stopped stop)
by-files job stops reads files ask stop of is = (not-make ask.job job of reads, stops-so job stops files ask stop of is)

-- the most bytes of a file of the season
limit-of : (file : File) → most_bytes ≡ limit_of (doc_of file)
limit-of f.Rules = refl
limit-of f.Calendar = refl
limit-of f.Ladder = refl
limit-of f.Stock = refl
limit-of f.Demand = refl

-- a file that something stands against was reached
reaches-by : (file : File) (stop : Stop) (given : Result Season Stop) → place_of file ≤ stop_place stop → given ≡ Err stop → ReachesFile file given
reaches-by file stop given here is = rw is here

reaches-so : (files : Option Files) (ask : Ask) (file : File) (stop : Stop) → place_of file ≤ stop_place stop → IfSome files (λ held. season_in held ask.folder ≡ Err stop) → IfSome files (λ held. ReachesFile file (season_in held ask.folder))
reaches-so None ask file stop here given = tt
reaches-so (Some held) ask file stop here given = reaches-by file stop (season_in held ask.folder) here given

reaches : (job : Job) → job ≢ j.Make → (files : Option Files) (ask : Ask) (file : File) (stop : Stop) → ask.job ≡ job → place_of file ≤ stop_place stop → IfSome files (λ held. season_in held ask.folder ≡ Err stop) → ReachesDoc files ask (doc_of file)
reaches job reads files ask file stop of here given = (not-make ask.job job of reads, inl (file, refl, reaches-so files ask file stop here given))

-- an error of the season that is asked, and why the run ends by it
pub season-error : (job : Job) → StopsBySeason job → job ≢ j.Make → (files : Option Files) (ask : Ask) (taken : ℕ) (ShelfRose : Type 0) (ending : Cause) → ask.job ≡ job → IsSeasonError files ask.folder taken ShelfRose ending → ReadEnds files ask taken ShelfRose ending
season-error job stops reads files ask taken ShelfRose ending of (e.Read file, by, given, rose, long) = rw by (rose file refl, (not-make ask.job job of reads, inl (file, refl, given)))
season-error job stops reads files ask taken ShelfRose ending of (e.Absent file, by, given, rose, long) = rw by (reaches job reads files ask file (absent file) of (omega arith) given, by-files job stops reads files ask (absent file) of given)
season-error job stops reads files ask taken ShelfRose ending of (e.TooLong file, by, given, rose, long) =
    rw by (limit-of file, long file refl, reaches job reads files ask file (too_long file) of (omega arith) given, by-files job stops reads files ask (too_long file) of given)
season-error job stops reads files ask taken ShelfRose ending of (e.Refused file row column why, by, given, rose, long) =
    rw by (reaches job reads files ask file (refused file (record { row = row; column = column; why = why })) of (omega arith) given, by-files job stops reads files ask (refused file (record { row = row; column = column; why = why })) of given)
season-error job stops reads files ask taken ShelfRose ending of (e.Cells found, by, given, rose, long) = rw by (by-files job stops reads files ask (too_many_cells found) of given)
season-error job stops reads files ask taken ShelfRose ending of (e.Memory, by, given, rose, long) = rw by tt

-- ---- by the rules

-- no path obeys where there is no live summary
pub none-lives : (rules : Rulebook) (any : Bool) (count : ℕ) → any ≡ false → (IsTrue any ↔ 0 < count) → ((0 < count) ↔ SomePathObeys rules) → NoPathObeys rules
none-lives rules any count none tests some = λ path keeps. let yes : IsTrue any = tests.1 (some.1 ((some_or_none_obeys_lem rules).some.1 (path, keeps))) in cc

-- a season that was read and isn't planned
pub no-plan :
    (files : Option Files) (ask : Ask) (season : Season) (taken : ℕ) (ShelfRose : Type 0) (ending : Cause) → ask.job ≡ j.Plan → IfSome files (λ held. season_in held ask.folder ≡ Ok season) → IsSeason season →
    (ending ≡ Memory) ⊎ ((ending ≡ NoPath) × NoPathObeys season.rules) → ReadEnds files ask taken ShelfRose ending
no-plan files ask season taken ShelfRose ending plan is facts (inl memory) = rw memory tt
no-plan files ask season taken ShelfRose ending plan is facts (inr none) = rw (none.0) (plan, (season, is, facts, none.1))

plan-lives : (given : Result Season Stop) (season : Season) → given ≡ Ok season → SomePathObeys season.rules → season_ends plan_ends given ≡ None
plan-lives given season is some = let lives : is_live season.rules [] ≡ true = some in rw (is, lives) refl

-- a plan comes to its outputs where some path obeys
pub plan-passes : (files : Option Files) (ask : Ask) (season : Season) → ask.job ≡ j.Plan → IfSome files (λ held. season_in held ask.folder ≡ Ok season) → SomePathObeys season.rules → IfSome files (λ held. ends_by held ask ≡ None)
plan-passes None ask season plan is some = tt
plan-passes (Some held) ask season plan is some = rw plan (plan-lives (season_in held ask.folder) season is some)

-- and gives those of its season
pub plan-gives : (files : Option Files) (ask : Ask) (outputs : Outputs) → ask.job ≡ j.Plan → OfSeason files ask (λ season. PlanGives season ask outputs) → Gives files ask outputs
plan-gives files ask outputs plan gives = subst (λ job. GivesBy job files ask outputs) (sym plan) gives

-- what is written of a season's plan
pub plan-written : (files : Option Files) (ask : Ask) (season : Season) (entries : CertEntries) (text : List ℕ) → ask.job ≡ j.Plan → IfSome files (λ held. season_in held ask.folder ≡ Ok season) → IsSeason season →
    Accepts season (cert_text season entries) → IsPlanText season ask entries text → Gives files ask (record { made = cert_files ask.cert (cert_text season entries); report = text })
plan-written files ask season entries text plan is facts accepted told = plan-gives files ask _ plan (season, is, facts, (entries, refl, accepted, told))

-- ---- with the words

pub words-pass : (files : Option Files) (words : List (List ℕ)) (ask : Ask) → asked_of words ≡ Some ask → IfSome files (λ held. ends_by held ask ≡ None) → IfSome files (λ held. ending_asked held words ≡ None)
words-pass None words ask asked passes = tt
words-pass (Some held) words ask asked passes = rw asked passes
