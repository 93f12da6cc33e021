-- What made files read to, and how their job ends.
use Rattle.std.proofs.Common.{◌≡◌, inl, inr, refl, sym, subst, arith, ℕ, List}
use Rattle.std.specs.Prelude.{◌⊎◌, Contains, IfOk, IfSome, Option, Some, None, Result, Ok, Err}
use Rattle.clr_io.specs.Files.{Files}
use Rattle.clr_words.specs.Asked.{Ask}
use Rattle.clr_words.specs.declared.asked.Job.TheVariants as j
use Rattle.clr_rules.specs.FirstPath.{SomePathObeys}
use Rattle.clr_season.specs.Reads.{Gives as SeasonGives}
use Rattle.clr_season.specs.Reads.{Stop, absent, refused, season_in, too_long, too_many_cells}
use Rattle.clr_season.specs.Season.{Season}
use Rattle.clr_season.specs.declared.reads.File.{File}
use Rattle.clr_season.specs.declared.reads.SeasonError.{SeasonError}
use Rattle.clr_season.specs.declared.reads.SeasonError.TheVariants.{Read, Absent, TooLong, Refused, Cells, Memory}
use Rattle.clr_make.specs.Reads.{ReadsToSeason}
use Rattle.clr_rules.specs.FirstPath.{NoPathObeys}
use Rattle.clr_rules.specs.Rules.{Rulebook}
use Rattle.clr_rules.proofs.FirstPaths.{some_or_none_obeys_lem}
use Rattle.clr_report.specs.declared.note.Cause.TheVariants as note
use Rattle.clr_report.specs.declared.note.Doc.{Doc}
use Rattle.clr_report.specs.declared.note.Doc.TheVariants as d
use Rattle.clr_jobs.specs.Making.{MakeGives, made_docs}
use Rattle.clr_jobs.specs.Outputs.{Outputs}
use Rattle.clr_jobs.specs.Runs.{Gives, GivesBy, ends_by}
use Rattle.clr_report.specs.declared.note.Cause.{Cause}

-- what was read of a shelf, where these are its files
pub of-files : (told : Option Files) (files : Files) (folder : List ℕ) (result : Result Season SeasonError) → told ≡ Some files → IfSome told (λ held. SeasonGives {X = Season} {Y = Season} (λ s. s) result (season_in held folder)) →
    SeasonGives {X = Season} {Y = Season} (λ s. s) result (season_in files folder)
of-files told files folder result is gives = rw is at gives

-- of the season that was read some path obeys
pub some-obeys : (files : Files) (folder : List ℕ) (result : Result Season SeasonError) → ReadsToSeason files folder → SeasonGives {X = Season} {Y = Season} (λ s. s) result (season_in files folder) → IfOk result (λ season. SomePathObeys season.rules)
some-obeys files folder (Ok season) made gives =
    let reads : season_in files folder ≡ Ok made.season = made.reads in
    let same : season ≡ made.season = cc in
    rw same made.some_path
some-obeys files folder (Err error) made gives = tt

-- nothing stands against it
nothing-stands : {A : Type 0} (files : Files) (folder : List ℕ) (stop : Stop) → ReadsToSeason files folder → season_in files folder ≡ Err stop → A
nothing-stands files folder stop made gives =
    let reads : season_in files folder ≡ Ok made.season = made.reads in
    cc

-- so only a fault or want of memory is left
pub only-faults : (files : Files) (folder : List ℕ) (error : SeasonError) → ReadsToSeason files folder → SeasonGives {X = Season} {Y = Season} (λ s. s) (Err error) (season_in files folder) → (error ≡ Memory) ⊎ ((file : File) × (error ≡ Read file))
only-faults files folder (Read file) made gives = inr (file, refl)
only-faults files folder (Absent file) made gives = nothing-stands files folder (absent file) made gives
only-faults files folder (TooLong file) made gives = nothing-stands files folder (too_long file) made gives
only-faults files folder (Refused file row column why) made gives = nothing-stands files folder (refused file (record { row = row; column = column; why = why })) made gives
only-faults files folder (Cells found) made gives = nothing-stands files folder (too_many_cells found) made gives
only-faults files folder Memory made gives = inl refl

-- where some path obeys, a plan ends for want of memory alone
pub only-memory : (rules : Rulebook) (ending : Cause) → SomePathObeys rules → (ending ≡ note.Memory) ⊎ ((ending ≡ note.NoPath) × NoPathObeys rules) → ending ≡ note.Memory
only-memory rules ending some (inl memory) = memory
only-memory rules ending some (inr (no_path, none)) = let (path, keeps) = (some_or_none_obeys_lem rules).some.0 some in absurd (none path keeps)

-- ---- the job

-- it comes to its outputs, whatever the shelf holds
pub make-passes : (files : Option Files) (ask : Ask) → ask.job ≡ j.Make → IfSome files (λ held. ends_by held ask ≡ None)
make-passes None ask make = tt
make-passes (Some held) ask make = rw make refl

pub make-gives : (files : Option Files) (ask : Ask) (outputs : Outputs) → ask.job ≡ j.Make → MakeGives ask outputs → Gives files ask outputs
make-gives files ask outputs make gives = subst (λ job. GivesBy job files ask outputs) (sym make) gives

-- ---- its documents

pub made-ladder : (doc : Doc) → doc ≡ d.Ladder → Contains made_docs doc
made-ladder doc is = (1, omega arith, sym is)

pub made-stock : (doc : Doc) → doc ≡ d.Stock → Contains made_docs doc
made-stock doc is = (2, omega arith, sym is)

pub made-demand : (doc : Doc) → doc ≡ d.Demand → Contains made_docs doc
made-demand doc is = (3, omega arith, sym is)
