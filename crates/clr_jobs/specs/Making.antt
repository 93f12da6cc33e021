-- The season that a seed makes: its files, and the report of its plan.
use Rattle.std.specs.Prelude.{◌≡◌, ℕ, ◌∷◌, [], List, Ok, string_bytes}
use Rattle.clr_io.specs.Files.{Files}
use Rattle.clr_words.specs.Asked.{Ask}
use Rattle.clr_season.specs.Reads.{season_in}
use Rattle.clr_season.specs.Season.{IsSeason, Season}
use Rattle.clr_make.specs.Made.{IsMade}
use Rattle.clr_make.specs.Reads.{files_in}
use Rattle.clr_make.specs.declared.files.Made.{Made}
use Rattle.clr_report.specs.PlanText.{plan_text}
use Rattle.clr_report.specs.declared.note.Doc.{Doc}
use Rattle.clr_report.specs.declared.note.Doc.TheVariants as d
use Rattle.clr_report.specs.declared.plan.PlanFacts.{PlanFacts}
use Rattle.clr_jobs.specs.Outputs.{Outputs}
use Rattle.clr_jobs.specs.Plans.{IsPlanned}
use Rattle.clr_jobs.specs.declared.make.MadeSeason.{MadeSeason}

-- ---- the files

-- their documents, in the order in which they are made
abbrev pub made_docs : List Doc
made_docs = d.Rules ∷ d.Ladder ∷ d.Stock ∷ d.Demand ∷ []

-- those of a season that was made, in this order, under their names
abbrev pub made_files : MadeSeason → Files
made_files season =
    (string_bytes season.names.rules, season.made.rules.items) ∷ (string_bytes season.names.ladder, season.made.ladder.items) ∷ (string_bytes season.names.stock, season.made.stock.items) ∷ (string_bytes season.names.demand, season.made.demand.items) ∷ []

-- ---- what is written

-- the text is the report on the plan that is asked
abbrev pub IsPlanReport : Season → Ask → List ℕ → Type 0
IsPlanReport season ask text = (facts : PlanFacts) × IsPlanned season ask facts × (text ≡ plan_text season facts)

-- These are the files of the seed that is asked. In the folder that is asked they read to a season, and the text is the report on the plan
-- of that season that is asked.
abbrev pub MakeReports : Ask → Made → List ℕ → Type 0
MakeReports ask made report =
    IsMade ask.seed made × (season : Season) × (season_in (files_in ask.folder made) ask.folder ≡ Ok season) × IsSeason season × IsPlanReport season ask report

-- the four files of the seed that is asked, under their names in the folder that is asked, and the report on the plan of their season
abbrev pub MakeGives : Ask → Outputs → Type 0
MakeGives ask outputs = (made : Made) × (outputs.made ≡ files_in ask.folder made) × MakeReports ask made outputs.report
