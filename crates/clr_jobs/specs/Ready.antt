-- What stands ready to be written.
use Rattle.std.specs.Prelude.{◌≡◌, List, [], string_bytes}
use Rattle.clr_cert.specs.Lines.{cert_text}
use Rattle.clr_report.specs.declared.note.Doc.{Doc}
use Rattle.clr_rules.specs.FirstPath.{SomePathObeys}
use Rattle.clr_rules.specs.LiveSummaries.{live_pairs}
use Rattle.clr_words.specs.declared.asked.Job.TheVariants as j
use Rattle.clr_jobs.specs.Held.{IsWhole, entries_of}
use Rattle.clr_jobs.specs.Making.{made_docs, made_files}
use Rattle.clr_jobs.specs.Outputs.{Outputs}
use Rattle.clr_jobs.specs.Plans.{cert_files}
use Rattle.clr_jobs.specs.Runs.{docs_by}
use Rattle.clr_jobs.specs.declared.jobs.PlanReady.{PlanReady}
use Rattle.clr_jobs.specs.declared.jobs.Ready.{Ready}
use Rattle.clr_jobs.specs.declared.jobs.Ready.TheVariants.{Make, Plan, Report}

-- ---- a plan

-- what is written of a plan
abbrev pub plan_outputs : PlanReady → Outputs
plan_outputs ready = record { made = cert_files (string_bytes ready.asked.cert) (cert_text ready.season (entries_of ready.plan.entries)); report = ready.plan.text.items }

abbrev pub plan_docs : PlanReady → List Doc
plan_docs ready = docs_by j.Plan (string_bytes ready.asked.cert)

-- its certificate can be written
pub record IsPlanReady (ready : PlanReady) : Type 0 where
  pub live : ready.live ≡ live_pairs ready.season.rules
  pub any : SomePathObeys ready.season.rules
  pub whole : IsWhole ready.season ready.plan.entries

-- ---- each job

-- what is written
abbrev pub outputs_of : Ready → Outputs
outputs_of (Plan ready) = plan_outputs ready
outputs_of (Report text) = record { made = []; report = text.items }
outputs_of (Make season) = record { made = made_files season; report = season.text.items }

-- the documents of its files
abbrev pub docs_ready : Ready → List Doc
docs_ready (Plan ready) = plan_docs ready
docs_ready (Report text) = []
docs_ready (Make season) = made_docs

-- it can be written
abbrev pub IsReady : Ready → Type 0
IsReady (Plan ready) = IsPlanReady ready
IsReady (Report text) = Unit {0}
IsReady (Make season) = Unit {0}
