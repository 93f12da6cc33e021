-- The plan of a season, and what its numbers mean.
use Rattle.std.specs.Prelude.{◌≡◌, ℕ, ℤ, pos, ◌+ℤ◌, ◌≤ℤ◌, Bool, List, [], ◌∷◌, IfSome, IsTrue, Option, Some, None, codes, if◌then◌else◌}
use Rattle.std.specs.Str.{bytes_eq}
use Rattle.clr_io.specs.Files.{Files}
use Rattle.clr_words.specs.Asked.{Ask}
use Rattle.clr_rules.specs.Rules.{obeys}
use Rattle.clr_season.specs.Season.{Season}
use Rattle.clr_model.specs.Expected.{Encloses, Tops}
use Rattle.clr_model.specs.Fits.{fits}
use Rattle.clr_model.specs.JointValue.{joint_low, joint_rung_at, joint_table, joint_top}
use Rattle.clr_model.specs.Laws.{IsInterval}
use Rattle.clr_model.specs.Policies.{Abides}
use Rattle.clr_model.specs.Revenue.{full_stocks}
use Rattle.clr_model.specs.StoreValue.{Multipliers}
use Rattle.clr_mult.specs.Tables.{mult_at}
use Rattle.clr_subgrad.specs.Run.{IsFirstLeast, run_bound, run_table}
use Rattle.clr_search.specs.Found.{IsBestOfAll, IsFound}
use Rattle.clr_cert.specs.Accepts.{Accepts}
use Rattle.clr_cert.specs.Entries.{CertEntries}
use Rattle.clr_cert.specs.Lines.{cert_text}
use Rattle.clr_cert.specs.Planned.{AreEntriesOf}
use Rattle.clr_report.specs.PlanText.{IsPlanOf, plan_text}
use Rattle.clr_report.specs.declared.plan.PlanFacts.{PlanFacts}
use Rattle.clr_jobs.specs.Outputs.{Outputs}

-- ---- the plan

-- Of the table for the stocks of all stores, where the season is small enough for one: its value before the first week at full stocks,
-- rounded down and rounded up, and the rung that it puts there.
abbrev pub exact_of : Season → Option (ℤ × ℤ × ℕ)
exact_of season = if fits season then Some (joint_low season, joint_top season, joint_rung_at season [] (full_stocks season)) else None

-- the multipliers after so many steps of the descent that is asked
abbrev pub step_mult : Season → Ask → ℕ → Multipliers
step_mult season ask step = mult_at (run_table season ask.step step)

-- Of the descent's steps, from 0 to as many as are asked, the first whose bound is least, with that bound; the path that the search
-- finds with the multipliers of that step among as many tight prefixes as are asked, with its low and its high value and whether it is
-- known to be the best; and the values of the table for all stores, where there is one. So the season and what is asked determine each
-- of them.
pub record IsPlan (season : Season) (ask : Ask) (facts : PlanFacts) : Type 0 where
  pub bound : IsFirstLeast (run_bound season ask.step) ask.steps facts.at_step facts.bound
  pub found : IsFound season (step_mult season ask facts.at_step) ask.nodes facts.path facts.low facts.high facts.best
  pub exact : facts.exact ≡ exact_of season

-- ---- what its numbers mean

-- The table policy abides by the rules, and what it earns in expectation lies between the two values, which are at most a unit apart
-- for each week. No policy that abides by the rules earns more than the value rounded up.
pub record IsExactSound (season : Season) (low top : ℤ) : Type 0 where
  pub abides : Abides season (joint_table season)
  pub encloses : Encloses season low top (joint_table season)
  pub tops : Tops season top
  pub close : top ≤ℤ (low +ℤ pos season.rules.weeks)

-- The path obeys, and what it earns in expectation lies between its two values, which are at most a unit apart for each store and
-- week. Where it is known to be the best, no path that obeys has a greater low value, and none that comes before it has the same. No
-- policy that abides by the rules earns more than the bound. Where there is a table for all stores, its numbers are sound.
pub record IsSound (season : Season) (facts : PlanFacts) : Type 0 where
  pub obeying : IsTrue (obeys season.rules facts.path)
  pub interval : IsInterval season facts.path facts.low facts.high
  pub best : IsTrue facts.best → IsBestOfAll season facts.path
  pub tops : Tops season facts.bound
  pub exact : IfSome facts.exact (λ exact. IsExactSound season exact.0 exact.1)

-- ---- what is written

-- The plan that is asked, sound and such that its report determines it.
pub record IsPlanned (season : Season) (ask : Ask) (facts : PlanFacts) : Type 0 where
  pub plan : IsPlan season ask facts
  pub sound : IsSound season facts
  pub told : IsPlanOf season facts

-- The text of the report on the plan that is asked; and the entries of its certificate: those of its path, of the multipliers of its step
-- and, where there is one, of the table for all stores.
abbrev pub IsPlanText : Season → Ask → CertEntries → List ℕ → Type 0
IsPlanText season ask entries text =
    (facts : PlanFacts) × IsPlanned season ask facts × AreEntriesOf season facts.path (step_mult season ask facts.at_step) entries × (text ≡ plan_text season facts)

-- the name `-` stands for no certificate
abbrev pub no_name : List ℕ → Bool
no_name cert = bytes_eq cert (codes "-")

-- the file of a certificate, where one is asked
abbrev pub cert_files : List ℕ → List ℕ → Files
cert_files cert text = if no_name cert then [] else (cert, text) ∷ []

-- the certificate of a season's plan, which is accepted, where one is asked, and the report on the plan
abbrev pub PlanGives : Season → Ask → Outputs → Type 0
PlanGives season ask outputs =
    (entries : CertEntries) × (outputs.made ≡ cert_files ask.cert (cert_text season entries)) × Accepts season (cert_text season entries) × IsPlanText season ask entries outputs.report
