use Rattle.std.proofs.Common.{sym, ap, subst, subst₂}
use Rattle.std.specs.Prelude.{IsTrue}
use Rattle.clr_cert.specs.Planned.{AreEntriesOf}
use Rattle.clr_model.specs.StoreValue.{SumToZero}
use Rattle.clr_mult.specs.Tables.{mult_at}
use Rattle.clr_rules.specs.Rules.{obeys}
use Rattle.clr_storedp.proofs.Totals.{sums_of}
use Rattle.clr_words.specs.Asked.{ask_of}
use Rattle.clr_jobs.specs.Held.{AreHeldOf, entries_of}
use Rattle.clr_jobs.specs.Plans.{step_mult}
use Rattle.clr_jobs.proofs.Certifying.{held-as, plan-entries, whole-entries}
use Rattle.clr_jobs.proofs.plan.plan_of.Goals as goal

pub returns-clause-plan : goal.returns-clause-plan
returns-clause-plan c =
    let season = c.args.season.now in
    let ask = ask_of c.args.asked.now in
    let computed = c.in_ok-computed.computed in
    let run = c.in_ok-computed.ensures in
    let held = c.in_ok-entries.entries in
    let here = c.in_ok-entries.ensures in
    let are : AreHeldOf season ask computed.descent.at_step held =
    held-as season ask computed.descent.at_step computed.facts.path computed.descent.mult computed.descent.tables.items computed.joint held here.path here.low here.high here.mult (ap (λ t. t.items) here.tables) here.joint
    run.told.path run.mult run.of_season run.small run.tables run.joint in
    let of_plan : AreEntriesOf season computed.facts.path (step_mult season ask computed.facts.at_step) (entries_of held) =
    subst₂ (λ path step. AreEntriesOf season path (step_mult season ask step) (entries_of held)) here.path (sym run.step) (plan-entries season ask computed.descent.at_step held c.requires.facts are) in
    (computed.facts, record { plan = run.plan; sound = run.sound; told = run.told }, of_plan, c.in_ok-text.ensures)

pub returns-clause-whole : goal.returns-clause-whole
returns-clause-whole c =
    let season = c.args.season.now in
    let ask = ask_of c.args.asked.now in
    let computed = c.in_ok-computed.computed in
    let run = c.in_ok-computed.ensures in
    let held = c.in_ok-entries.entries in
    let here = c.in_ok-entries.ensures in
    let are : AreHeldOf season ask computed.descent.at_step held =
    held-as season ask computed.descent.at_step computed.facts.path computed.descent.mult computed.descent.tables.items computed.joint held here.path here.low here.high here.mult (ap (λ t. t.items) here.tables) here.joint
    run.told.path run.mult run.of_season run.small run.tables run.joint in
    whole-entries season ask computed.descent.at_step held c.requires.facts are

pub returns-clause-accepted : goal.returns-clause-accepted
returns-clause-accepted c =
    let season = c.args.season.now in
    let ask = ask_of c.args.asked.now in
    let computed = c.in_ok-computed.computed in
    let run = c.in_ok-computed.ensures in
    let held = c.in_ok-entries.entries in
    let here = c.in_ok-entries.ensures in
    let are : AreHeldOf season ask computed.descent.at_step held =
    held-as season ask computed.descent.at_step computed.facts.path computed.descent.mult computed.descent.tables.items computed.joint held here.path here.low here.high here.mult (ap (λ t. t.items) here.tables) here.joint
    run.told.path run.mult run.of_season run.small run.tables run.joint in
    let obeying : IsTrue (obeys season.rules held.path) = subst (λ path. IsTrue (obeys season.rules path)) (sym here.path) run.sound.obeying in
    let sums : SumToZero season (step_mult season ask computed.descent.at_step) = subst (λ t. SumToZero season (mult_at t)) run.mult (sums_of season computed.descent.mult run.of_season c.sums_to_zero.ensures) in
    (c.planned_is_accepted.ensures season held.path (step_mult season ask computed.descent.at_step) (entries_of held) c.requires.facts obeying sums (whole-entries season ask computed.descent.at_step held c.requires.facts are).ranges (plan-entries season ask computed.descent.at_step held c.requires.facts are)).accepted
