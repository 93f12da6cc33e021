use Rattle.std.proofs.Common.{◌≡◌, ◌∙◌, ◌≤◌, ◌+◌, arith, inl, ap, rules, subst}
use Rattle.std.specs.Prelude.{Err, IsErrOf}
use Rattle.clr_rules.specs.LiveSummaries.{live_pairs}
use Rattle.clr_words.specs.Asked.{ask_of}
use Rattle.clr_jobs.specs.Held.{entries_of}
use Rattle.clr_jobs.proofs.Ends.{given-error, no-plan, plan-passes, plan-written, same-error}
use Rattle.clr_jobs.proofs.Taking.{few-taken}
use Rattle.clr_jobs.proofs.jobs.ready_plan.Goals as goal

pub returns-in_err-plan-clause-ends : goal.returns-in_err-plan-clause-ends
returns-in_err-plan-clause-ends g c = λ ending is.
    let exit : c.from_residual-in_err-plan.result ≡ Err c.in_err-plan.field-0.0 = search rules in
    let same : c.in_err-plan.field-0.0 ≡ ending = same-error c.in_err-plan.field-0.0 ending (subst (λ result. IsErrOf result ending) exit is) in
    rw (← same)
    (no-plan (g.H.Shelf.files c.args.shelf.now) (ask_of c.args.asked) c.in_ok-season.season (g.H.Shelf.taken c.asked_season.new.shelf) _ c.in_err-plan.field-0.0 c.requires.job c.in_ok-season.ensures.season c.in_ok-season.ensures.facts (c.in_err-plan.ensures.ends c.in_err-plan.field-0.0 (given-error c.in_err-plan.field-0.0)))

pub returns-clause-gives : goal.returns-clause-gives
returns-clause-gives g c =
    plan-written (g.H.Shelf.files c.args.shelf.now) (ask_of c.args.asked) c.in_ok-season.season (entries_of c.in_ok-plan.plan.entries) c.in_ok-plan.plan.text.items c.requires.job c.in_ok-season.ensures.season c.in_ok-season.ensures.facts
    c.in_ok-plan.ensures.accepted c.in_ok-plan.ensures.plan

pub returns-clause-passes : goal.returns-clause-passes
returns-clause-passes g c = plan-passes (g.H.Shelf.files c.args.shelf.now) (ask_of c.args.asked) c.in_ok-season.season c.requires.job c.in_ok-season.ensures.season c.in_ok-plan.ensures.any

pub returns-clause-ready : goal.returns-clause-ready
returns-clause-ready g c = record { live = c.in-Ok.ensures.pairs ∙ ap live_pairs c.rules.ensures.value; any = c.in_ok-plan.ensures.any; whole = c.in_ok-plan.ensures.whole }

pub returns-clause-within : goal.returns-clause-within
returns-clause-within g c = let few : g.H.Shelf.taken c.asked_season.new.shelf ≤ 33554432 + 65536 = few-taken c.in_ok-season.season _ _ c.in_ok-season.ensures.within in inl (omega arith)
