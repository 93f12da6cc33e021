use Rattle.std.proofs.Common.{◌≡◌, arith, inl, refl, rules, subst}
use Rattle.std.specs.Prelude.{Err, IfSome, IsErrOf, None}
use Rattle.clr_words.specs.Asked.{ask_of}
use Rattle.clr_words.specs.declared.asked.Job.TheVariants as j
use Rattle.clr_report.specs.declared.note.Doc.TheVariants as d
use Rattle.clr_jobs.specs.FileEnds.{EndsBy}
use Rattle.clr_jobs.specs.Checking.{check_ends}
use Rattle.clr_jobs.proofs.Ends.{given-error, same-error}
use Rattle.clr_jobs.proofs.Further.{further-ends, further-passes, check-behind, check-written}
use Rattle.clr_jobs.proofs.Taking.{few-taken}
use Rattle.clr_jobs.proofs.jobs.ready_check.Goals as goal

pub returns-in_err-text-clause-ends : goal.returns-in_err-text-clause-ends
returns-in_err-text-clause-ends g c = λ ending is.
    let exit : c.from_residual-in_err-text.result ≡ Err c.in_err-text.field-0.0 = search rules in
    let same : c.in_err-text.field-0.0 ≡ ending = same-error c.in_err-text.field-0.0 ending (subst (λ result. IsErrOf result ending) exit is) in
    let files : g.H.Shelf.files c.asked_season.new.shelf ≡ g.H.Shelf.files c.args.shelf.now = c.in_ok-season.ensures.files in
    let ends : EndsBy (g.H.Shelf.files c.args.shelf.now) (check_ends c.in_ok-season.season (ask_of c.args.asked.now)) d.Certificate (g.H.Shelf.taken c.check_season.new.shelf) (g.H.Shelf.faults c.asked_season.new.shelf) (g.H.Shelf.faults c.check_season.new.shelf) c.in_err-text.field-0.0 =
    subst (λ told. EndsBy told (check_ends c.in_ok-season.season (ask_of c.args.asked.now)) d.Certificate (g.H.Shelf.taken c.check_season.new.shelf) (g.H.Shelf.faults c.asked_season.new.shelf) (g.H.Shelf.faults c.check_season.new.shelf) c.in_err-text.field-0.0)
    files (c.in_err-text.ensures.ends c.in_err-text.field-0.0 (given-error c.in_err-text.field-0.0)) in
    rw (← same)
    (further-ends j.Check check_ends check-behind (g.H.Shelf.files c.args.shelf.now) (ask_of c.args.asked.now) c.in_ok-season.season c.requires.job c.in_ok-season.ensures.season c.in_ok-season.ensures.facts d.Certificate (g.H.Shelf.taken c.check_season.new.shelf)
    (g.H.Shelf.faults c.args.shelf.now) (g.H.Shelf.faults c.asked_season.new.shelf) (g.H.Shelf.faults c.check_season.new.shelf) c.in_err-text.field-0.0 (λ other. cc) refl c.in_ok-season.ensures.later ends)

pub returns-clause-gives : goal.returns-clause-gives
returns-clause-gives g c =
    check-written (g.H.Shelf.files c.args.shelf.now) (g.H.Shelf.files c.asked_season.new.shelf) (ask_of c.args.asked.now) c.in_ok-season.season c.in_ok-text.text.items c.in_ok-season.ensures.files c.requires.job c.in_ok-season.ensures.season
    c.in_ok-season.ensures.facts c.in_ok-text.ensures.reports

pub returns-clause-passes : goal.returns-clause-passes
returns-clause-passes g c =
    let passes : IfSome (g.H.Shelf.files c.args.shelf.now) (λ held. check_ends c.in_ok-season.season (ask_of c.args.asked.now) held ≡ None) =
    subst (λ told. IfSome told (λ held. check_ends c.in_ok-season.season (ask_of c.args.asked.now) held ≡ None)) c.in_ok-season.ensures.files c.in_ok-text.ensures.passes in
    further-passes j.Check check_ends check-behind (g.H.Shelf.files c.args.shelf.now) (ask_of c.args.asked.now) c.in_ok-season.season c.requires.job c.in_ok-season.ensures.season c.in_ok-season.ensures.facts passes

pub returns-clause-within : goal.returns-clause-within
returns-clause-within g c = inl (c.in_ok-text.ensures.within (omega (arith, few-taken c.in_ok-season.season _ _ c.in_ok-season.ensures.within)))
