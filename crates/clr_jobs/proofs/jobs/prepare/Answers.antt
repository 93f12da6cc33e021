use Rattle.std.proofs.Common.{◌≡◌, ◌∙◌, inl, inr, ap, refl, rules, map, string_bytes}
use Rattle.std.specs.Prelude.{Err}
use Rattle.clr_words.specs.Asked.{ask_of}
use Rattle.clr_jobs.specs.Ready.{outputs_of}
use Rattle.clr_words.specs.declared.asked.Job.TheVariants as j
use Rattle.clr_report.specs.declared.note.Cause.{Cause}
use Rattle.clr_report.specs.declared.note.Cause.TheVariants.{Memory}
use Rattle.clr_jobs.proofs.Ends.{given-error, words-pass}
use Rattle.clr_jobs.proofs.Making.{make-passes}
use Rattle.clr_jobs.proofs.Taking.{made-unread, read-by, unasked}
use Rattle.clr_jobs.proofs.Writing.{if-ok}
use Rattle.clr_jobs.proofs.jobs.prepare.Goals as goal

pub returns-in-Make-clause-writes : goal.returns-in-Make-clause-writes
returns-in-Make-clause-writes g c =
    if-ok c.ready_make.result _ _ (λ ready gives. (ask_of c.in_ok-asked.asked, outputs_of ready, c.in_ok-asked.ensures.asked, c.in_ok-asked.ensures.facts, gives (g.H.Shelf.files c.args.shelf.now), refl)) c.ready_make.ensures.gives

pub returns-in-Make-clause-passes : goal.returns-in-Make-clause-passes
returns-in-Make-clause-passes g c =
    if-ok c.ready_make.result _ _ (λ ready gives.
    words-pass (g.H.Shelf.files c.args.shelf.now) (map string_bytes c.args.words.now) (ask_of c.in_ok-asked.asked) c.in_ok-asked.ensures.asked (make-passes (g.H.Shelf.files c.args.shelf.now) (ask_of c.in_ok-asked.asked) c.in-Make.is)) c.ready_make.ensures.gives

pub returns-in-Make-clause-ends : goal.returns-in-Make-clause-ends
returns-in-Make-clause-ends g c = λ ending is. inl (c.ready_make.ensures.ends ending is)

pub returns-in_err-asked-clause-within : goal.returns-in_err-asked-clause-within
returns-in_err-asked-clause-within g c = λ reads.
    let exit : c.from_residual.result ≡ Err c.in_err-asked.field-0.0 = search rules in
    let memory : c.in_err-asked.field-0.0 ≡ Memory = unasked (map string_bytes c.args.words.now) c.in_err-asked.field-0.0 reads (c.in_err-asked.ensures.ends c.in_err-asked.field-0.0 (given-error c.in_err-asked.field-0.0)) in
    inr (exit ∙ ap (λ (e : Cause). Err e) memory, refl)

pub returns-in-Make-clause-within : goal.returns-in-Make-clause-within
returns-in-Make-clause-within g c = λ reads. absurd (made-unread (map string_bytes c.args.words.now) (ask_of c.in_ok-asked.asked) c.in_ok-asked.ensures.asked c.in-Make.is reads)

pub returns-in-Plan-clause-shelf : goal.returns-in-Plan-clause-shelf
returns-in-Plan-clause-shelf g c = λ none. absurd (none (read-by (map string_bytes c.args.words.now) (ask_of c.in_ok-asked.asked) j.Plan c.in_ok-asked.ensures.asked c.in-Plan.is (λ e. cc)))

pub returns-in-Check-clause-shelf : goal.returns-in-Check-clause-shelf
returns-in-Check-clause-shelf g c = λ none. absurd (none (read-by (map string_bytes c.args.words.now) (ask_of c.in_ok-asked.asked) j.Check c.in_ok-asked.ensures.asked c.in-Check.is (λ e. cc)))

pub returns-in-Judge-clause-shelf : goal.returns-in-Judge-clause-shelf
returns-in-Judge-clause-shelf g c = λ none. absurd (none (read-by (map string_bytes c.args.words.now) (ask_of c.in_ok-asked.asked) j.Judge c.in_ok-asked.ensures.asked c.in-Judge.is (λ e. cc)))
