use Rattle.std.proofs.Common.{◌≡◌, ◌∙◌, inl, inr, ap, sym, subst, refl, map, string_bytes, Some}
use Rattle.std.specs.Prelude.{◌⊎◌, IfSome}
use Rattle.clr_top.specs.declared.ending.Status.TheVariants as s
use Rattle.clr_jobs.specs.Runs.{docs_asked, ending_asked}
use Rattle.clr_jobs.proofs.Taking.{few-taken}
use Rattle.clr_top.specs.Endings.{Exactly, status_of}
use Rattle.clr_top.proofs.Ends.{exactly-ok, exactly-told, makes-caused, ok-no-read, ok-no-words, ok-no-write, only-memory, read-caused, within-told, words-caused, write-caused}
use Rattle.clr_top.proofs.program.run.Goals as goal

pub returns-in-Ok-clause-exact : goal.returns-in-Ok-clause-exact
returns-in-Ok-clause-exact g c = exactly-ok (g.H.Shelf.files c.args.shelf.now) (map string_bytes c.args.words.now) c.in-Ok.ensures.passes

pub returns-in-Err-clause-read : goal.returns-in-Err-clause-read
returns-in-Err-clause-read g c = λ is.
    read-caused (g.H.Shelf.files c.args.shelf.now) (map string_bytes c.args.words.now) (g.H.Shelf.taken c.work.new.shelf) _ _ _ c.in-Err.ending (sym c.ending_status.ensures ∙ is) (c.in-Err.ensures.caused c.in-Err.ending refl)

pub returns-in-Err-clause-write : goal.returns-in-Err-clause-write
returns-in-Err-clause-write g c = λ is.
    write-caused (g.H.Shelf.files c.args.shelf.now) (map string_bytes c.args.words.now) (g.H.Shelf.taken c.work.new.shelf) _ _ _ c.in-Err.ending (sym c.ending_status.ensures ∙ is) (c.in-Err.ensures.caused c.in-Err.ending refl)

pub returns-in-Err-clause-words : goal.returns-in-Err-clause-words
returns-in-Err-clause-words g c = λ is.
    words-caused (g.H.Shelf.files c.args.shelf.now) (map string_bytes c.args.words.now) (g.H.Shelf.taken c.work.new.shelf) _ _ _ c.in-Err.ending (sym c.ending_status.ensures ∙ is) (c.in-Err.ensures.caused c.in-Err.ending refl)

pub returns-in-Err-clause-makes : goal.returns-in-Err-clause-makes
returns-in-Err-clause-makes g c = λ makes.
    inr (subst (λ status. (status ≡ s.WriteFault) ⊎ (status ≡ s.Memory)) (sym c.ending_status.ensures)
    (makes-caused (g.H.Shelf.files c.args.shelf.now) (map string_bytes c.args.words.now) (g.H.Shelf.taken c.work.new.shelf) _ _ _ c.in-Err.ending makes (c.in-Err.ensures.caused c.in-Err.ending refl)))

pub returns-in-Err-clause-exact : goal.returns-in-Err-clause-exact
returns-in-Err-clause-exact g c =
    exactly-told (g.H.Shelf.files c.args.shelf.now) (map string_bytes c.args.words.now) (g.H.Shelf.taken c.work.new.shelf) _ _ _ c.in-Err.ending c.ending_status.result c.ending_status.ensures (c.in-Err.ensures.caused c.in-Err.ending refl)

pub returns-in-Err-clause-complete : goal.returns-in-Err-clause-complete
returns-in-Err-clause-complete g c = λ held told passes calm_shelf calm_desk calm_out.
    let exact : IfSome (Some held) (λ files. Exactly c.ending_status.result (ending_asked files (map string_bytes c.args.words.now))) = rw told at (returns-in-Err-clause-exact g c) in
    only-memory c.ending_status.result (ending_asked held (map string_bytes c.args.words.now)) (docs_asked (map string_bytes c.args.words.now)) _ _ _ exact passes (λ is. (returns-in-Err-clause-read g c is).0)
    (returns-in-Err-clause-write g c) calm_shelf calm_desk calm_out

pub returns-in-Err-clause-caused : goal.returns-in-Err-clause-caused
returns-in-Err-clause-caused g c = λ other. (c.in-Err.ending, c.ending_status.ensures, c.in-Err.ensures.caused c.in-Err.ending refl, c.in-Err.ensures.leaves c.in-Err.ending refl, c.write_note.ensures.notes)

pub returns-in-Ok-clause-caused : goal.returns-in-Ok-clause-caused
returns-in-Ok-clause-caused g c = λ other. absurd (other refl)

pub returns-in-Ok-clause-makes : goal.returns-in-Ok-clause-makes
returns-in-Ok-clause-makes g c = λ makes. inl refl

pub returns-in-Ok-clause-quiet : goal.returns-in-Ok-clause-quiet
returns-in-Ok-clause-quiet g c = λ other unwritten. absurd (other refl)

pub returns-in-Ok-clause-complete : goal.returns-in-Ok-clause-complete
returns-in-Ok-clause-complete g c = λ held told passes calm_shelf calm_desk calm_out. inl refl

pub returns-in-Ok-clause-read : goal.returns-in-Ok-clause-read
returns-in-Ok-clause-read g c = λ is. absurd (ok-no-read is)

pub returns-in-Ok-clause-write : goal.returns-in-Ok-clause-write
returns-in-Ok-clause-write g c = λ is. absurd (ok-no-write is)

pub returns-in-Ok-clause-words : goal.returns-in-Ok-clause-words
returns-in-Ok-clause-words g c = λ is. absurd (ok-no-words is)

pub returns-in-Ok-clause-within : goal.returns-in-Ok-clause-within
returns-in-Ok-clause-within g c = λ reads. inl (few-taken c.in-Ok.field-0 _ _ (c.in-Ok.ensures.within reads))

pub returns-in-Err-clause-within : goal.returns-in-Err-clause-within
returns-in-Err-clause-within g c = λ reads. within-told c.ending_status.result c.in-Err.ending _ _ c.ending_status.ensures (c.in-Err.ensures.within reads)

pub returns-in-Err-clause-quiet : goal.returns-in-Err-clause-quiet
returns-in-Err-clause-quiet g c = λ other unwritten. c.in-Err.ensures.quiet c.in-Err.ending refl (λ doc is. unwritten (c.ending_status.ensures ∙ ap status_of is))
