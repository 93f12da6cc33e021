use Rattle.std.proofs.Common.{[], ◌∷◌, codes}
use Rattle.clr_report.specs.Columns.{doc_text}
use Rattle.clr_report.specs.NoteText.{note_words, refusal_words}
use Rattle.clr_report.proofs.Spaced.{more_joined}
use Rattle.clr_report.proofs.note.put_refused.Goals as goal

pub returns-clause-text : goal.returns-clause-text
unfolding note_words
returns-clause-text c =
    let place = c.args.place in
    more_joined (codes "refused:") (doc_text place.doc ∷ []) (refusal_words place.doc place.row place.column c.args.why) _ _ c.put_doc-end.ensures.text c.put_refusal.ensures.text
