use Rattle.std.proofs.Common.{[], ◌∷◌}
use Rattle.clr_report.specs.Columns.{doc_text}
use Rattle.clr_report.proofs.Spaced.{more_joined}
use Rattle.clr_report.proofs.note.put_doc.Goals as goal

pub returns-clause-text : goal.returns-clause-text
returns-clause-text c = more_joined c.args.phrase.now [] (doc_text c.args.doc ∷ []) _ _ c.put-end.ensures.text (cc)
