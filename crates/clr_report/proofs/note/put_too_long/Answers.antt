use Rattle.std.proofs.Common.{[], ◌∷◌, codes, decimal}
use Rattle.clr_report.specs.Columns.{doc_text}
use Rattle.clr_report.proofs.Spaced.{more_joined}
use Rattle.clr_report.proofs.note.put_too_long.Goals as goal

pub returns-clause-text : goal.returns-clause-text
returns-clause-text c = more_joined (codes "limit:") (doc_text c.args.doc ∷ []) (codes "longer than" ∷ decimal c.args.max ∷ []) _ _ c.put_doc-end.ensures.text c.put_labelled_wide.ensures.text
