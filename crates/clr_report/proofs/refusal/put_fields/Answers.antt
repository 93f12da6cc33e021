use Rattle.std.proofs.Common.{[], ◌∷◌, codes, decimal}
use Rattle.clr_report.proofs.Spaced.{more}
use Rattle.clr_report.proofs.refusal.put_fields.Goals as goal

pub returns-clause-text : goal.returns-clause-text
returns-clause-text c = more (codes "row" ∷ decimal c.args.row ∷ []) (codes "fields" ∷ []) _ _ _ c.put_labelled-end.ensures.text c.put_word.ensures.text
