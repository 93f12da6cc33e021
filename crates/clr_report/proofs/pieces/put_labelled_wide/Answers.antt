use Rattle.std.proofs.Common.{[], ◌∷◌, decimal}
use Rattle.clr_report.proofs.Spaced.{more}
use Rattle.clr_report.proofs.pieces.put_labelled_wide.Goals as goal

pub returns-clause-text : goal.returns-clause-text
returns-clause-text c = more (c.args.label.now ∷ []) (decimal c.args.number ∷ []) _ _ _ c.put_word-end.ensures.text c.put_number.ensures.text
