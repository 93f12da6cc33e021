use Rattle.std.proofs.Common.{[], ◌∷◌, decimal}
use Rattle.clr_report.proofs.Spaced.{more_joined}
use Rattle.clr_report.proofs.pieces.put_count.Goals as goal

pub returns-clause-text : goal.returns-clause-text
returns-clause-text c = more_joined c.args.phrase.now [] (decimal c.args.number ∷ []) _ _ c.put-end.ensures.text c.put_number.ensures.text
