use Rattle.std.proofs.Common.{[], ◌∷◌, codes, decimal}
use Rattle.clr_report.proofs.Spaced.{more}
use Rattle.clr_report.proofs.refusal.put_cell.Goals as goal

pub returns-clause-text : goal.returns-clause-text
returns-clause-text c =
    let front = more (codes "row" ∷ decimal c.args.row ∷ []) (codes "column" ∷ []) _ _ _ c.put_labelled-row_end.ensures.text c.put_word-end.ensures.text in
    more (codes "row" ∷ decimal c.args.row ∷ codes "column" ∷ []) (c.args.column.now ∷ []) _ _ _ front c.put_word.ensures.text
