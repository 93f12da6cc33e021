use Rattle.std.proofs.Common.{[], ◌∷◌, ◌++◌, ap, sym, subst, ◌∙◌}
use Rattle.clr_report.specs.Lines.{IsLine}
use Rattle.clr_report.proofs.OneLine.{note_is_line}
use Rattle.clr_report.proofs.note.note_text.Goals as goal

pub returns-clause-line : goal.returns-clause-line
returns-clause-line c =
    let same = c.put.ensures.text ∙ ap (λ t. t ++ 10 ∷ []) c.put_cause-end.ensures.text in
    subst IsLine (sym same) (note_is_line c.args.cause.now)
