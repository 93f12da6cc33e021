use Rattle.std.proofs.Common.{[], ◌∷◌}
use Rattle.clr_report.specs.NoteText.{field_words}
use Rattle.clr_report.proofs.Spaced.{more}
use Rattle.clr_report.proofs.refusal.put_field.Goals as goal

pub returns-clause-text : goal.returns-clause-text
returns-clause-text c =
    let place = c.args.place in
    more (field_words place.doc place.row place.column) (c.args.fault.now ∷ []) _ _ _ c.put_place-end.ensures.text c.put_word.ensures.text
