use Rattle.std.proofs.Common.{SFits, [], ◌∷◌, codes, decimal, rules}
use Rattle.std.proofs.lemmas.Int.{to_z-of_z}
use mir.Syntax.{w128}
use Rattle.clr_report.specs.NoteText.{no_words, note_words}
use Rattle.clr_report.proofs.Spaced.{more_joined}
use Rattle.clr_report.proofs.verdict.put_no.Goals as goal

pub returns-clause-text : goal.returns-clause-text
unfolding note_words
returns-clause-text c =
    let reason = c.args.no in
    let left : SFits w128 reason.left = search rules in
    let right : SFits w128 reason.right = search rules in
    let told = rw (to_z-of_z w128 reason.left left, to_z-of_z w128 reason.right right) at c.put_kind.ensures.text in
    more_joined (codes "certificate no: row") (decimal reason.row ∷ []) (no_words reason.kind reason.left reason.right) _ _ c.put_count-end.ensures.text told
