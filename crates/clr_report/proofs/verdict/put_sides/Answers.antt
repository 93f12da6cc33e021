use Rattle.std.proofs.Common.{[], ◌∷◌}
use Rattle.std.proofs.lemmas.Int.{to_z-of_z}
use Rattle.std.specs.Fmt.{signed_decimal}
use mir.Syntax.{w128}
use Rattle.clr_report.proofs.Spaced.{more}
use Rattle.clr_report.proofs.verdict.put_sides.Goals as goal

pub returns-clause-text : goal.returns-clause-text
returns-clause-text c =
    let a = c.args in
    let left = rw (to_z-of_z w128 a.left c.ranges.left) at c.put_signed-end.ensures.text in
    let right = rw (to_z-of_z w128 a.right c.ranges.right) at c.put_signed.ensures.text in
    let front = more (a.word.now ∷ []) (signed_decimal a.left ∷ []) _ _ _ c.put_word-word_end.ensures.text left in
    more (a.word.now ∷ signed_decimal a.left ∷ []) (signed_decimal a.right ∷ []) _ _ _ front right
