use Rattle.std.proofs.Common.{◌≡◌, ℕ, ◌≤◌, pos, [], ◌∷◌, ◌++◌, length, get_or, take, ap, ap₂, sym, ◌∙◌, arith, rules, SFits, to_z, of_z}
use Rattle.std.proofs.Math.Seq.{take-length}
use Rattle.std.proofs.lemmas.Int.{to_z-of_z}
use Rattle.std.proofs.lemmas.List.{take_more}
use mir.Syntax.{w64, w128}
use Rattle.clr_joint.proofs.fold.widened.Goals as goal

ended : (index count : ℕ) → count ≤ index → index ≤ count → index ≡ count
ended index count p q = omega arith

pub loop-value-preserved : goal.loop-value-preserved
loop-value-preserved c =
    let fits : SFits w128 c.from.result = search rules in
    let item_fits : SFits w64 (get_or c.args.row.now c.loop-value.value-index (pos 0)) = search rules in
    let read : to_z w128 (of_z w128 c.from.result) ≡ get_or c.args.row.now c.loop-value.value-index (pos 0) = to_z-of_z w128 c.from.result fits ∙ (c.from.ensures ∙ to_z-of_z w64 _ item_fits) in
    c.in_ok-push.ensures.items
    ∙ (ap₂ (λ l z. l ++ z ∷ []) c.loop-value.invariant read ∙ sym (take_more c.args.row.now c.loop-value.value-index (pos 0) c.loop-value-test.true))

pub returns : goal.returns
returns c = c.loop-value.invariant ∙ (ap (λ n. take n c.args.row.now) (ended c.loop-value.value-index (length c.args.row.now) c.loop-value-test.false c.loop-value.auto.value-index-end) ∙ take-length c.args.row.now)
