-- The sign that the code chose, the size and the marked digits, each as the definition has it.
use Rattle.std.proofs.Common.{◌≡◌, pos, ap, sym, ◌∙◌, unsigned_abs, rules}
use Rattle.std.proofs.lemmas.Int.{to_z-of_z}
use Rattle.std.specs.Fmt.{sign_text}
use Rattle.std.specs.Int.{is_negative}
use lib.Signed.{lt_z}
use mir.Syntax.{w128}
use Rattle.clr_num.proofs.Digits.{marked_units}
use Rattle.clr_num.proofs.money.print_money.Goals as goal
use Rattle.clr_num.proofs.money.print_money.Goals.{then-units-lt0, else-units-lt0}

pub returns-clause-ok : goal.returns-clause-ok
returns-clause-ok c =
    let size : c.unsigned_abs-size.result ≡ unsigned_abs c.args.units = search rules in
    let read = ap (λ z. lt_z z (pos 0)) (sym (to_z-of_z w128 c.args.units c.ranges.units)) in
    let sign : c.if-units-lt0.sign.now ≡ sign_text (is_negative c.args.units) =
    elim c.if-units-lt0.branch [
      | then-units-lt0 w ↦ ap (λ r. r.now) w.sign-is ∙ sym (ap sign_text (read ∙ w.if-units-lt0.true))
      | else-units-lt0 w ↦ ap (λ r. r.now) w.sign-is ∙ sym (ap sign_text (read ∙ w.if-units-lt0.false))
    ] in
    let digits = marked_units (unsigned_abs c.args.units) in
    rw (sign, size, digits) at c.print_parts.ensures.ok
