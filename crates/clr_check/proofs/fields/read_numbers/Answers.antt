use Rattle.std.proofs.Common.{◌≡◌, ◌<◌, ◌≤◌, ℕ, sym, subst, ap, length, arith, ◌∙◌, eqb→eq}
use Rattle.std.specs.Bool.{passes}
use Rattle.clr_check.proofs.FieldLemmas.{AreReadTo, Puts, all_read, more_left, none_next, read_next, told_fits}
use Rattle.std.proofs.Common.{set}
use Rattle.clr_check.specs.Fields.{HasNumberFirst}
use Rattle.clr_check.proofs.fields.read_numbers.Goals as goal
use Rattle.clr_check.proofs.fields.read_numbers.Goals.{in-Is, in-Large, in-No}

same : (a b : ℕ) → a ≤ b → b ≤ a → a ≡ b
same a b p q = omega arith

pub returns-in_default : goal.returns-in_default
returns-in_default c = none_next c.args.text.now c.loop-at.rest.now c.loop-at.at (length c.args.numbers.now) c.loop-at.told c.loop-at.numbers c.loop-at.invariant (c.in_default.ensures) c.loop-at-test.true

pub loop-at-preserved : goal.loop-at-preserved
loop-at-preserved c =
    let less : c.loop-at.at < length c.loop-at.numbers = omega (arith, c.loop-at.auto.numbers, c.loop-at-test.true) in
    let next = read_next c.args.text.now c.loop-at.rest.now c.in-Some.after.now c.loop-at.at c.in-Some.number c.loop-at.told c.match-number.told c.loop-at.numbers c.match-number.numbers less c.loop-at.invariant (c.in-Some.ensures) in
    elim c.match-number.branch [
      | in-Is w ↦ next (subst (λ n. Puts n c.loop-at.at c.loop-at.told c.loop-at.numbers c.match-number.told c.match-number.numbers) (sym w.in-Is.is) (w.told-is, w.numbers-is ∙ ap (set c.loop-at.numbers c.loop-at.at) (told_fits c.loop-at.rest.now c.in-Some.after.now w.in-Is.value (subst (λ n. HasNumberFirst c.loop-at.rest.now n c.in-Some.after.now) w.in-Is.is c.in-Some.ensures))))
      | in-Large w ↦ next (subst (λ n. Puts n c.loop-at.at c.loop-at.told c.loop-at.numbers c.match-number.told c.match-number.numbers) (sym w.in-Large.is) (w.told-is, w.numbers-is))
      | in-No w ↦ next (subst (λ n. Puts n c.loop-at.at c.loop-at.told c.loop-at.numbers c.match-number.told c.match-number.numbers) (sym w.in-No.is) (w.told-is, w.numbers-is))
    ]

pub returns-then-is_empty : goal.returns-then-is_empty
returns-then-is_empty c =
    let at : c.loop-at.at ≡ length c.loop-at.numbers = omega (arith, c.loop-at.auto.numbers, c.loop-at.auto.at-end, c.loop-at-test.false) in
    all_read c.args.text.now c.loop-at.rest.now c.loop-at.told c.loop-at.numbers (subst (λ n. AreReadTo c.args.text.now c.loop-at.rest.now n c.loop-at.told c.loop-at.numbers) at c.loop-at.invariant)
    (eqb→eq (length c.loop-at.rest.now) 0 (passes _ (sym (c.if-is_empty.ensures))))

pub returns-else-is_empty : goal.returns-else-is_empty
returns-else-is_empty c =
    let at : c.loop-at.at ≡ length c.args.numbers.now = same _ _ c.loop-at.auto.at-end c.loop-at-test.false in
    let some : 0 < length c.loop-at.rest.now = grind (arith, c.if-is_empty.ensures) in
    more_left c.args.text.now c.loop-at.rest.now (length c.args.numbers.now) c.loop-at.told c.loop-at.numbers (subst (λ n. AreReadTo c.args.text.now c.loop-at.rest.now n c.loop-at.told c.loop-at.numbers) at c.loop-at.invariant) some
