use Rattle.std.proofs.Common.{◌≡◌, ℕ, ◌≤◌, ◌+◌, ℤ, pos, ◌-ℤ◌, ap, ap₂, sym, ◌∙◌, subst, arith, add-one, to_z, of_z}
use Rattle.std.proofs.lemmas.Int.{ints}
use mir.Syntax.{w64}
use Rattle.clr_average.specs.Average.{IsWithin}
use Rattle.clr_mult.specs.Steps.{IsSmall}
use Rattle.clr_mult.specs.Tables.{mult_at}
use Rattle.clr_storedp.proofs.payment.added.Goals as goal

read : (a : ℤ) (cost : ℕ) → IsSmall 10000000000000000 a → cost ≤ 10000000000000 → to_z w64 (of_z w64 (to_z w64 (of_z w64 a) -ℤ to_z w64 cost)) ≡ a -ℤ pos cost
read a cost small le = omega (arith, ints)

sized : (a : ℤ) (cost : ℕ) → IsSmall 10000000000000000 a → cost ≤ 10000000000000 → IsWithin 1000000000000000000 (a -ℤ pos cost)
sized a cost small le = record { low = omega (arith, ints); high = omega (arith, ints) }

pub returns-clause-value : goal.returns-clause-value
returns-clause-value c =
    let small : IsSmall 10000000000000000 c.at.result = subst (IsSmall 10000000000000000) (sym c.at.ensures) (c.requires.small c.args.store (c.args.done + 1) c.args.rung (record { store_from = c.requires.place.first_store; store_to = subst (λ n. c.args.store ≤ n) (sym c.requires.mult.stores) c.requires.place.last_store; week_from = c.requires.place.first_week; week_to = subst (λ n. c.args.done + 1 ≤ n) (sym c.requires.mult.weeks) c.requires.place.last_week; rung_from = c.requires.place.first_rung; rung_to = subst (λ n. c.args.rung ≤ n) (sym c.requires.mult.rungs) c.requires.place.last_rung })) in
    read c.at.result c.relabelling.result small c.relabelling.ensures.range
    ∙ ap₂ (λ a k. a -ℤ pos k) (c.at.ensures ∙ ap (λ n. mult_at c.args.mult.now c.args.store n c.args.rung) (add-one c.args.done)) c.relabelling.ensures.value

pub returns-clause-size : goal.returns-clause-size
returns-clause-size c =
    let small : IsSmall 10000000000000000 c.at.result = subst (IsSmall 10000000000000000) (sym c.at.ensures) (c.requires.small c.args.store (c.args.done + 1) c.args.rung (record { store_from = c.requires.place.first_store; store_to = subst (λ n. c.args.store ≤ n) (sym c.requires.mult.stores) c.requires.place.last_store; week_from = c.requires.place.first_week; week_to = subst (λ n. c.args.done + 1 ≤ n) (sym c.requires.mult.weeks) c.requires.place.last_week; rung_from = c.requires.place.first_rung; rung_to = subst (λ n. c.args.rung ≤ n) (sym c.requires.mult.rungs) c.requires.place.last_rung })) in
    subst (IsWithin 1000000000000000000) (sym (read c.at.result c.relabelling.result small c.relabelling.ensures.range)) (sized c.at.result c.relabelling.result small c.relabelling.ensures.range)
