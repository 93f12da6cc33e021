use Rattle.std.proofs.Common.{ℕ, pos, arith, subst, sym}
use Rattle.std.proofs.lemmas.Int.{ints}
use Rattle.clr_mult.specs.Steps.{IsSmall}
use Rattle.clr_mult.specs.Tables.{EachEntry, mult_at}
use Rattle.clr_mult.proofs.StepLemmas.{run_small}
use Rattle.clr_trials.proofs.multipliers.entries_after.Goals as goal

nothing : (most : ℕ) → IsSmall most (pos 0)
nothing most = record { low = omega (arith, ints); high = omega (arith, ints) }

pub step-requires-clause-small : goal.step-requires-clause-small
step-requires-clause-small c = λ store week rung within. subst (λ z. IsSmall 9000000000000000 z) (sym (c.in_ok-table.ensures.entries store week rung within)) (nothing 9000000000000000)

pub step-requires-2-clause-small : goal.step-requires-2-clause-small
step-requires-2-clause-small c =
    let none : EachEntry c.in_ok-table.table (λ store week rung. IsSmall 0 (mult_at c.in_ok-table.table store week rung))
    = λ store week rung within. subst (λ z. IsSmall 0 z) (sym (c.in_ok-table.ensures.entries store week rung within)) (nothing 0) in
    run_small c.args.q 0 9000000000000000 c.in_ok-usage.usage c.in_ok-table.table c.step.new.self c.in_ok-step.ensures.table none c.in_ok-step.ensures.near (omega (arith, c.requires.factor))
