use Rattle.std.proofs.Common.{◌≡◌, ℕ, ◌<◌, ℤ, pos, ◌+ℤ◌, int_lt, cond, length, get_or, arith, sym, ap, ap₂, ◌∙◌, subst, SFits, to_z, of_z, rules}
use Rattle.std.proofs.lemmas.Int.{to_z-of_z}
use mir.Syntax.{w64}
use Rattle.clr_average.specs.Average.{IsWithin}
use Rattle.clr_average.proofs.Within.{within_64, within_sum}
use Rattle.clr_rows.proofs.Lists.{set_ahead, set_more}
use Rattle.clr_rows.proofs.best.raise_row.Goals as goal

pub loop-stock-preserved : goal.loop-stock-preserved
loop-stock-preserved c =
    let x : ℕ = c.loop-stock.stock in
    let more : ℤ = to_z w64 (of_z w64 c.args.more) in
    let inside : c.loop-stock.stock < length c.args.values.now = omega (arith, c.loop-stock.auto.values, c.loop-stock-test.true) in
    let seen : c.loop-stock.stock < length c.args.averages.now = omega (arith, c.requires.same, inside) in
    let more_is : to_z w64 (of_z w64 c.args.more) ≡ c.args.more = to_z-of_z w64 c.args.more (record { sfits = c.ranges.more.sfits }) in
    let average_fits : SFits w64 (get_or c.args.averages.now c.loop-stock.stock (pos 0)) = within_64 _ 2000000000000000000 (omega arith) (c.requires.small c.loop-stock.stock seen) in
    let sum_within : IsWithin 3000000000000000000 (get_or c.args.averages.now c.loop-stock.stock (pos 0) +ℤ to_z w64 (of_z w64 c.args.more)) =
    within_sum 2000000000000000000 1000000000000000000 _ _ (c.requires.small c.loop-stock.stock seen) (subst (IsWithin 1000000000000000000) (sym more_is) c.requires.more) in
    let other : to_z w64 (of_z w64 (to_z w64 (of_z w64 (get_or c.args.averages.now c.loop-stock.stock (pos 0))) +ℤ to_z w64 (of_z w64 c.args.more))) ≡ get_or c.args.averages.now c.loop-stock.stock (pos 0) +ℤ to_z w64 (of_z w64 c.args.more)
    = ap (λ t. to_z w64 (of_z w64 (t +ℤ to_z w64 (of_z w64 c.args.more)))) (to_z-of_z w64 _ average_fits) ∙ to_z-of_z w64 _ (within_64 _ 3000000000000000000 (omega arith) sum_within) in
    let value_fits : SFits w64 (get_or c.loop-stock.values c.loop-stock.stock (pos 0)) = search rules in
    let before : to_z w64 (of_z w64 (get_or c.loop-stock.values c.loop-stock.stock (pos 0))) ≡ get_or c.args.values.now c.loop-stock.stock (pos 0) = to_z-of_z w64 _ value_fits ∙ c.loop-stock.invariant.ahead_values c.loop-stock.stock (omega arith) in
    let result_fits : SFits w64 c.better-value.result.0 = search rules in
    let value_is : to_z w64 (of_z w64 c.better-value.result.0) ≡ cond (int_lt (get_or c.args.values.now c.loop-stock.stock (pos 0)) (get_or c.args.averages.now c.loop-stock.stock (pos 0) +ℤ to_z w64 (of_z w64 c.args.more))) (get_or c.args.averages.now c.loop-stock.stock (pos 0) +ℤ to_z w64 (of_z w64 c.args.more)) (get_or c.args.values.now c.loop-stock.stock (pos 0))
    = to_z-of_z w64 _ result_fits ∙ (c.better-value.ensures.value ∙ ap₂ (λ o v. cond (int_lt v o) o v) other before) in
    let choice_is : c.better-value.result.1 ≡ cond (int_lt (get_or c.args.values.now c.loop-stock.stock (pos 0)) (get_or c.args.averages.now c.loop-stock.stock (pos 0) +ℤ to_z w64 (of_z w64 c.args.more))) c.args.rung (get_or c.args.choices.now c.loop-stock.stock 0)
    = c.better-value.ensures.choice ∙ (ap₂ (λ o v. cond (int_lt v o) c.args.rung (get_or c.loop-stock.choices c.loop-stock.stock 0)) other before
    ∙ ap (λ k. cond (int_lt (get_or c.args.values.now c.loop-stock.stock (pos 0)) (get_or c.args.averages.now c.loop-stock.stock (pos 0) +ℤ to_z w64 (of_z w64 c.args.more))) c.args.rung k) (c.loop-stock.invariant.ahead_choices c.loop-stock.stock (omega arith))) in
    record {
      values = set_more c.loop-stock.values c.loop-stock.stock _ (pos 0) (λ k. cond (int_lt (get_or c.args.values.now k (pos 0)) (get_or c.args.averages.now k (pos 0) +ℤ to_z w64 (of_z w64 c.args.more))) (get_or c.args.averages.now k (pos 0) +ℤ to_z w64 (of_z w64 c.args.more)) (get_or c.args.values.now k (pos 0)))
          (omega (arith, c.loop-stock.auto.values, inside)) value_is c.loop-stock.invariant.values;
      choices = set_more c.loop-stock.choices c.loop-stock.stock _ 0 (λ k. cond (int_lt (get_or c.args.values.now k (pos 0)) (get_or c.args.averages.now k (pos 0) +ℤ to_z w64 (of_z w64 c.args.more))) c.args.rung (get_or c.args.choices.now k 0))
          (omega (arith, c.loop-stock.auto.choices, c.requires.also, inside)) choice_is c.loop-stock.invariant.choices;
      ahead_values = set_ahead c.loop-stock.values c.args.values.now c.loop-stock.stock _ (pos 0) c.loop-stock.invariant.ahead_values;
      ahead_choices = set_ahead c.loop-stock.choices c.args.choices.now c.loop-stock.stock _ 0 c.loop-stock.invariant.ahead_choices;
    }
