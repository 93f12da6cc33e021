use Rattle.std.proofs.Common.{rules, ◌≡◌, ℕ, suc, ◌<◌, ◌≤◌, ◌+◌, ◌-◌, ◌*◌, ◌/◌, ◌%◌, ℤ, pos, List, length, get_or, arith, ap, ap₂, sym, ◌∙◌, subst, add-one, mul-le-mul, mul-le-mul_right, SFits, to_z, of_z}
use Rattle.std.proofs.lemmas.Int.{to_z-of_z}
use mir.Syntax.{w128}
use Rattle.clr_rules.specs.Rules.{price}
use Rattle.clr_season.specs.Season.{store_at, weights_of}
use Rattle.clr_average.specs.Average.{IsWithin}
use Rattle.clr_model.specs.Revenue.{cent}
use Rattle.clr_joint.specs.Folds.{cell_sum, fold_item, fold_reach}
use Rattle.clr_joint.proofs.Folds.{fold_is, is_cell, item_within, pushed, pushed_size}
use Rattle.clr_joint.proofs.Limits.{power_most, reach_most}
use Rattle.clr_joint.proofs.fold.fold_store.Goals as goal

unit_is : (u p q : ℕ) → u ≡ 1000000 * p → p ≡ q → u ≡ cent * q
unfolding cent
unit_is u p q e f = e ∙ ap (λ n. 1000000 * n) f

pub overflow_mul-unit : goal.overflow_mul-unit
overflow_mul-unit c =
    let unit : c.from.result ≤ 10000000000000 = omega (arith, c.from.ensures, c.price.ensures.range) in
    let most : c.from.result * c.args.power ≤ 10000000000000 * 1000000000000000000 = mul-le-mul unit (subst (λ n. n ≤ 1000000000000000000) (sym c.requires.power) (power_most c.args.season.now c.stores.ensures.facts c.requires.fits c.args.folded (omega (arith, c.requires.folded)))) in
    record { fits = omega (arith, most) }

pub cell-requires-clause-sizes : goal.cell-requires-clause-sizes
cell-requires-clause-sizes c =
    let unit : c.from.result ≤ 10000000000000 = omega (arith, c.from.ensures, c.price.ensures.range) in
    let held : c.loop-place.place / c.args.stride % (c.stock.result + 1) ≤ 2000 = omega (arith, c.stock.ensures.range) in (
      c.args.season.now.base,
      fold_reach c.args.season.now.base c.args.folded,
      is_cell c.args.season.now.base c.args.folded c.args.power (c.from.result * c.args.power) (c.loop-place.place / c.args.stride % (c.stock.result + 1)) c.weights-weights.result.now c.args.items.now c.stores.ensures.facts.least_base c.weights-weights.ensures.whole c.requires.within c.requires.power
          (mul-le-mul_right c.args.power unit) held (reach_most c.args.season.now c.stores.ensures.facts c.requires.fits (suc c.args.folded) (omega (arith, c.requires.folded))),
    )

pub loop-place-preserved : goal.loop-place-preserved
loop-place-preserved c =
    let x : ℕ = c.loop-place.place / c.args.stride % (c.stock.result + 1) in
    let unit : c.from.result ≤ 10000000000000 = omega (arith, c.from.ensures, c.price.ensures.range) in
    let held : c.loop-place.place / c.args.stride % (c.stock.result + 1) ≤ 2000 = omega (arith, c.stock.ensures.range) in
    let fits : SFits w128 c.cell.result = search rules in
    let read : to_z w128 (of_z w128 c.cell.result) ≡ cell_sum c.weights-weights.result.now (c.from.result * c.args.power) c.args.items.now c.loop-place.place (c.loop-place.place / c.args.stride % (c.stock.result + 1)) c.args.stride (length c.weights-weights.result.now) = to_z-of_z w128 c.cell.result fits ∙ c.cell.ensures in
    let is = is_cell c.args.season.now.base c.args.folded c.args.power (c.from.result * c.args.power) (c.loop-place.place / c.args.stride % (c.stock.result + 1)) c.weights-weights.result.now c.args.items.now c.stores.ensures.facts.least_base c.weights-weights.ensures.whole c.requires.within c.requires.power
    (mul-le-mul_right c.args.power unit) held (reach_most c.args.season.now c.stores.ensures.facts c.requires.fits (suc c.args.folded) (omega (arith, c.requires.folded))) in
    let within : IsWithin (fold_reach c.args.season.now.base (c.args.folded + 1)) (to_z w128 (of_z w128 c.cell.result))
    = subst (λ n. IsWithin (fold_reach c.args.season.now.base n) (to_z w128 (of_z w128 c.cell.result))) (sym (add-one c.args.folded)) (subst (IsWithin (fold_reach c.args.season.now.base (suc c.args.folded))) (sym read)
    (item_within c.args.season.now.base c.args.folded c.args.power (c.from.result * c.args.power) (c.loop-place.place / c.args.stride % (c.stock.result + 1)) c.loop-place.place c.args.stride c.weights-weights.result.now c.args.items.now is c.loop-place-test.true c.requires.power (mul-le-mul_right c.args.power unit) held)) in
    let store : c.stores.result - c.args.folded ≡ length c.args.season.now.stores - c.args.folded = ap (λ n. n - c.args.folded) c.stores.ensures.value in
    let weights : c.weights-weights.result.now ≡ weights_of c.args.season.now (length c.args.season.now.stores - c.args.folded) (suc c.args.done) c.args.rung
    = c.weights-weights.ensures.value ∙ ap₂ (λ s w. weights_of c.args.season.now s w c.args.rung) store (add-one c.args.done) in
    let earns : c.from.result * c.args.power ≡ cent * price c.args.season.now.rules c.args.rung * c.args.power = ap (λ n. n * c.args.power) (unit_is c.from.result c.price.result (price c.args.season.now.rules c.args.rung) c.from.ensures c.price.ensures.value) in
    let stocks : c.stock.result + 1 ≡ suc (store_at c.args.season.now (length c.args.season.now.stores - c.args.folded)).units = add-one c.stock.result ∙ ap suc (c.stock.ensures.value ∙ ap (λ s. (store_at c.args.season.now s).units) store) in
    let each : to_z w128 (of_z w128 c.cell.result) ≡ fold_item c.args.season.now c.args.done c.args.rung (length c.args.season.now.stores - c.args.folded) c.args.stride c.args.power c.args.items.now c.loop-place.place
    = read ∙ fold_is c.args.season.now c.args.done c.args.rung (length c.args.season.now.stores - c.args.folded) c.args.stride c.args.power (c.from.result * c.args.power) c.loop-place.place (c.loop-place.place / c.args.stride % (c.stock.result + 1)) c.weights-weights.result.now c.args.items.now weights c.weights-weights.ensures.count earns (ap (λ n. c.loop-place.place / c.args.stride % n) stocks) in
    record {
      size = ap length c.in_ok-push.ensures.items ∙ pushed_size c.loop-place.now.items c.loop-place.place _ c.loop-place.invariant.size;
      within = λ k lt. subst (λ (items : List ℤ). IsWithin (fold_reach c.args.season.now.base (c.args.folded + 1)) (get_or items k (pos 0))) (sym c.in_ok-push.ensures.items)
          (pushed c.loop-place.now.items c.loop-place.place (to_z w128 (of_z w128 c.cell.result)) (pos 0) (λ _ z. IsWithin (fold_reach c.args.season.now.base (c.args.folded + 1)) z) c.loop-place.invariant.size c.loop-place.invariant.within within k lt);
      each = λ k lt. subst (λ (items : List ℤ). get_or items k (pos 0) ≡ fold_item c.args.season.now c.args.done c.args.rung (length c.args.season.now.stores - c.args.folded) c.args.stride c.args.power c.args.items.now k) (sym c.in_ok-push.ensures.items)
          (pushed c.loop-place.now.items c.loop-place.place (to_z w128 (of_z w128 c.cell.result)) (pos 0) (λ k z. z ≡ fold_item c.args.season.now c.args.done c.args.rung (length c.args.season.now.stores - c.args.folded) c.args.stride c.args.power c.args.items.now k) c.loop-place.invariant.size c.loop-place.invariant.each each k lt);
    }

pub returns-clause-within : goal.returns-clause-within
returns-clause-within c = λ k lt. c.loop-place.invariant.within k (subst (λ n. k < n) c.loop-place.invariant.size lt)
