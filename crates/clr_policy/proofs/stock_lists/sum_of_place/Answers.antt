use Rattle.std.proofs.Common.{◌≡◌, ◌-◌, ◌+◌, suc, pos, ◌+ℤ◌, ◌*ℤ◌, min, length, sym, ap, ◌∙◌, subst, rules, arith, get_or, sum, drop}
use Rattle.std.proofs.lemmas.Int.{to_z-of_z}
use mir.Syntax.{w128}
use Rattle.clr_average.specs.Average.{IsWithin}
use Rattle.clr_policy.specs.StockLists.{most_total, sum_below, stock_sum, part}
use Rattle.clr_policy.proofs.StockSums.{below_more, below_total, in_128, part_total, rest_light, sum_splits, weighed_total, weight_light, sum_total}
use Rattle.clr_policy.proofs.stock_lists.sum_of_place.Goals as goal

pub plus_demand-total-requires-clause-value : goal.plus_demand-total-requires-clause-value
plus_demand-total-requires-clause-value c =
    part_total c.args.weights.now c.args.unit c.args.cost c.args.values.now c.args.width c.args.stock c.args.place c.requires.small.0 c.requires.small.1 c.requires.small.2 c.loop-demand.demand
    (omega (arith, c.loop-demand-test.true, c.min-count.ensures))

pub plus_demand-total-requires-clause-product : goal.plus_demand-total-requires-clause-product
plus_demand-total-requires-clause-product c =
    weighed_total c.args.weights.now c.args.unit c.args.cost c.args.values.now c.args.width c.args.stock c.args.place c.requires.small.0 c.requires.small.1 c.requires.small.2 (get_or c.args.weights.now c.loop-demand.demand 0) c.loop-demand.demand
    (weight_light c.args.weights.now c.args.unit c.args.cost c.args.values.now c.args.width c.args.stock c.args.place c.requires.small.0 c.requires.small.1 c.requires.small.2 c.loop-demand.demand (omega (arith, c.loop-demand-test.true, c.min-count.ensures, c.requires.small.2.some)))
    (omega (arith, c.loop-demand-test.true, c.min-count.ensures))

pub plus_demand-total-requires-clause-sum : goal.plus_demand-total-requires-clause-sum
plus_demand-total-requires-clause-sum c =
    subst (λ t. IsWithin most_total t)
    (below_more c.args.weights.now c.args.unit c.args.cost c.args.values.now c.args.width c.args.stock c.args.place c.loop-demand.demand ∙ ap (λ t. t +ℤ pos (get_or c.args.weights.now c.loop-demand.demand 0) *ℤ part c.args.values.now c.args.unit c.args.cost c.args.width c.args.stock c.args.place c.loop-demand.demand) (sym c.loop-demand.invariant))
    (below_total c.args.weights.now c.args.unit c.args.cost c.args.values.now c.args.width c.args.stock c.args.place c.requires.small.0 c.requires.small.1 c.requires.small.2 (suc c.loop-demand.demand)
    (omega (arith, c.loop-demand-test.true, c.min-count.ensures)) (omega (arith, c.loop-demand-test.true, c.min-count.ensures, c.requires.small.2.some)))

pub loop-demand-preserved : goal.loop-demand-preserved
loop-demand-preserved c =
    let one : suc c.loop-demand.demand ≡ c.loop-demand.demand + 1 = omega arith in
    let sum_is : sum_below c.args.weights.now c.args.unit c.args.cost c.args.values.now c.args.width c.args.stock c.args.place (suc c.loop-demand.demand) ≡ c.plus_demand-total.result
    = below_more c.args.weights.now c.args.unit c.args.cost c.args.values.now c.args.width c.args.stock c.args.place c.loop-demand.demand
    ∙ (ap (λ t. t +ℤ pos (get_or c.args.weights.now c.loop-demand.demand 0) *ℤ part c.args.values.now c.args.unit c.args.cost c.args.width c.args.stock c.args.place c.loop-demand.demand) (sym c.loop-demand.invariant) ∙ sym c.plus_demand-total.ensures) in
    let within : IsWithin most_total c.plus_demand-total.result = subst (λ t. IsWithin most_total t) sum_is
    (below_total c.args.weights.now c.args.unit c.args.cost c.args.values.now c.args.width c.args.stock c.args.place c.requires.small.0 c.requires.small.1 c.requires.small.2 (suc c.loop-demand.demand)
    (omega (arith, c.loop-demand-test.true, c.min-count.ensures)) (omega (arith, c.loop-demand-test.true, c.min-count.ensures, c.requires.small.2.some))) in
    to_z-of_z w128 c.plus_demand-total.result (in_128 _ within) ∙ (sym sum_is ∙ ap (sum_below c.args.weights.now c.args.unit c.args.cost c.args.values.now c.args.width c.args.stock c.args.place) one)

pub plus_demand-requires-clause-value : goal.plus_demand-requires-clause-value
plus_demand-requires-clause-value c =
    part_total c.args.weights.now c.args.unit c.args.cost c.args.values.now c.args.width c.args.stock c.args.place c.requires.small.0 c.requires.small.1 c.requires.small.2 c.min-count.result
    (omega (arith, c.min-count.ensures))

pub plus_demand-requires-clause-product : goal.plus_demand-requires-clause-product
plus_demand-requires-clause-product c =
    weighed_total c.args.weights.now c.args.unit c.args.cost c.args.values.now c.args.width c.args.stock c.args.place c.requires.small.0 c.requires.small.1 c.requires.small.2 c.args.tail c.min-count.result
    (rw c.requires.tail (rest_light c.args.weights.now c.args.unit c.args.cost c.args.values.now c.args.width c.args.stock c.args.place c.requires.small.0 c.requires.small.1 c.requires.small.2 (min c.args.stock (length c.args.weights.now - 1)) (omega arith)))
    (omega (arith, c.min-count.ensures))

pub plus_demand-requires-clause-sum : goal.plus_demand-requires-clause-sum
plus_demand-requires-clause-sum c =
    let ended : c.loop-demand.demand ≡ c.min-count.result = search rules in
    let tail : sum (drop c.min-count.result c.args.weights.now) ≡ c.args.tail = ap (λ k. sum (drop k c.args.weights.now)) c.min-count.ensures ∙ sym c.requires.tail in
    subst (λ t. IsWithin most_total t)
    (sum_splits c.args.weights.now c.args.unit c.args.cost c.args.values.now c.args.width c.args.stock c.args.place c.requires.small.2.some c.min-count.result c.min-count.ensures
    ∙ (ap (λ t. sum_below c.args.weights.now c.args.unit c.args.cost c.args.values.now c.args.width c.args.stock c.args.place c.min-count.result +ℤ pos t *ℤ part c.args.values.now c.args.unit c.args.cost c.args.width c.args.stock c.args.place c.min-count.result) tail
    ∙ ap (λ t. t +ℤ pos c.args.tail *ℤ part c.args.values.now c.args.unit c.args.cost c.args.width c.args.stock c.args.place c.min-count.result) (ap (sum_below c.args.weights.now c.args.unit c.args.cost c.args.values.now c.args.width c.args.stock c.args.place) (sym ended) ∙ sym c.loop-demand.invariant)))
    (sum_total c.args.weights.now c.args.unit c.args.cost c.args.values.now c.args.width c.args.stock c.args.place c.requires.small.0 c.requires.small.1 c.requires.small.2 c.requires.sold)

pub returns : goal.returns
returns c =
    let ended : c.loop-demand.demand ≡ c.min-count.result = search rules in
    let tail : sum (drop c.min-count.result c.args.weights.now) ≡ c.args.tail = ap (λ k. sum (drop k c.args.weights.now)) c.min-count.ensures ∙ sym c.requires.tail in
    let is : stock_sum c.args.weights.now c.args.unit c.args.cost c.args.values.now c.args.width c.args.stock c.args.place ≡ c.plus_demand.result =
    sum_splits c.args.weights.now c.args.unit c.args.cost c.args.values.now c.args.width c.args.stock c.args.place c.requires.small.2.some c.min-count.result c.min-count.ensures
    ∙ (ap (λ t. sum_below c.args.weights.now c.args.unit c.args.cost c.args.values.now c.args.width c.args.stock c.args.place c.min-count.result +ℤ pos t *ℤ part c.args.values.now c.args.unit c.args.cost c.args.width c.args.stock c.args.place c.min-count.result) tail
    ∙ (ap (λ t. t +ℤ pos c.args.tail *ℤ part c.args.values.now c.args.unit c.args.cost c.args.width c.args.stock c.args.place c.min-count.result) (ap (sum_below c.args.weights.now c.args.unit c.args.cost c.args.values.now c.args.width c.args.stock c.args.place) (sym ended) ∙ sym c.loop-demand.invariant)
    ∙ sym c.plus_demand.ensures)) in
    to_z-of_z w128 c.plus_demand.result
    (in_128 _ (subst (λ t. IsWithin most_total t) is (sum_total c.args.weights.now c.args.unit c.args.cost c.args.values.now c.args.width c.args.stock c.args.place c.requires.small.0 c.requires.small.1 c.requires.small.2 c.requires.sold)))
    ∙ sym is
