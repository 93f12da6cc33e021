use Rattle.std.proofs.Common.{arith, ◌≡◌, ◌∙◌, ◌+ℤ◌, ◌*ℤ◌, ap, sym, subst, pos, ◌*◌, ◌+◌, ◌≤◌, get_or, suc, to_z, of_z, w64, add-one}
use mir.Syntax.{w128}
use Rattle.clr_season.specs.Season.{weights_of}
use Rattle.clr_average.specs.Average.{IsWithin}
use Rattle.clr_average.proofs.Within.{within_more, within_sum}
use Rattle.clr_num.specs.Lists.{numbers}
use Rattle.clr_num.specs.Sums.{sum_over}
use Rattle.clr_check.specs.Weeks.{kept_value}
use Rattle.clr_check.proofs.Sides.{few_within, part_within, read_128, read_64, sum_more, total_within, weight_small}
use Rattle.clr_check.proofs.week.week_sum.Goals as goal

pub plus-total-requires-clause-product : goal.plus-total-requires-clause-product
plus-total-requires-clause-product c =
    let same : to_z w64 (of_z w64 c.kept-value.result) ≡ c.kept-value.result = read_64 c.kept-value.result 2000000000000000000 c.kept-value.ensures.size (omega arith) in
    let small = weight_small c.weights-weights.result.now c.loop-demand.demand _ c.loop-demand-test.true c.weights-weights.ensures.whole c.weeks.ensures.facts.most_base in
    within_more 2000000000000000000000000 170141183460469231731687303715884105727 _ (subst (λ v. IsWithin 2000000000000000000000000 (pos (get_or c.weights-weights.result.now c.loop-demand.demand 0) *ℤ v)) (sym same) (part_within _ c.kept-value.result small c.kept-value.ensures.size)) (omega arith)

pub plus-total-requires-clause-sum : goal.plus-total-requires-clause-sum
plus-total-requires-clause-sum c =
    let same : to_z w64 (of_z w64 c.kept-value.result) ≡ c.kept-value.result = read_64 c.kept-value.result 2000000000000000000 c.kept-value.ensures.size (omega arith) in
    let small = weight_small c.weights-weights.result.now c.loop-demand.demand _ c.loop-demand-test.true c.weights-weights.ensures.whole c.weeks.ensures.facts.most_base in
    let product : IsWithin 2000000000000000000000000 (pos (get_or c.weights-weights.result.now c.loop-demand.demand 0) *ℤ to_z w64 (of_z w64 c.kept-value.result)) = subst (λ v. IsWithin 2000000000000000000000000 (pos (get_or c.weights-weights.result.now c.loop-demand.demand 0) *ℤ v)) (sym same) (part_within _ c.kept-value.result small c.kept-value.ensures.size) in
    within_more 2000000000000000000000000000 170141183460469231731687303715884105727 _ (within_more _ 2000000000000000000000000000 _ (within_sum 1000000000000000000000000000 2000000000000000000000000 _ _ (few_within c.loop-demand.demand _ (let n = c.weights-weights.ensures.count in let t = c.weeks.ensures.facts.most_demand in omega (arith, n, t, c.loop-demand-test.true)) c.loop-demand.invariant.size) product) (omega arith)) (omega arith)

pub loop-demand-preserved : goal.loop-demand-preserved
loop-demand-preserved c =
    let same : to_z w64 (of_z w64 c.kept-value.result) ≡ c.kept-value.result = read_64 c.kept-value.result 2000000000000000000 c.kept-value.ensures.size (omega arith) in
    let small = weight_small c.weights-weights.result.now c.loop-demand.demand _ c.loop-demand-test.true c.weights-weights.ensures.whole c.weeks.ensures.facts.most_base in
    let product : IsWithin 2000000000000000000000000 (pos (get_or c.weights-weights.result.now c.loop-demand.demand 0) *ℤ c.kept-value.result) = part_within _ c.kept-value.result small c.kept-value.ensures.size in
    let is : c.plus-total.result ≡ (to_z w128 c.loop-demand.total-bits +ℤ pos (get_or c.weights-weights.result.now c.loop-demand.demand 0) *ℤ c.kept-value.result) = c.plus-total.ensures ∙ ap (λ v. to_z w128 c.loop-demand.total-bits +ℤ pos (get_or c.weights-weights.result.now c.loop-demand.demand 0) *ℤ v) same in
    let size : IsWithin ((c.loop-demand.demand + 1) * 2000000000000000000000000) c.plus-total.result = subst (λ v. IsWithin ((c.loop-demand.demand + 1) * 2000000000000000000000000) v) (sym is) (total_within c.loop-demand.demand _ _ c.loop-demand.invariant.size product) in
    let few : c.loop-demand.demand + 1 ≤ 201 = (let n = c.weights-weights.ensures.count in let t = c.weeks.ensures.facts.most_demand in omega (arith, n, t, c.loop-demand-test.true)) in
    let read : to_z w128 (of_z w128 c.plus-total.result) ≡ c.plus-total.result = read_128 c.plus-total.result 1000000000000000000000000000 (few_within (c.loop-demand.demand + 1) c.plus-total.result few size) (omega arith) in
    record {
      sum = sum_more (λ demand. pos (get_or c.weights-weights.result.now demand 0) *ℤ kept_value c.args.season.now c.args.store c.args.before c.args.rung c.args.stock c.args.after.now demand) c.loop-demand.demand (to_z w128 c.loop-demand.total-bits) c.kept-value.result _ _ c.loop-demand.invariant.sum (read ∙ is) (ap (λ v. pos (get_or c.weights-weights.result.now c.loop-demand.demand 0) *ℤ v) (sym c.kept-value.ensures.value));
      size = subst (λ v. IsWithin ((c.loop-demand.demand + 1) * 2000000000000000000000000) v) (sym read) size;
    }

pub returns-clause-value : goal.returns-clause-value
returns-clause-value c =
    let season = c.args.season.now in
    let at : c.loop-demand.demand ≡ suc season.top = (let n = c.weights-weights.ensures.count in omega (arith, n, c.loop-demand.auto.demand-end, c.loop-demand-test.false)) in
    c.loop-demand.invariant.sum
    ∙ (ap (λ n. sum_over (numbers 0 n) (λ demand. pos (get_or c.weights-weights.result.now demand 0) *ℤ kept_value season c.args.store c.args.before c.args.rung c.args.stock c.args.after.now demand)) at
    ∙ (ap (λ ws. sum_over (numbers 0 (suc season.top)) (λ demand. pos (get_or ws demand 0) *ℤ kept_value season c.args.store c.args.before c.args.rung c.args.stock c.args.after.now demand)) c.weights-weights.ensures.value
    ∙ ap (λ n. sum_over (numbers 0 (suc season.top)) (λ demand. pos (get_or (weights_of season c.args.store n c.args.rung) demand 0) *ℤ kept_value season c.args.store c.args.before c.args.rung c.args.stock c.args.after.now demand)) (add-one c.args.done)))

pub returns-clause-size : goal.returns-clause-size
returns-clause-size c = few_within c.loop-demand.demand _ (let n = c.weights-weights.ensures.count in let t = c.weeks.ensures.facts.most_demand in omega (arith, n, t, c.loop-demand.auto.demand-end)) c.loop-demand.invariant.size
