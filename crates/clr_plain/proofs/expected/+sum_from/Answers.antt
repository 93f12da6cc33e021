use Rattle.std.proofs.Common.{◌≡◌, ◌<◌, ◌+◌, ◌-◌, pos, ◌+ℤ◌, ◌*ℤ◌, suc, length, take, set, ap, ap₂, sym, ◌∙◌, subst, arith, rules, to_z, of_z, SFits}
use Rattle.std.proofs.lemmas.Int.{to_z-of_z}
use mir.Syntax.{w64, w128}
use Rattle.clr_num.specs.Lists.{numbers}
use Rattle.clr_num.specs.Sums.{sum_over}
use Rattle.clr_plain.specs.Plain.{IsBounded, flat_chance, flat_part, sum_after}
use Rattle.clr_plain.proofs.Totals.{IsNext, all_at, begun_still, each_more, last_bound, last_value, mass_at, mass_small, next_bound, next_fits, next_is, next_value, part_at}
use Rattle.clr_plain.proofs.expected.+sum_from.Goals as goal

pub returns-then-place-asked-clause-value : goal.returns-then-place-asked-clause-value
returns-then-place-asked-clause-value t c =
    let fits : SFits w64 c.revenue.result = search rules in
    let wide : SFits w128 c.times.result = search rules in
    to_z-of_z w128 c.times.result wide
    ∙ last_value c.args.season.now c.args.path.now c.args.asked.now c.args.place c.chance.result c.revenue.result c.times.result c.if-place-asked.true c.chance.ensures (ap₂ ◌*ℤ◌ c.chance.ensures c.revenue.ensures.value) c.revenue.ensures.size
    (c.times.ensures ∙ ap (λ r. pos c.chance.result *ℤ r) (to_z-of_z w64 c.revenue.result fits))

pub returns-then-place-asked-clause-range : goal.returns-then-place-asked-clause-range
returns-then-place-asked-clause-range t c =
    let fits : SFits w64 c.revenue.result = search rules in
    let wide : SFits w128 c.times.result = search rules in
    subst (IsBounded (sum_after c.args.season.now (flat_chance c.args.season.now c.args.path.now) (length c.args.asked.now - c.args.place) (take c.args.place c.args.asked.now))) (sym (to_z-of_z w128 c.times.result wide))
    (last_bound c.args.season.now c.args.path.now c.args.asked.now c.args.place c.chance.result c.revenue.result c.times.result c.if-place-asked.true c.chance.ensures (ap₂ ◌*ℤ◌ c.chance.ensures c.revenue.ensures.value) c.revenue.ensures.size
    (c.times.ensures ∙ ap (λ r. pos c.chance.result *ℤ r) (to_z-of_z w64 c.revenue.result fits)))

pub sum_from-total-requires : goal.sum_from-total-requires
sum_from-total-requires t c =
    let inside : c.args.place < length c.args.asked.now = omega (arith, c.requires.place, c.if-place-asked.false) in
    let is : IsNext c.args.season.now c.args.asked.now c.args.place (set c.loop-demand.asked c.args.place c.loop-demand.demand) c.loop-demand.demand
    = next_is c.args.season.now c.args.asked.now c.loop-demand.asked c.args.place c.loop-demand.demand inside c.loop-demand.invariant.size c.loop-demand.invariant.begun (omega (arith, c.loop-demand-test.true, c.top-demand-end.ensures.value)) in (
      omega (arith, c.decreases, is.size, inside),
      (
        c.requires.path,
        (
          is.size ∙ c.requires.size,
          (
            omega (arith, inside, is.size),
            (
              each_more c.args.season.now c.args.path.now c.args.asked.now c.args.place inside (set c.loop-demand.asked c.args.place c.loop-demand.demand) c.loop-demand.demand is c.requires.demands,
              (c.requires.small, mass_small c.args.season.now c.args.path.now c.args.asked.now c.args.place inside (set c.loop-demand.asked c.args.place c.loop-demand.demand) c.loop-demand.demand is c.requires.mass),
            ),
          ),
        ),
      ),
    )

pub overflow_add-total : goal.overflow_add-total
overflow_add-total t c =
    let inside : c.args.place < length c.args.asked.now = omega (arith, c.requires.place, c.if-place-asked.false) in
    let is : IsNext c.args.season.now c.args.asked.now c.args.place (set c.loop-demand.asked c.args.place c.loop-demand.demand) c.loop-demand.demand
    = next_is c.args.season.now c.args.asked.now c.loop-demand.asked c.args.place c.loop-demand.demand inside c.loop-demand.invariant.size c.loop-demand.invariant.begun (omega (arith, c.loop-demand-test.true, c.top-demand-end.ensures.value)) in
    let fits : SFits w128 c.sum_from-total.result = search rules in
    subst (λ r. SFits w128 (to_z w128 c.loop-demand.total-bits +ℤ r)) (sym (to_z-of_z w128 c.sum_from-total.result fits)) (next_fits c.args.season.now c.args.path.now c.args.asked.now c.args.place inside (set c.loop-demand.asked c.args.place c.loop-demand.demand) c.loop-demand.demand is (to_z w128 c.loop-demand.total-bits) c.sum_from-total.result c.requires.mass c.loop-demand.invariant.value c.loop-demand.invariant.range c.sum_from-total.ensures.value c.sum_from-total.ensures.range)

pub loop-demand-preserved : goal.loop-demand-preserved
loop-demand-preserved t c =
    let inside : c.args.place < length c.args.asked.now = omega (arith, c.requires.place, c.if-place-asked.false) in
    let is : IsNext c.args.season.now c.args.asked.now c.args.place (set c.loop-demand.asked c.args.place c.loop-demand.demand) c.loop-demand.demand
    = next_is c.args.season.now c.args.asked.now c.loop-demand.asked c.args.place c.loop-demand.demand inside c.loop-demand.invariant.size c.loop-demand.invariant.begun (omega (arith, c.loop-demand-test.true, c.top-demand-end.ensures.value)) in
    let fits : SFits w128 c.sum_from-total.result = search rules in
    let both : SFits w128 (to_z w128 c.loop-demand.total-bits +ℤ c.sum_from-total.result) = next_fits c.args.season.now c.args.path.now c.args.asked.now c.args.place inside (set c.loop-demand.asked c.args.place c.loop-demand.demand) c.loop-demand.demand is (to_z w128 c.loop-demand.total-bits) c.sum_from-total.result c.requires.mass c.loop-demand.invariant.value c.loop-demand.invariant.range c.sum_from-total.ensures.value c.sum_from-total.ensures.range in
    let read : to_z w128 (of_z w128 (to_z w128 c.loop-demand.total-bits +ℤ to_z w128 (of_z w128 c.sum_from-total.result))) ≡ to_z w128 c.loop-demand.total-bits +ℤ c.sum_from-total.result
    = ap (λ r. to_z w128 (of_z w128 (to_z w128 c.loop-demand.total-bits +ℤ r))) (to_z-of_z w128 c.sum_from-total.result fits) ∙ to_z-of_z w128 (to_z w128 c.loop-demand.total-bits +ℤ c.sum_from-total.result) both in
    record {
      begun = begun_still c.args.asked.now (set c.loop-demand.asked c.args.place c.loop-demand.demand) c.sum_from-total.new.asked c.args.place c.loop-demand.demand inside is.begun c.sum_from-total.ensures.begun;
      size = c.sum_from-total.ensures.size ∙ is.size;
      value = read ∙ next_value c.args.season.now c.args.path.now c.args.asked.now c.args.place inside (set c.loop-demand.asked c.args.place c.loop-demand.demand) c.loop-demand.demand is (to_z w128 c.loop-demand.total-bits) c.sum_from-total.result c.requires.mass c.loop-demand.invariant.value c.loop-demand.invariant.range c.sum_from-total.ensures.value c.sum_from-total.ensures.range;
      range = subst (IsBounded (sum_over (numbers 0 (c.loop-demand.demand + 1)) (mass_at c.args.season.now c.args.path.now c.args.asked.now c.args.place inside))) (sym read) (next_bound c.args.season.now c.args.path.now c.args.asked.now c.args.place inside (set c.loop-demand.asked c.args.place c.loop-demand.demand) c.loop-demand.demand is (to_z w128 c.loop-demand.total-bits) c.sum_from-total.result c.requires.mass c.loop-demand.invariant.value c.loop-demand.invariant.range c.sum_from-total.ensures.value c.sum_from-total.ensures.range);
    }

pub returns-clause-value : goal.returns-clause-value
returns-clause-value t c =
    let inside : c.args.place < length c.args.asked.now = omega (arith, c.requires.place, c.if-place-asked.false) in
    let all : c.loop-demand.demand ≡ suc c.args.season.now.top = omega (arith, c.loop-demand-test.false, c.loop-demand.auto.demand-end, c.top-demand-end.ensures.value) in
    c.loop-demand.invariant.value ∙ (ap (λ n. sum_over (numbers 0 n) (part_at c.args.season.now c.args.path.now c.args.asked.now c.args.place inside)) all ∙ all_at c.args.season.now c.args.path.now c.args.asked.now c.args.place inside (flat_part c.args.season.now c.args.path.now))

pub returns-clause-range : goal.returns-clause-range
returns-clause-range t c =
    let inside : c.args.place < length c.args.asked.now = omega (arith, c.requires.place, c.if-place-asked.false) in
    let all : c.loop-demand.demand ≡ suc c.args.season.now.top = omega (arith, c.loop-demand-test.false, c.loop-demand.auto.demand-end, c.top-demand-end.ensures.value) in
    subst (λ m. IsBounded m (to_z w128 c.loop-demand.total-bits)) (ap (λ n. sum_over (numbers 0 n) (mass_at c.args.season.now c.args.path.now c.args.asked.now c.args.place inside)) all ∙ all_at c.args.season.now c.args.path.now c.args.asked.now c.args.place inside (flat_chance c.args.season.now c.args.path.now)) c.loop-demand.invariant.range
