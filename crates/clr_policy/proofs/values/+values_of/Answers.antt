use Rattle.std.proofs.Common.{◌≡◌, ◌<◌, ◌+◌, ◌-◌, sym, ap, ◌∙◌, subst, length, arith, rules}
use Rattle.clr_average.proofs.Within.{within_more}
use Rattle.clr_model.specs.Revenue.{full_stocks}
use Rattle.clr_policy.specs.Written.{IsPolicyFor, object_count, written}
use Rattle.clr_policy.specs.Unrolled.{tree_value, unroll}
use Rattle.clr_policy.specs.StockLists.{AllWithin, AreValues, most_reach, reach_left}
use Rattle.clr_policy.proofs.Parts.{both_left, week_left}
use Rattle.clr_policy.proofs.PolicyWeeks.{reach_small, reach_week, week_valued, written_back}
use Rattle.clr_policy.proofs.Walks.{left_after}
use Rattle.clr_policy.proofs.values.+values_of.Goals as goal

pub overflow_add-done : goal.overflow_add-done
overflow_add-done g t c = record { fits = omega (arith, c.requires.early, c.requires.short) }

pub values_of-requires : goal.values_of-requires
values_of-requires g t c κs within =
    let week = week_left c.args.season.now (c.args.season.now.rules.weeks - c.args.done) c.in-Rung.rung (written c.in-Rung.then.value) (subst (λ p. IsPolicyFor c.args.season.now (c.args.season.now.rules.weeks - c.args.done) (written p)) c.in-Rung.is c.requires.policy) in (
      omega (arith, ap (λ p. object_count (written p)) c.deref.ensures, ap (λ p. object_count (written p)) c.in-Rung.is, c.decreases),
      (within, (c.requires.short, (omega (arith, week.1), ((week.2, week.3), (rw c.deref.ensures (left_after c.args.season.now c.args.done week.0 (written c.in-Rung.then.value) week.1 week.4), (c.requires.base, c.requires.lists)))))),
    )

pub weigh_week-requires-clause-week : goal.weigh_week-requires-clause-week
weigh_week-requires-clause-week g t c =
    let week = week_left c.args.season.now (c.args.season.now.rules.weeks - c.args.done) c.in-Rung.rung (written c.in-Rung.then.value) (subst (λ p. IsPolicyFor c.args.season.now (c.args.season.now.rules.weeks - c.args.done) (written p)) c.in-Rung.is c.requires.policy) in
    record { early = omega (arith, week.1); low_before = c.requires.before.0; high_before = c.requires.before.1; low = week.2; high = week.3 }

pub weigh_week-requires-clause-reach : goal.weigh_week-requires-clause-reach
weigh_week-requires-clause-reach g t c =
    subst (AllWithin most_reach) (sym c.deref_mut.ensures.value)
    (λ k lt. within_more (reach_left (c.args.season.now.rules.weeks - (c.args.done + 1))) most_reach _ (c.in_ok-values-in-Rung.ensures.reach k lt) (reach_small c.args.season.now.rules.weeks (c.args.done + 1) c.requires.short))

pub values_of-requires-in-Test : goal.values_of-requires-in-Test
values_of-requires-in-Test g t c κs within =
    let both = both_left c.args.season.now (c.args.season.now.rules.weeks - c.args.done) c.in-Test.store c.in-Test.limit (written c.in-Test.yes.value) (written c.in-Test.no.value) (subst (λ p. IsPolicyFor c.args.season.now (c.args.season.now.rules.weeks - c.args.done) (written p)) c.in-Test.is c.requires.policy) in (
      omega (arith, ap (λ p. object_count (written p)) c.deref-in-Test.ensures, ap (λ p. object_count (written p)) c.in-Test.is, c.decreases),
      (within, (c.requires.short, (c.requires.early, (c.requires.before, (rw c.deref-in-Test.ensures both.2, (c.requires.base, c.requires.lists)))))),
    )

pub values_of-requires-in-Test-2 : goal.values_of-requires-in-Test-2
values_of-requires-in-Test-2 g t c κs within =
    let both = both_left c.args.season.now (c.args.season.now.rules.weeks - c.args.done) c.in-Test.store c.in-Test.limit (written c.in-Test.yes.value) (written c.in-Test.no.value) (subst (λ p. IsPolicyFor c.args.season.now (c.args.season.now.rules.weeks - c.args.done) (written p)) c.in-Test.is c.requires.policy) in (
      omega (arith, ap (λ p. object_count (written p)) c.deref-in-Test-2.ensures, ap (λ p. object_count (written p)) c.in-Test.is, c.decreases),
      (within, (c.requires.short, (c.requires.early, (c.requires.before, (rw c.deref-in-Test-2.ensures both.3, (c.requires.base, c.requires.lists)))))),
    )

pub returns-in_ok-values-in-Rung-clause-values : goal.returns-in_ok-values-in-Rung-clause-values
returns-in_ok-values-in-Rung-clause-values g t c =
    let same : length c.weigh_week.new.values ≡ length c.in_ok-values-in-Rung.values.items = c.weigh_week.auto.values ∙ ap length c.deref_mut.ensures.value in
    let len : c.in_ok-values-in-Rung.values.len ≡ length c.in_ok-values-in-Rung.values.items = search rules in
    let later : AreValues (full_stocks c.args.season.now) (λ stocks. tree_value g.R.Direction.quotient c.args.season.now (c.args.done + 1) c.in-Rung.rung stocks (unroll (written c.in-Rung.then.value) stocks)) c.deref_mut.result.now
    = subst (λ p. AreValues (full_stocks c.args.season.now) (λ stocks. tree_value g.R.Direction.quotient c.args.season.now (c.args.done + 1) c.in-Rung.rung stocks (unroll (written p) stocks)) c.deref_mut.result.now) c.deref.ensures
    (subst (AreValues (full_stocks c.args.season.now) (λ stocks. tree_value g.R.Direction.quotient c.args.season.now (c.args.done + 1) c.in-Rung.rung stocks (unroll (written c.deref.result.now) stocks))) (sym c.deref_mut.ensures.value) c.in_ok-values-in-Rung.ensures.values) in
    let valued = week_valued g.R.Direction.quotient c.args.season.now c.args.done (c.args.done + 1) c.args.before c.in-Rung.rung (written c.in-Rung.then.value) c.deref_mut.result.now c.weigh_week.new.values (omega arith) later c.weigh_week.auto.values c.weigh_week.ensures.each in
    subst (AreValues (full_stocks c.args.season.now) (λ stocks. tree_value g.R.Direction.quotient c.args.season.now c.args.done c.args.before stocks (unroll (written c.args.policy.now) stocks))) (sym (written_back c.in_ok-values-in-Rung.values.items c.weigh_week.new.values c.in_ok-values-in-Rung.values.len same len))
    (subst (λ p. AreValues (full_stocks c.args.season.now) (λ stocks. tree_value g.R.Direction.quotient c.args.season.now c.args.done c.args.before stocks (unroll (written p) stocks)) c.weigh_week.new.values) (sym c.in-Rung.is) valued)

pub returns-in_ok-values-in-Rung-clause-reach : goal.returns-in_ok-values-in-Rung-clause-reach
returns-in_ok-values-in-Rung-clause-reach g t c =
    let same : length c.weigh_week.new.values ≡ length c.in_ok-values-in-Rung.values.items = c.weigh_week.auto.values ∙ ap length c.deref_mut.ensures.value in
    let len : c.in_ok-values-in-Rung.values.len ≡ length c.in_ok-values-in-Rung.values.items = search rules in
    let week = week_left c.args.season.now (c.args.season.now.rules.weeks - c.args.done) c.in-Rung.rung (written c.in-Rung.then.value) (subst (λ p. IsPolicyFor c.args.season.now (c.args.season.now.rules.weeks - c.args.done) (written p)) c.in-Rung.is c.requires.policy) in
    let early : c.args.done < c.args.season.now.rules.weeks = omega (arith, week.1) in
    let reach : AllWithin (reach_left (c.args.season.now.rules.weeks - (c.args.done + 1))) c.deref_mut.result.now = subst (AllWithin (reach_left (c.args.season.now.rules.weeks - (c.args.done + 1)))) (sym c.deref_mut.ensures.value) c.in_ok-values-in-Rung.ensures.reach in
    subst (AllWithin (reach_left (c.args.season.now.rules.weeks - c.args.done))) (sym (written_back c.in_ok-values-in-Rung.values.items c.weigh_week.new.values c.in_ok-values-in-Rung.values.len same len))
    (subst (λ n. AllWithin n c.weigh_week.new.values) (reach_week c.args.season.now.rules.weeks c.args.done early)
    (c.weigh_week.ensures.within (reach_left (c.args.season.now.rules.weeks - (c.args.done + 1))) (reach_small c.args.season.now.rules.weeks (c.args.done + 1) c.requires.short) reach))
