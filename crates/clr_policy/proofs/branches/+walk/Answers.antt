use Rattle.std.proofs.Common.{◌+◌, ◌-◌, rules, arith, sym, ap, subst, length, ◌∷◌, [], ◌++◌, Ok, Err}
use Rattle.clr_rules.specs.Rules.{HasSummary}
use Rattle.clr_policy.specs.Written.{IsPolicyFor, object_count, branches, written}
use Rattle.clr_policy.specs.Breaches.{Finds, behind}
use Rattle.clr_policy.proofs.Parts.{week_left, both_left}
use Rattle.clr_policy.proofs.Walks.{ends, goes_on, breaks, first_of_two, second_of_two, left_after, ended_is}
use Rattle.clr_policy.proofs.branches.+walk.Goals as goal

pub week_after-requires-clause-early : goal.week_after-requires-clause-early
week_after-requires-clause-early t c =
    let week = week_left c.args.season.now (c.args.season.now.rules.weeks - c.args.done) c.in-Rung.rung (written c.in-Rung.then.value) (subst (λ p. IsPolicyFor c.args.season.now (c.args.season.now.rules.weeks - c.args.done) (written p)) c.in-Rung.is c.requires.policy) in
    omega (arith, week.1)

pub week_after-requires-clause-low : goal.week_after-requires-clause-low
week_after-requires-clause-low t c =
    (week_left c.args.season.now (c.args.season.now.rules.weeks - c.args.done) c.in-Rung.rung (written c.in-Rung.then.value) (subst (λ p. IsPolicyFor c.args.season.now (c.args.season.now.rules.weeks - c.args.done) (written p)) c.in-Rung.is c.requires.policy)).2

pub week_after-requires-clause-high : goal.week_after-requires-clause-high
week_after-requires-clause-high t c =
    (week_left c.args.season.now (c.args.season.now.rules.weeks - c.args.done) c.in-Rung.rung (written c.in-Rung.then.value) (subst (λ p. IsPolicyFor c.args.season.now (c.args.season.now.rules.weeks - c.args.done) (written p)) c.in-Rung.is c.requires.policy)).3

pub overflow_add-done : goal.overflow_add-done
overflow_add-done t c =
    record { fits = omega (arith, c.week_after.ensures.short) }

pub walk-requires : goal.walk-requires
walk-requires t c =
    let week = week_left c.args.season.now (c.args.season.now.rules.weeks - c.args.done) c.in-Rung.rung (written c.in-Rung.then.value) (subst (λ p. IsPolicyFor c.args.season.now (c.args.season.now.rules.weeks - c.args.done) (written p)) c.in-Rung.is c.requires.policy) in
    (omega (arith, ap (λ p. object_count (written p)) c.deref.ensures, ap (λ p. object_count (written p)) c.in-Rung.is, c.decreases), (omega (arith, week.1), (rw c.deref.ensures (left_after c.args.season.now c.args.done week.0 (written c.in-Rung.then.value) week.1 week.4), (c.requires.prefix.0 ++ c.in-Rung.rung ∷ [], subst (λ n. HasSummary c.args.season.now.rules n c.in-Ok.after (c.requires.prefix.0 ++ c.in-Rung.rung ∷ [])) (omega arith) (c.in-Ok.ensures.goes c.requires.prefix.0 c.requires.prefix.1)))))

pub walk-requires-in-Test : goal.walk-requires-in-Test
walk-requires-in-Test t c =
    let both = both_left c.args.season.now (c.args.season.now.rules.weeks - c.args.done) c.in-Test.store c.in-Test.limit (written c.in-Test.yes.value) (written c.in-Test.no.value) (subst (λ p. IsPolicyFor c.args.season.now (c.args.season.now.rules.weeks - c.args.done) (written p)) c.in-Test.is c.requires.policy) in
    (omega (arith, ap (λ p. object_count (written p)) c.deref-in-Test.ensures, ap (λ p. object_count (written p)) c.in-Test.is, c.decreases), (c.requires.early, (rw c.deref-in-Test.ensures both.2, c.requires.prefix)))

pub walk-requires-in-Ok-walk : goal.walk-requires-in-Ok-walk
walk-requires-in-Ok-walk t c =
    let both = both_left c.args.season.now (c.args.season.now.rules.weeks - c.args.done) c.in-Test.store c.in-Test.limit (written c.in-Test.yes.value) (written c.in-Test.no.value) (subst (λ p. IsPolicyFor c.args.season.now (c.args.season.now.rules.weeks - c.args.done) (written p)) c.in-Test.is c.requires.policy) in
    (omega (arith, ap (λ p. object_count (written p)) c.deref-in-Ok-walk.ensures, ap (λ p. object_count (written p)) c.in-Test.is, c.decreases), (c.requires.early, (rw c.deref-in-Ok-walk.ensures both.3, c.requires.prefix)))

pub returns-in-End : goal.returns-in-End
returns-in-End t c prefix count has held =
    subst (λ p. Finds c.args.season.now.rules count (behind prefix (branches (written p))) (Ok c.saturating_add.result)) (sym c.in-End.is)
    (ends c.args.season.now.rules prefix count c.args.ended c.saturating_add.result has.keeps held (search rules))

pub returns-in-Ok : goal.returns-in-Ok
returns-in-Ok t c prefix count has held =
    subst (λ p. Finds c.args.season.now.rules count (behind prefix (branches (written p))) c.walk.result) (sym c.in-Rung.is)
    (goes_on c.args.season.now.rules prefix c.in-Rung.rung count (branches (written c.in-Rung.then.value)) c.walk.result
    (subst (λ p. Finds c.args.season.now.rules count (behind (prefix ++ c.in-Rung.rung ∷ []) (branches (written p))) c.walk.result) c.deref.ensures
    (c.walk.ensures (prefix ++ c.in-Rung.rung ∷ []) count (subst (λ n. HasSummary c.args.season.now.rules n c.in-Ok.after (prefix ++ c.in-Rung.rung ∷ [])) (omega arith) (c.in-Ok.ensures.goes prefix has)) held)))

pub returns-in-Err : goal.returns-in-Err
returns-in-Err t c prefix count has held =
    subst (λ p. Finds c.args.season.now.rules count (behind prefix (branches (written p))) (Err (record { branch = c.saturating_add-in-Err.result; rule = c.in-Err.rule }))) (sym c.in-Rung.is)
    (breaks c.args.season.now.rules prefix c.in-Rung.rung count c.args.ended c.saturating_add-in-Err.result (written c.in-Rung.then.value) c.in-Err.rule has.keeps (c.in-Err.ensures.goes prefix has) held (search rules))

pub returns-in-Ok-walk : goal.returns-in-Ok-walk
returns-in-Ok-walk t c prefix count has held =
    let below = subst (λ p. Finds c.args.season.now.rules count (behind prefix (branches (written p))) (Ok c.in-Ok-walk.later)) c.deref-in-Test.ensures (c.in-Ok-walk.ensures prefix count has held) in
    subst (λ p. Finds c.args.season.now.rules count (behind prefix (branches (written p))) c.walk-in-Ok-walk.result) (sym c.in-Test.is)
    (second_of_two c.args.season.now.rules prefix count (written c.in-Test.yes.value) (written c.in-Test.no.value) c.walk-in-Ok-walk.result below.0
    (subst (λ p. Finds c.args.season.now.rules (count + length (branches (written c.in-Test.yes.value))) (behind prefix (branches (written p))) c.walk-in-Ok-walk.result) c.deref-in-Ok-walk.ensures
    (c.walk-in-Ok-walk.ensures prefix (count + length (branches (written c.in-Test.yes.value))) has (ended_is prefix count c.in-Ok-walk.later (branches (written c.in-Test.yes.value)) below.1))))

pub returns-in-Err-walk : goal.returns-in-Err-walk
returns-in-Err-walk t c prefix count has held =
    let below = subst (λ p. Finds c.args.season.now.rules count (behind prefix (branches (written p))) (Err c.in-Err-walk.breach)) c.deref-in-Test.ensures (c.in-Err-walk.ensures prefix count has held) in
    subst (λ p. Finds c.args.season.now.rules count (behind prefix (branches (written p))) (Err c.in-Err-walk.breach)) (sym c.in-Test.is)
    (first_of_two c.args.season.now.rules prefix count (written c.in-Test.yes.value) (written c.in-Test.no.value) c.in-Err-walk.breach below)
