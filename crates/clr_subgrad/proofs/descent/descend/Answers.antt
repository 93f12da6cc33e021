use Rattle.std.proofs.Common.{◌≡◌, ◌+◌, ◌-◌, ℤ, ◌<ℤ◌, ◌≤ℤ◌, ◌≤◌, true, false, SFits, to_z, of_z, rules, subst, arith, unwrap_or}
use Rattle.std.proofs.lemmas.Int.{ints}
use lib.Signed.{lt_z}
use mir.Syntax.{w128}
use Rattle.clr_subgrad.specs.Run.{IsFirstLeast, run_bound, run_reach}
use Rattle.clr_subgrad.proofs.RunLemmas.{Stands, reach_most, small_wider, walk_better, walk_kept}
use Rattle.clr_subgrad.proofs.descent.descend.Goals as goal
use Rattle.clr_subgrad.proofs.descent.descend.Goals.{then-next-best, else-next-best}

less : (new value : ℤ) → SFits w128 new → SFits w128 value → lt_z (to_z w128 (of_z w128 new)) (to_z w128 (of_z w128 value)) ≡ true → new <ℤ value
less new value f h t = omega (arith, ints)

more : (new value : ℤ) → SFits w128 new → SFits w128 value → lt_z (to_z w128 (of_z w128 new)) (to_z w128 (of_z w128 value)) ≡ false → value ≤ℤ new
more new value f h t = omega (arith, ints)

pub advance-requires-clause-run : goal.advance-requires-clause-run
advance-requires-clause-run c =
    let e : c.loop-done.done ≡ c.loop-done.done + 1 - 1 = omega arith in
    subst (λ n. Stands c.args.season.now c.args.a n (unwrap_or c.loop-done.own c.loop-done.best)) e c.loop-done.invariant.latest

pub loop-done-preserved : goal.loop-done-preserved
loop-done-preserved c =
    let new_fits : SFits w128 c.in_ok-next.next.bound = search rules in
    let old_fits : SFits w128 c.loop-done.best.bound = search rules in
    elim c.if-next-best.branch [
      | then-next-best w ↦ rw (w.best-is, w.own-is)
          (walk_better c.args.season.now c.args.a c.loop-done.done c.loop-done.own c.loop-done.best c.in_ok-next.next c.loop-done.invariant c.in_ok-next.ensures.run c.in_ok-next.ensures.step (less _ _ new_fits old_fits w.if-next-best.true))
      | else-next-best w ↦ rw (w.best-is, w.own-is)
          (walk_kept c.args.season.now c.args.a c.loop-done.done c.loop-done.own c.loop-done.best c.in_ok-next.next c.loop-done.invariant c.in_ok-next.ensures.run (more _ _ new_fits old_fits w.if-next-best.false))
    ]

pub returns-clause-least : goal.returns-clause-least
returns-clause-least c =
    let all : c.loop-done.done ≡ c.args.steps = omega (arith, c.loop-done-test.false, c.loop-done.auto.done-end) in
    subst (λ n. IsFirstLeast (run_bound c.args.season.now c.args.a) n c.loop-done.best.at_step c.loop-done.best.bound) all c.loop-done.invariant.least

pub returns-clause-small : goal.returns-clause-small
returns-clause-small c =
    let few : c.loop-done.best.at_step ≤ 100 = omega (arith, c.loop-done.invariant.least.within, c.loop-done.auto.done-end, c.requires.steps) in
    small_wider (run_reach c.loop-done.best.at_step) 10000000000000000 c.loop-done.best.mult (omega (arith, reach_most c.loop-done.best.at_step few)) c.loop-done.invariant.best_is.small

pub returns-clause-near : goal.returns-clause-near
returns-clause-near c =
    let few : c.loop-done.best.at_step ≤ 100 = omega (arith, c.loop-done.invariant.least.within, c.loop-done.auto.done-end, c.requires.steps) in
    small_wider (run_reach c.loop-done.best.at_step) 9000000000000000 c.loop-done.best.mult (omega (arith, reach_most c.loop-done.best.at_step few)) c.loop-done.invariant.best_is.small
