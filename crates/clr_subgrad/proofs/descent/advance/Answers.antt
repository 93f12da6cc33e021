use Rattle.std.proofs.Common.{◌≡◌, ℤ, ◌-◌, ◌≤◌, suc, ap, sym, ◌∙◌, subst, arith}
use Rattle.clr_num.specs.Rounding.{ceil}
use Rattle.clr_model.specs.StoreValue.{bound}
use Rattle.clr_mult.specs.Steps.{IsSmall}
use Rattle.clr_mult.specs.Tables.{EachEntry, Table, mult_at}
use Rattle.clr_mult.proofs.StepLemmas.{run_small}
use Rattle.clr_storedp.specs.Tables.{AreTablesOf}
use Rattle.clr_subgrad.specs.declared.descent.Descent.{Descent}
use Rattle.clr_subgrad.specs.Run.{run_reach, run_table, step_factor, usage_table}
use Rattle.clr_subgrad.proofs.RunLemmas.{five, of_season_as, reach_most, reach_next, run_next, run_of_season, small_wider}
use Rattle.clr_subgrad.proofs.descent.advance.Goals as goal
use Rattle.clr_subgrad.proofs.descent.advance.Goals.{In_ok-step}

next_is : (c : In_ok-step) → c.step.new.self ≡ run_table c.args.season.now c.args.a c.args.step
next_is c =
    let e : suc (c.args.step - 1) ≡ c.args.step = omega (arith, c.requires.first) in
    run_next c.args.season.now c.args.a (c.args.step - 1) c.step_factor.result c.in_ok-used.used c.in_ok-mult.mult c.step.new.self (c.in_ok-mult.ensures ∙ c.requires.run.mult_is) (c.step_factor.ensures.value ∙ ap (step_factor c.args.season.now c.args.a) (sym e))
    (c.in_ok-used.ensures ∙ ap (λ (t : Table ℤ). usage_table (mult_at t) c.args.season.now) (ap (λ (d : Descent). d.mult) c.latest-from.ensures ∙ sym c.in_ok-mult.ensures)) c.in_ok-step.ensures.table
    ∙ ap (run_table c.args.season.now c.args.a) e

next_small : (c : In_ok-step) → EachEntry c.step.new.self (λ store week rung. IsSmall (run_reach c.args.step) (mult_at c.step.new.self store week rung))
next_small c =
    let e : suc (c.args.step - 1) ≡ c.args.step = omega (arith, c.requires.first) in
    subst (λ n. EachEntry c.step.new.self (λ store week rung. IsSmall (run_reach n) (mult_at c.step.new.self store week rung))) e
    (run_small c.step_factor.result (run_reach (c.args.step - 1)) (run_reach (suc (c.args.step - 1))) c.in_ok-used.used c.in_ok-mult.mult c.step.new.self c.in_ok-step.ensures.table
    (subst (λ (t : Table ℤ). EachEntry t (λ store week rung. IsSmall (run_reach (c.args.step - 1)) (mult_at t store week rung))) (sym c.in_ok-mult.ensures) c.requires.run.small) c.in_ok-step.ensures.near
    (reach_next (c.args.step - 1) c.step_factor.result c.step_factor.ensures.size (λ h. c.step_factor.ensures.later (subst (λ n. 2 ≤ n) e h))))

pub arrived-requires-clause-small : goal.arrived-requires-clause-small
arrived-requires-clause-small c =
    let at = (goal.at.arrived-requires-clause-small c).In_ok-step in
    small_wider (run_reach c.args.step) 10000000000000000 c.step.new.self (omega (arith, reach_most c.args.step c.requires.last)) (next_small at)

pub returns-clause-run : goal.returns-clause-run
returns-clause-run c =
    let at = (goal.at.returns-clause-run c).In_ok-step in
    let run : c.step.new.self ≡ run_table c.args.season.now c.args.a c.args.step = next_is at in
    five c.arrived.result _ _ _ _ _ _ c.arrived.ensures.mult c.arrived.ensures.bound c.arrived.ensures.tables c.arrived.ensures.size c.arrived.ensures.tops
    (λ d mult value tables size tops. record {
      mult_is = mult ∙ run;
      bound_is = value ∙ ap (λ (t : Table ℤ). bound (mult_at t) c.args.season.now) run;
      tables_are = subst (λ (t : Table ℤ). AreTablesOf ceil (mult_at t) c.args.season.now d.tables.items) (sym mult) tables;
      of_season = of_season_as c.args.season.now d.mult (run_table c.args.season.now c.args.a c.args.step) (mult ∙ run) (run_of_season c.args.season.now c.args.a c.args.step);
      small = subst (λ (t : Table ℤ). EachEntry t (λ store week rung. IsSmall (run_reach c.args.step) (mult_at t store week rung))) (sym mult) (next_small at);
      size = size;
      tops = tops;
    })
