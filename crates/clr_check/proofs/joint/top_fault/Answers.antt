use Rattle.std.proofs.Common.{◌≡◌, ◌∙◌, ◌<◌, ◌+◌, ℕ, sym, ap, arith, map, ◌⊎◌, inl, inr, to_z, of_z}
use mir.Syntax.{w128}
use Rattle.clr_cert.specs.Conditions.{joint_top_condition, leading_rungs}
use Rattle.clr_cert.specs.Entries.{most_entry}
use Rattle.clr_cert.specs.Lines.{stocks_at}
use Rattle.clr_check.specs.Faults.{first_fault}
use Rattle.clr_check.specs.JointRows.{top_conditions}
use Rattle.clr_check.proofs.Firsts.{none_is}
use Rattle.clr_check.proofs.JointFaults.{top_found, top_none}
use Rattle.clr_check.proofs.Sides.{read_128}
use Rattle.clr_check.proofs.joint.top_fault.Goals as goal

split : (a b : ℕ) → a < b + 1 → (a < b) ⊎ (b ≡ a)
split a b h = grind arith

pub returns-then-is_some : goal.returns-then-is_some
returns-then-is_some c entries has =
    let season = c.args.season.now in
    top_found season entries c.args.done c.args.s (stocks_at season c.args.index) (to_z w128 (of_z w128 c.args.top)) c.loop-rung.rung c.rung_top_fault-fault.result c.loop-rung.auto.rung (omega (arith, c.loop-rung-test.true, c.rungs-rung-end.ensures.value))
    (c.loop-rung.invariant entries has) (c.rung_top_fault-fault.ensures entries has) (sym c.if-is_some.ensures)
    ∙ ap (λ v. first_fault (map (joint_top_condition season entries c.args.done c.args.s (stocks_at season c.args.index) v) (leading_rungs season c.args.done c.args.s))) (read_128 c.args.top most_entry c.requires.top (omega arith))

pub loop-rung-preserved : goal.loop-rung-preserved
loop-rung-preserved c entries has k low less =
    elim (split k c.loop-rung.rung less) [
      | inl l ↦ c.loop-rung.invariant entries has k low l
      | inr e ↦ ap (λ n. first_fault (top_conditions c.args.season.now entries c.args.done c.args.s (stocks_at c.args.season.now c.args.index) (to_z w128 (of_z w128 c.args.top)) n)) (sym e) ∙ (sym (c.rung_top_fault-fault.ensures entries has) ∙ none_is c.rung_top_fault-fault.result (sym c.if-is_some.ensures))
    ]

pub returns : goal.returns
returns c entries has =
    let season = c.args.season.now in
    top_none season entries c.args.done c.args.s (stocks_at season c.args.index) (to_z w128 (of_z w128 c.args.top)) (λ k low less. c.loop-rung.invariant entries has k low (omega (arith, less, c.loop-rung-test.false, c.rungs-rung-end.ensures.value)))
    ∙ ap (λ v. first_fault (map (joint_top_condition season entries c.args.done c.args.s (stocks_at season c.args.index) v) (leading_rungs season c.args.done c.args.s))) (read_128 c.args.top most_entry c.requires.top (omega arith))
