use Rattle.std.proofs.Common.{◌≡◌, ◌*ℤ◌, ◌∙◌, ap, sym, subst, arith, suc, pos, slice_get, Some, true}
use Rattle.clr_model.specs.JointWeek.{joint_base}
use Rattle.clr_rules.specs.LiveSummaries.{at_week, leads_at}
use Rattle.clr_rules.specs.Rules.{IsInRange, next_summary}
use Rattle.clr_cert.specs.Entries.{most_entry}
use Rattle.clr_cert.specs.Lines.{stocks_at}
use Rattle.clr_check.specs.JointRows.{most_joint_sum}
use Rattle.clr_check.proofs.Holding.{live_here}
use Rattle.clr_check.proofs.JointFaults.{place_low, top_on}
use Rattle.clr_check.proofs.Sides.{read_128}
use Rattle.clr_check.proofs.ValueLemmas.{summary_range}
use Rattle.clr_check.proofs.joint.rung_top_fault.Goals as goal

pub lead-requires-clause-range : goal.lead-requires-clause-range
lead-requires-clause-range c = subst (λ r. IsInRange r c.args.s) (sym c.rules.ensures.value) (summary_range c.args.season.now c.args.done c.args.s c.rules.ensures.facts (omega (arith, c.requires.early)) c.requires.here)

pub joint_sides-left-requires-clause-week : goal.joint_sides-left-requires-clause-week
joint_sides-left-requires-clause-week c =
    let range = summary_range c.args.season.now c.args.done c.args.s c.rules.ensures.facts (omega (arith, c.requires.early)) c.requires.here in
    record { early = c.requires.early; low_before = range.low; high_before = range.high; low = c.requires.rung.0; high = c.requires.rung.1 }

pub joint_sides-left-requires-clause-place : goal.joint_sides-left-requires-clause-place
joint_sides-left-requires-clause-place c = place_low c.args.season.now (suc c.args.done) c.in-Some.place (next_summary c.rules.result.now c.args.s c.args.rung) c.args.live.now c.requires.live c.requires.early (c.in-Some.ensures).2

pub returns-in-Some : goal.returns-in-Some
returns-in-Some c entries has =
    let season = c.args.season.now in
    let at = live_here season c.args.live.now (suc c.args.done) c.in-Some.place (next_summary season.rules c.args.s c.args.rung) c.requires.live c.requires.early (subst (λ r. slice_get (at_week (suc c.args.done) c.args.live.now) c.in-Some.place ≡ Some (next_summary r c.args.s c.args.rung)) c.rules.ensures.value (c.in-Some.ensures).2) in
    top_on season entries c.args.done c.args.s (stocks_at season c.args.index) c.args.top _ _ c.args.rung c.short_top.result (subst (λ r. leads_at r c.args.done c.args.s c.args.rung ≡ true) c.rules.ensures.value (c.in-Some.ensures).0)
    (read_128 c.joint_sides-left.result.0 most_joint_sum c.joint_sides-left.ensures.left_size (omega arith) ∙ (c.joint_sides-left.ensures.left ∙ ap (λ v. v *ℤ pos (joint_base season)) (read_128 c.args.top most_entry c.requires.top (omega arith))))
    (read_128 c.joint_sides-left.result.1 most_joint_sum c.joint_sides-left.ensures.right_size (omega arith) ∙ c.joint_sides-left.ensures.right (λ s rest. (entries.joint (suc c.args.done) s rest).2) (next_summary season.rules c.args.s c.args.rung) at has) c.short_top.ensures
