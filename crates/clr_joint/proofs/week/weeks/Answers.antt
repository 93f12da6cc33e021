use Rattle.std.proofs.Common.{◌≡◌, ◌+◌, ◌-◌, [], suc, get_or, sym, ◌∙◌, subst, subst₂, arith}
use Rattle.std.proofs.lemmas.List.{get_or_default}
use Rattle.clr_joint.specs.Weeks.{AreWeeks, IsWeek}
use Rattle.clr_joint.proofs.WeekRows.{weeks_more}
use Rattle.clr_joint.proofs.week.weeks.Goals as goal

pub earlier_week-requires-clause-after : goal.earlier_week-requires-clause-after
earlier_week-requires-clause-after g c =
    let weeks : c.weeks-count.result ≡ c.args.season.now.rules.weeks = c.weeks-count.ensures.value in
    let back : c.args.season.now.rules.weeks - c.loop-back.back ≡ suc (c.weeks-count.result - 1 - c.loop-back.back) = omega (arith, weeks, c.loop-back-test.true) in
    let at : get_or c.loop-back.weeks.items c.loop-back.back (record { values = []; choices = [] }) ≡ c.index-after.result.now
    = sym (c.index-after.ensures ∙ get_or_default c.loop-back.weeks.items c.loop-back.back c.index-after.result.now (record { values = []; choices = [] }) (omega (arith, c.loop-back.invariant.size))) in
    subst₂ (IsWeek g.R.Direction.quotient c.args.season.now) back at (c.loop-back.invariant.each c.loop-back.back (omega arith))

pub loop-back-preserved : goal.loop-back-preserved
loop-back-preserved g c =
    let weeks : c.weeks-count.result ≡ c.args.season.now.rules.weeks = c.weeks-count.ensures.value in
    let back : c.weeks-count.result - 1 - c.loop-back.back ≡ c.args.season.now.rules.weeks - (c.loop-back.back + 1) = omega (arith, weeks, c.loop-back-test.true) in
    subst (AreWeeks g.R.Direction.quotient c.args.season.now (c.loop-back.back + 1 + 1)) (sym c.in_ok-push-2.ensures.items)
    (weeks_more g.R.Direction.quotient c.args.season.now (c.loop-back.back + 1) c.loop-back.weeks.items c.in_ok-week.week c.loop-back.invariant
    (subst (λ n. IsWeek g.R.Direction.quotient c.args.season.now n c.in_ok-week.week) back c.in_ok-week.ensures))
