use Rattle.std.proofs.Common.{◌≡◌, ◌+◌, ◌-◌, [], suc, get_or, sym, ◌∙◌, subst, subst₂, arith}
use Rattle.std.proofs.lemmas.List.{get_or_default}
use Rattle.clr_mult.specs.Tables.{mult_at}
use Rattle.clr_storedp.specs.Weeks.{AreWeeks, IsWeek}
use Rattle.clr_storedp.proofs.TableLemmas.{inside_is, table_is, weeks_more}
use Rattle.clr_storedp.proofs.table.StoreTable.build.Goals as goal

pub earlier_week-requires-clause-after : goal.earlier_week-requires-clause-after
earlier_week-requires-clause-after g c =
    let weeks : c.weeks-count.result ≡ c.args.season.now.rules.weeks = c.weeks-count.ensures.value in
    let back : c.args.season.now.rules.weeks - c.loop-back.back ≡ suc (c.weeks-count.result - 1 - c.loop-back.back) = omega (arith, weeks, c.loop-back-test.true) in
    let at : get_or c.loop-back.weeks.items c.loop-back.back (record { values = []; choices = [] }) ≡ c.index-after.result.now
    = sym (c.index-after.ensures ∙ get_or_default c.loop-back.weeks.items c.loop-back.back c.index-after.result.now (record { values = []; choices = [] }) (omega (arith, c.loop-back.invariant.size))) in
    subst₂ (IsWeek g.R.Direction.quotient (mult_at c.args.mult.now) c.args.season.now c.args.store (c.stock.result + 1)) back at (c.loop-back.invariant.each c.loop-back.back (omega arith))

pub loop-back-preserved : goal.loop-back-preserved
loop-back-preserved g c =
    let weeks : c.weeks-count.result ≡ c.args.season.now.rules.weeks = c.weeks-count.ensures.value in
    let back : c.weeks-count.result - 1 - c.loop-back.back ≡ c.args.season.now.rules.weeks - (c.loop-back.back + 1) = omega (arith, weeks, c.loop-back-test.true) in
    subst (AreWeeks g.R.Direction.quotient (mult_at c.args.mult.now) c.args.season.now c.args.store (c.stock.result + 1) (c.loop-back.back + 1 + 1)) (sym c.in_ok-push-2.ensures.items)
    (weeks_more g.R.Direction.quotient (mult_at c.args.mult.now) c.args.season.now c.args.store (c.stock.result + 1) (c.loop-back.back + 1) c.loop-back.weeks.items c.in_ok-week.week c.loop-back.invariant
    (subst (λ n. IsWeek g.R.Direction.quotient (mult_at c.args.mult.now) c.args.season.now c.args.store (c.stock.result + 1) n c.in_ok-week.week) back c.in_ok-week.ensures))

pub invariant_of-result : goal.invariant_of-result
invariant_of-result g c =
    let all : c.loop-back.back + 1 ≡ suc c.args.season.now.rules.weeks = omega (arith, c.loop-back-test.false, c.loop-back.auto.back-end, c.weeks-count.ensures.value) in
    inside_is g.R.Direction.quotient (mult_at c.args.mult.now) c.args.season.now c.args.store (c.stock.result + 1) c.in_ok-copy.field-0 c.loop-back.weeks.items c.weeks-count.ensures.facts.rules (c.in_ok-copy.ensures ∙ c.requires.live) c.requires.any
    (omega (arith, c.stock.ensures.value)) (subst (λ n. AreWeeks g.R.Direction.quotient (mult_at c.args.mult.now) c.args.season.now c.args.store (c.stock.result + 1) n c.loop-back.weeks.items) all c.loop-back.invariant)

pub returns : goal.returns
returns g c =
    let all : c.loop-back.back + 1 ≡ suc c.args.season.now.rules.weeks = omega (arith, c.loop-back-test.false, c.loop-back.auto.back-end, c.weeks-count.ensures.value) in
    table_is g.R.Direction.quotient (mult_at c.args.mult.now) c.args.season.now c.args.store (c.stock.result + 1) c.in_ok-copy.field-0 c.loop-back.weeks.items c.weeks-count.ensures.facts.rules (c.in_ok-copy.ensures ∙ c.requires.live) c.requires.any
    (omega (arith, c.stock.ensures.value)) (subst (λ n. AreWeeks g.R.Direction.quotient (mult_at c.args.mult.now) c.args.season.now c.args.store (c.stock.result + 1) n c.loop-back.weeks.items) all c.loop-back.invariant)
