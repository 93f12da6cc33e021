use Rattle.std.proofs.Common.{◌≡◌, ◌-◌, ◌++◌, ◌∙◌, ap, sym, arith}
use Rattle.std.specs.List.{flat_map}
use Rattle.clr_num.specs.Lists.{numbers}
use Rattle.clr_make.specs.Draws.{state_after}
use Rattle.clr_make.specs.Made.{draw_number, lines, store_rows, week_rows}
use Rattle.clr_make.proofs.DrawLemmas.{store-next, week-first}
use Rattle.clr_make.proofs.LineLemmas.{rows-more, rows-none}
use Rattle.clr_make.proofs.rows.print_weeks.Goals as goal

pub loop-week-init : goal.loop-week-init
loop-week-init c = λ seed at. (at ∙ ap (λ n. state_after seed n) (sym (week-first c.args.store)), rows-none c.args.out.now.items)

pub loop-week-preserved : goal.loop-week-preserved
loop-week-preserved c = λ seed at.
    let before = c.loop-week.invariant seed at in (
      c.in_ok-print_week.ensures.draws seed before.0,
      rows-more (week_rows seed c.args.store) c.loop-week.week c.args.out.now.items c.loop-week.out.items c.print_week.new.out.items c.loop-week.auto.week before.1 (c.in_ok-print_week.ensures.text seed before.0),
    )

pub returns-clause-draws : goal.returns-clause-draws
returns-clause-draws c = λ seed at.
    let end : c.loop-week.week ≡ 13 = omega arith in
    (c.loop-week.invariant seed at).0 ∙ ap (λ n. state_after seed (draw_number c.args.store n 0)) end ∙ ap (λ n. state_after seed n) (store-next c.args.store c.requires.0)

pub returns-clause-text : goal.returns-clause-text
unfolding store_rows
returns-clause-text c = λ seed at.
    let end : c.loop-week.week - 1 ≡ 12 = omega arith in
    (c.loop-week.invariant seed at).1 ∙ ap (λ n. c.args.out.now.items ++ lines (flat_map (week_rows seed c.args.store) (numbers 1 n))) end
