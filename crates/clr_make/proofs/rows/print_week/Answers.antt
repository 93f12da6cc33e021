use Rattle.std.proofs.Common.{◌≡◌, ◌+◌, ◌-◌, ◌++◌, ◌∙◌, ap, sym, arith}
use Rattle.std.specs.List.{flat_map}
use Rattle.clr_num.specs.Lists.{numbers}
use Rattle.clr_make.specs.Draws.{state_after}
use Rattle.clr_make.specs.Made.{draw_number, lines, rung_rows, week_rows}
use Rattle.clr_make.proofs.DrawLemmas.{week-next}
use Rattle.clr_make.proofs.LineLemmas.{rows-more, rows-none}
use Rattle.clr_make.proofs.rows.print_week.Goals as goal

pub loop-rung-init : goal.loop-rung-init
loop-rung-init c = λ seed at. (at, rows-none c.args.out.now.items)

pub loop-rung-preserved : goal.loop-rung-preserved
loop-rung-preserved c = λ seed at.
    let before = c.loop-rung.invariant seed at in
    let low = c.loop-rung.auto.rung in
    let same : c.loop-rung.rung + 1 - 1 ≡ c.loop-rung.rung = omega arith in (
      c.in_ok-print_rung.ensures.draws seed before.0 ∙ ap (λ n. state_after seed (draw_number c.args.store c.args.week n)) (sym same),
      rows-more (rung_rows seed c.args.store c.args.week) c.loop-rung.rung c.args.out.now.items c.loop-rung.out.items c.print_rung.new.out.items low before.1 (c.in_ok-print_rung.ensures.text seed before.0),
    )

pub returns-clause-draws : goal.returns-clause-draws
returns-clause-draws c = λ seed at.
    let end : c.loop-rung.rung - 1 ≡ 6 = omega arith in
    (c.loop-rung.invariant seed at).0 ∙ ap (λ n. state_after seed (draw_number c.args.store c.args.week n)) end ∙ ap (λ n. state_after seed n) (week-next c.args.store c.args.week c.requires.week.0)

pub returns-clause-text : goal.returns-clause-text
unfolding week_rows
returns-clause-text c = λ seed at.
    let end : c.loop-rung.rung - 1 ≡ 6 = omega arith in
    (c.loop-rung.invariant seed at).1 ∙ ap (λ n. c.args.out.now.items ++ lines (flat_map (rung_rows seed c.args.store c.args.week) (numbers 1 n))) end
