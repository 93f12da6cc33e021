use Rattle.std.proofs.Common.{◌≡◌, ◌+◌, ◌-◌, ◌/◌, ◌%◌, ◌++◌, ◌∙◌, ap}
use Rattle.clr_make.specs.Draws.{draw, state_after}
use Rattle.clr_make.specs.Made.{demand_rows_from, draw_number, lines, rung_rows}
use Rattle.clr_make.proofs.DrawLemmas.{rung-next}
use Rattle.clr_make.proofs.rows.print_rung.Goals as goal

pub returns-clause-draws : goal.returns-clause-draws
returns-clause-draws c = λ seed at. c.draw.ensures.follows seed _ at ∙ ap (λ n. state_after seed n) (rung-next c.args.store c.args.week c.args.rung c.requires.rung.0)

pub returns-clause-text : goal.returns-clause-text
unfolding rung_rows
returns-clause-text c = λ seed at.
    let drawn : c.draw.result ≡ draw seed (draw_number c.args.store c.args.week c.args.rung) =
    c.draw.ensures.value seed _ at ∙ ap (λ n. draw seed n) (rung-next c.args.store c.args.week c.args.rung c.requires.rung.0) in
    c.in_ok-print_demands.ensures ∙ ap (λ d. c.args.out.now.items ++ lines (demand_rows_from c.args.store c.args.week c.args.rung ((c.args.rung - 1 + d % 3) / 2))) drawn
