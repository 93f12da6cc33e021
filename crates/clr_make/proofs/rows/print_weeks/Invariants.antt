use Rattle.std.proofs.Common.{◌≡◌, ◌+◌, ◌-◌, ◌++◌, ℕ}
use Rattle.std.specs.List.{flat_map}
use Rattle.clr_num.specs.Lists.{numbers}
use Rattle.clr_make.specs.Draws.{state_after}
use Rattle.clr_make.specs.Made.{draw_number, draws_before, lines, week_rows}
use Rattle.clr_make.proofs.rows.print_weeks.Given as goal

abbrev pub invariant-loop-week : goal.invariant-loop-week
invariant-loop-week l = (seed : ℕ) → l.fn.draws.state ≡ state_after seed (draws_before l.store + 1) →
    (l.draws.state ≡ state_after seed (draw_number l.store l.week 0))
    × (l.out.items ≡ l.fn.out.items ++ lines (flat_map (week_rows seed l.store) (numbers 1 (l.week - 1))))
