use Rattle.std.proofs.Common.{◌≡◌, ◌-◌, ◌++◌, ℕ}
use Rattle.std.specs.List.{flat_map}
use Rattle.clr_num.specs.Lists.{numbers}
use Rattle.clr_make.specs.Draws.{state_after}
use Rattle.clr_make.specs.Made.{draw_number, lines, rung_rows}
use Rattle.clr_make.proofs.rows.print_week.Given as goal

abbrev pub invariant-loop-rung : goal.invariant-loop-rung
invariant-loop-rung l = (seed : ℕ) → l.fn.draws.state ≡ state_after seed (draw_number l.store l.week 0) →
    (l.draws.state ≡ state_after seed (draw_number l.store l.week (l.rung - 1)))
    × (l.out.items ≡ l.fn.out.items ++ lines (flat_map (rung_rows seed l.store l.week) (numbers 1 (l.rung - 1))))
