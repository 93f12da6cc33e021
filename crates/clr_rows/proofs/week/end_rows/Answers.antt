use Rattle.std.proofs.Common.{◌+◌, pos, length, get_or, refl, sym, subst}
use Rattle.clr_rows.specs.Rows.{AreRows}
use Rattle.clr_rows.specs.Summaries.{live_week}
use Rattle.clr_rows.proofs.WeekRows.{row_more}
use Rattle.clr_rows.proofs.week.end_rows.Goals as goal

pub loop-place-preserved : goal.loop-place-preserved
loop-place-preserved c =
    subst (AreRows (pos 0) (length c.args.row.now) (live_week c.args.rules.now c.args.rules.now.weeks) (c.loop-place.place + 1) (λ s x. get_or c.args.row.now x (pos 0))) (sym c.in_ok-extend_from_slice.ensures.items)
    (row_more (pos 0) (length c.args.row.now) (live_week c.args.rules.now c.args.rules.now.weeks) c.loop-place.place (λ s x. get_or c.args.row.now x (pos 0)) c.loop-place.values.items c.args.row.now c.loop-place.invariant refl (λ s at x lt. refl))
