use Rattle.std.proofs.Common.{pos, length, get_or}
use Rattle.clr_rows.specs.Rows.{AreRows}
use Rattle.clr_rows.specs.Summaries.{live_week}
use Rattle.clr_rows.proofs.week.end_rows.Given as goal

abbrev pub invariant-loop-place : goal.invariant-loop-place
invariant-loop-place l = AreRows (pos 0) (length l.row) (live_week l.rules l.rules.weeks) l.place (λ s x. get_or l.row x (pos 0)) l.values.items
