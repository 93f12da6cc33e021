use Rattle.std.proofs.Common.{◌≡◌, ◌-◌, length, take, slice_get}
use Rattle.clr_rules.specs.LiveSummaries.{at_week}
use Rattle.clr_rows.proofs.summaries.week_list.Given as goal

abbrev pub invariant-loop-next : goal.invariant-loop-next
invariant-loop-next l = record {
  list : l.list.items ≡ take (length l.list.items) (at_week l.done l.live);
  next : l.next ≡ slice_get (at_week l.done l.live) (length l.list.items);
}

abbrev pub decreases-loop-next : goal.decreases-loop-next
decreases-loop-next l = length (at_week l.done l.live) - length l.list.items
