use Rattle.std.proofs.Common.{◌≡◌, take}
use Rattle.clr_rules.specs.LiveSummaries.{pairs_from}
use Rattle.clr_rules.proofs.live_weeks.Live.copy.Given as goal

abbrev pub invariant-loop-week : goal.invariant-loop-week
invariant-loop-week l = (l.weeks.items ≡ take l.week-index l.week-items) × (pairs_from 0 l.week-items ≡ l.self)
