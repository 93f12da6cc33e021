use Rattle.std.proofs.Common.{◌≡◌, map, suc}
use Rattle.clr_num.specs.Lists.{numbers}
use Rattle.clr_rules.specs.LiveSummaries.{reached_summaries}
use Rattle.clr_rules.proofs.live_weeks.reached_weeks.Given as goal

abbrev pub invariant-loop-done : goal.invariant-loop-done
invariant-loop-done l = l.weeks.items ≡ map (reached_summaries l.rules) (numbers 0 (suc l.done))
