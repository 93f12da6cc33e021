use Rattle.std.proofs.Common.{ℕ, ◌<◌, ◌≤◌, length}
use Rattle.clr_rules.specs.LiveSummaries.{live_summaries}
use Rattle.clr_check.proofs.tables.most_live.Given as goal

abbrev pub invariant-loop-done : goal.invariant-loop-done
invariant-loop-done l = record {
  room : (k : ℕ) → k < l.done → length (live_summaries l.season.rules k) ≤ l.most;
  range : l.most ≤ 2000;
}
