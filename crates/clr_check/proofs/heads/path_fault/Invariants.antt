use Rattle.std.proofs.Common.{◌≡◌, ℕ, ◌≤◌, take, true}
use Rattle.clr_rules.specs.Rules.{HasSummary, is_live}
use Rattle.clr_check.proofs.heads.path_fault.Given as goal

abbrev pub invariant-loop-done : goal.invariant-loop-done
invariant-loop-done l = record {
  summary : HasSummary l.season.rules l.done l.s (take l.done l.path);
  live : (week : ℕ) → 1 ≤ week → week ≤ l.done → is_live l.season.rules (take week l.path) ≡ true;
}
