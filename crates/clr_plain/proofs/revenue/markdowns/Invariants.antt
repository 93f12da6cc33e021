use Rattle.std.proofs.Common.{◌≡◌, ◌≤◌, take}
use Rattle.clr_rules.specs.Rules.{rung_at}
use Rattle.clr_model.specs.Revenue.{markdowns_after}
use Rattle.clr_plain.proofs.revenue.markdowns.Given as goal

abbrev pub invariant-loop-done : goal.invariant-loop-done
invariant-loop-done l = record {
  value : l.count ≡ markdowns_after 1 (take l.done l.path);
  range : l.count ≤ l.done;
  last : l.before ≡ rung_at l.path l.done;
}
