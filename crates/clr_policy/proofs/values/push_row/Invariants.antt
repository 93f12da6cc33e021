use Rattle.std.proofs.Common.{◌≡◌, ◌++◌, pos, take}
use Rattle.clr_policy.specs.StockLists.{with_more}
use Rattle.clr_policy.proofs.values.push_row.Given as goal

abbrev pub invariant-loop-value : goal.invariant-loop-value
invariant-loop-value l = l.values.items ≡ l.initial.values.items ++ with_more (take l.value-index l.after) (pos l.more)
