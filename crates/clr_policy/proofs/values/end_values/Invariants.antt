use Rattle.std.proofs.Common.{◌+◌, ◌-◌, length}
use Rattle.clr_policy.specs.StockLists.{AllWithin, AreValues, ends_from, most_gain, stocks_from}
use Rattle.std.proofs.Common.{◌*◌}
use Rattle.clr_policy.proofs.values.end_values.Given as goal

abbrev pub invariant-loop-index : goal.invariant-loop-index
invariant-loop-index l = record {
  values : AreValues (stocks_from l.season (length l.season.stores - l.index + 1)) (ends_from l.season (length l.season.stores - l.index + 1)) l.values.items;
  reach : AllWithin (l.index * most_gain) l.values.items;
}
