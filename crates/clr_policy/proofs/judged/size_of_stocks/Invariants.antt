use Rattle.std.proofs.Common.{◌≡◌, ◌≤◌, ◌*◌, min, drop}
use Rattle.clr_policy.specs.Written.{most_objects}
use Rattle.clr_policy.specs.Judged.{stock_demands}
use Rattle.clr_policy.proofs.judged.size_of_stocks.Given as goal

abbrev pub invariant-loop-index : goal.invariant-loop-index
invariant-loop-index l = record {
  rest : min (l.size * stock_demands l.season.top (drop l.index l.season.stores)) most_objects ≡ min (stock_demands l.season.top l.season.stores) most_objects;
  range : l.size ≤ most_objects;
}
