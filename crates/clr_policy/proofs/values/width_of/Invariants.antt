use Rattle.std.proofs.Common.{◌≡◌, ◌≤◌, ◌*◌, ◌+◌}
use Rattle.clr_model.specs.Stocks.{lists_of}
use Rattle.clr_policy.specs.StockLists.{stocks_from}
use Rattle.clr_policy.proofs.values.width_of.Given as goal

abbrev pub invariant-loop-index : goal.invariant-loop-index
invariant-loop-index l = record {
  rest : l.width * lists_of (stocks_from l.season (l.index + 1)) ≡ lists_of (stocks_from l.season (l.store + 1));
  some : 1 ≤ l.width;
}
