use Rattle.std.proofs.Common.{◌≡◌}
use Rattle.clr_policy.specs.StockLists.{sum_below}
use Rattle.clr_policy.proofs.stock_lists.sum_of_place.Given as goal

abbrev pub invariant-loop-demand : goal.invariant-loop-demand
invariant-loop-demand l = l.total ≡ sum_below l.weights l.unit l.cost l.values l.width l.stock l.place l.demand
