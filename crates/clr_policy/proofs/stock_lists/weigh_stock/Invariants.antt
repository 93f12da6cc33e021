use Rattle.clr_policy.proofs.Rows.{IsUnderWay}
use Rattle.clr_policy.proofs.stock_lists.weigh_stock.Given as goal

abbrev pub invariant-loop-place : goal.invariant-loop-place
invariant-loop-place l = IsUnderWay l.weights l.unit l.cost l.width l.stock l.place l.initial.values l.values
