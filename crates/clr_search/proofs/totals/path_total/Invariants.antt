use Rattle.std.proofs.Common.{suc}
use Rattle.clr_model.specs.PathValue.{path_value}
use Rattle.clr_model.specs.Revenue.{full_stocks, of_store}
use Rattle.clr_search.proofs.StoreTotals.{IsTotal}
use Rattle.clr_search.proofs.totals.path_total.Given as goal

abbrev pub invariant-loop-index : goal.invariant-loop-index
invariant-loop-index g l = IsTotal (λ i. path_value g.R.Direction.quotient l.demands (suc i) 0 1 l.path (of_store (full_stocks l.demands) (suc i))) l.index l.total
