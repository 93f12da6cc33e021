use Rattle.std.proofs.Common.{suc}
use Rattle.clr_num.specs.Rounding.{ceil}
use Rattle.clr_mult.specs.Tables.{mult_at}
use Rattle.clr_model.specs.PathValue.{path_value_to}
use Rattle.clr_model.specs.Revenue.{full_stocks, of_store}
use Rattle.clr_model.specs.StoreValue.{store_value_at}
use Rattle.clr_search.proofs.StoreTotals.{IsTotal}
use Rattle.clr_search.proofs.paths.SeasonPaths.bound.Given as goal

abbrev pub invariant-loop-index : goal.invariant-loop-index
invariant-loop-index l = IsTotal (λ i. path_value_to ceil (λ rest. store_value_at ceil (mult_at l.self.mult) l.self.season (suc i) l.prefix rest) l.self.season (suc i) 0 1 l.prefix (of_store (full_stocks l.self.season) (suc i))) l.index l.total
