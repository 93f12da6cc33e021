use Rattle.std.proofs.Common.{◌≡◌, ◌*◌, suc, []}
use Rattle.clr_num.specs.Rounding.{ceil}
use Rattle.clr_num.specs.Sums.{sum_of}
use Rattle.clr_average.specs.Average.{IsWithin}
use Rattle.clr_mult.specs.Tables.{mult_at}
use Rattle.clr_model.specs.Revenue.{full_stocks, of_store}
use Rattle.clr_model.specs.StoreValue.{store_value_at}
use Rattle.clr_storedp.proofs.bounds.bound.Given as goal

abbrev pub invariant-loop-index : goal.invariant-loop-index
invariant-loop-index l = record {
  sum : l.total ≡ sum_of l.index (λ i. store_value_at ceil (mult_at l.mult) l.season (suc i) [] (of_store (full_stocks l.season) (suc i)));
  size : IsWithin (l.index * 1000000000000000000) l.total;
}
