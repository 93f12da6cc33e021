use Rattle.std.proofs.Common.{◌≡◌, ◌*◌, suc, get_or}
use Rattle.clr_num.specs.Sums.{sum_of}
use Rattle.clr_average.specs.Average.{IsWithin}
use Rattle.clr_model.specs.Revenue.{full_stocks, store_revenue}
use Rattle.clr_plain.specs.Plain.{asked_of}
use Rattle.clr_plain.proofs.revenue.revenue.Given as goal

abbrev pub invariant-loop-index : goal.invariant-loop-index
invariant-loop-index l = record {
  value : l.total ≡ sum_of l.index (λ i. store_revenue l.season (suc i) 1 (get_or (full_stocks l.season) i 0) l.path (asked_of l.season l.path (suc i) l.asked));
  size : IsWithin (l.index * 100000000000) l.total;
}
