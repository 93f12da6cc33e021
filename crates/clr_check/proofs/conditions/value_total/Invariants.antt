use Rattle.std.proofs.Common.{◌≡◌, ◌*◌, ◌+◌, suc}
use Rattle.clr_average.specs.Average.{IsWithin}
use Rattle.clr_num.specs.Sums.{sum_of}
use Rattle.clr_cert.specs.Entries.{most_entry}
use Rattle.clr_cert.specs.Lines.{full_stock}
use Rattle.clr_check.specs.Rows.{kept_at}
use Rattle.clr_check.specs.Standing.{row_number, stock_count}
use Rattle.clr_check.proofs.conditions.value_total.Given as goal

abbrev pub invariant-loop-index : goal.invariant-loop-index
invariant-loop-index l = record {
  sum : l.total ≡ sum_of l.index (λ i. kept_at l.rows (row_number (suc i) 0) (l.place * stock_count l.season (suc i) + full_stock l.season (suc i)));
  size : IsWithin (l.index * most_entry) l.total;
}
