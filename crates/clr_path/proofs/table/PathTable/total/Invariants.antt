use Rattle.std.proofs.Common.{◌≡◌, ◌*◌, suc}
use Rattle.clr_num.specs.Sums.{sum_of}
use Rattle.clr_average.specs.Average.{IsWithin}
use Rattle.clr_path.specs.Tables.{full_value, row_at}
use Rattle.clr_path.proofs.table.PathTable.total.Given as goal

abbrev pub invariant-loop-rows : goal.invariant-loop-rows
invariant-loop-rows g l = record {
  sum : l.total ≡ sum_of l.rows-index (λ i. full_value (row_at l.self (suc i) 0));
  size : IsWithin (l.rows-index * 20000000000000000) l.total;
}
