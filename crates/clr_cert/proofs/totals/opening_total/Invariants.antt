use Rattle.std.proofs.Common.{◌≡◌, ◌*◌}
use Rattle.clr_average.specs.Average.{IsWithin}
use Rattle.clr_cert.specs.Entries.{most_entry}
use Rattle.clr_cert.specs.Tables.{entry_of}
use Rattle.clr_cert.proofs.OpeningSums.{sum_of_first}
use Rattle.clr_cert.proofs.totals.opening_total.Given as goal

abbrev pub invariant-loop-index : goal.invariant-loop-index
invariant-loop-index g l = record {
  sum : l.total ≡ sum_of_first l.season (entry_of l.table (g.E.Entries.entries l.entries) 0) l.index;
  size : IsWithin (l.index * most_entry) l.total;
}
