use Rattle.std.proofs.Common.{◌≡◌, ◌*◌, get_or, pos}
use Rattle.clr_average.specs.Average.{IsWithin}
use Rattle.clr_num.specs.Sums.{sum_of}
use Rattle.clr_check.proofs.heads.mult_fault.Given as goal

abbrev pub invariant-loop-mult : goal.invariant-loop-mult
invariant-loop-mult l = record {
  sum : l.sum ≡ sum_of l.mult-index (λ i. get_or l.mults i (pos 0));
  size : IsWithin (l.mult-index * 10000000000000000) l.sum;
}
