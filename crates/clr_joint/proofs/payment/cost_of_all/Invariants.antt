use Rattle.std.proofs.Common.{◌≡◌, ◌≤◌, ◌*◌, suc, pos}
use Rattle.clr_num.specs.Sums.{sum_of}
use Rattle.clr_model.specs.Revenue.{cent, fee}
use Rattle.clr_joint.proofs.payment.cost_of_all.Given as goal

abbrev pub invariant-loop-index : goal.invariant-loop-index
invariant-loop-index l = record {
  value : pos l.cost ≡ sum_of l.index (λ i. pos (cent * fee l.season (suc i) l.before l.rung));
  range : l.cost ≤ l.index * 10000000000000;
}
