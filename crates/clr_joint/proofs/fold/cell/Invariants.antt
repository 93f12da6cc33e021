use Rattle.std.proofs.Common.{◌≡◌}
use Rattle.clr_joint.specs.Folds.{cell_sum}
use Rattle.clr_joint.proofs.fold.cell.Given as goal

abbrev pub invariant-loop-demand : goal.invariant-loop-demand
invariant-loop-demand l = l.total ≡ cell_sum l.weights l.unit l.items l.place l.stock l.stride l.demand
