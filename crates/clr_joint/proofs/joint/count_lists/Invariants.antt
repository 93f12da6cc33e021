use Rattle.std.proofs.Common.{◌≡◌, ◌*◌, drop}
use Rattle.clr_model.specs.Stocks.{lists_of}
use Rattle.clr_joint.proofs.joint.count_lists.Given as goal

abbrev pub invariant-loop-store : goal.invariant-loop-store
invariant-loop-store l = l.lists * lists_of (drop l.store-index l.units) ≡ lists_of l.units
