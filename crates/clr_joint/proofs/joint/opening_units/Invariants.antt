use Rattle.std.proofs.Common.{◌≡◌, take}
use Rattle.clr_model.specs.Revenue.{full_stocks}
use Rattle.clr_joint.proofs.joint.opening_units.Given as goal

abbrev pub invariant-loop-index : goal.invariant-loop-index
invariant-loop-index l = l.units.items ≡ take l.index (full_stocks l.season)
