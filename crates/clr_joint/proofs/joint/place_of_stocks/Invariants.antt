use Rattle.std.proofs.Common.{◌≡◌, ◌+◌, ◌*◌, drop}
use Rattle.clr_model.specs.Stocks.{lists_of, place_in}
use Rattle.clr_joint.proofs.joint.place_of_stocks.Given as goal

abbrev pub invariant-loop-index : goal.invariant-loop-index
invariant-loop-index l = l.place * lists_of (drop l.index l.units) + place_in (drop l.index l.units) (drop l.index l.stocks) ≡ place_in l.units l.stocks
