use Rattle.std.proofs.Common.{◌≡◌, ◌^◌}
use Rattle.clr_joint.specs.Folds.{AreFolded, last_units}
use Rattle.clr_model.specs.Stocks.{lists_of}
use Rattle.clr_joint.proofs.fold.fold_row.Given as goal

abbrev pub invariant-loop-folded : goal.invariant-loop-folded
invariant-loop-folded l = record {
  stride : l.stride ≡ lists_of (last_units l.season l.folded);
  power : l.power ≡ l.season.base ^ l.folded;
  items : AreFolded l.season l.done l.rung l.folded l.row l.items.items;
}
