use Rattle.std.proofs.Common.{◌≡◌, ◌≤◌, ◌*◌, ◌^◌, drop, length}
use Rattle.clr_model.specs.Fits.{stock_lists}
use Rattle.clr_model.proofs.joint_limits.lists_of_stocks.Given as goal

abbrev pub invariant-loop-index : goal.invariant-loop-index
invariant-loop-index l = record {
  rest : l.lists * stock_lists (drop l.index l.season.stores) ≡ stock_lists l.season.stores;
  few : length l.season.stores ≤ 4;
  range : l.lists ≤ 2001 ^ l.index;
}
