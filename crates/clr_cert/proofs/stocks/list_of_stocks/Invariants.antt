use Rattle.std.proofs.Common.{◌≡◌, ◌<◌, ◌≤◌, ◌++◌, length, take, drop, get_or, []}
use Rattle.clr_model.specs.Fits.{stock_lists}
use Rattle.clr_cert.specs.Places.{all_stocks}
use Rattle.clr_cert.proofs.stocks.list_of_stocks.Given as goal

abbrev pub invariant-loop-at : goal.invariant-loop-at
invariant-loop-at l = record {
  size : length l.stocks ≡ 4;
  few : length l.season.stores ≤ 4;
  lists : l.lists ≡ stock_lists (drop l.at l.season.stores);
  within : l.rest < l.lists;
  read : get_or (all_stocks l.season.stores) l.index [] ≡ take l.at l.stocks ++ get_or (all_stocks (drop l.at l.season.stores)) l.rest [];
}
