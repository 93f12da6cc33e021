use Rattle.std.proofs.Common.{◌≡◌, length}
use Rattle.clr_storedp.specs.Rows.{AreAverages}
use Rattle.clr_storedp.proofs.average.average_rows.Given as goal

abbrev pub invariant-loop-place : goal.invariant-loop-place
invariant-loop-place g l = record {
  row : length l.row.items ≡ l.width;
  rows : AreAverages g.R.Direction.quotient l.season l.store l.done l.width l.list l.after l.place l.rows.items;
}
