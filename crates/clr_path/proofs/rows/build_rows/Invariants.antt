use Rattle.std.proofs.Common.{◌≡◌, ◌+◌, length}
use Rattle.clr_path.specs.Flat.{AreRows}
use Rattle.clr_path.proofs.rows.build_rows.Given as goal

abbrev pub invariant-loop-back : goal.invariant-loop-back
invariant-loop-back g l = record {
  row : length l.row.items ≡ l.width;
  rows : AreRows g.R.Direction.quotient l.season l.store l.path (length l.path) l.width (l.back + 1) l.values.items;
}
