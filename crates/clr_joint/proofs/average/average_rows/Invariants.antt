use Rattle.std.proofs.Common.{pos}
use Rattle.clr_rows.specs.Rows.{AreRows, AreWithin}
use Rattle.clr_joint.specs.BySummary.{average_into, by_place}
use Rattle.clr_joint.proofs.average.average_rows.Given as goal

abbrev pub invariant-loop-place : goal.invariant-loop-place
invariant-loop-place g l = record {
  rows : AreRows (pos 0) l.width l.list l.place (by_place l.season (average_into g.R.Direction.quotient l.season l.done)) l.rows.items;
  within : AreWithin 2000000000000000000 l.rows.items;
}
