use Rattle.std.proofs.Common.{◌≡◌, map}
use Rattle.clr_num.specs.Lists.{numbers}
use Rattle.clr_path.specs.Tables.{store_rows}
use Rattle.clr_path.proofs.table.PathTable.build.Given as goal

abbrev pub invariant-loop-index : goal.invariant-loop-index
invariant-loop-index g l = l.stores.items ≡ map (store_rows g.R.Direction.quotient l.season l.path) (numbers 1 l.index)
