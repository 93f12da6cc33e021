use Rattle.std.proofs.Common.{◌+◌, ◌-◌, ◌*◌, length}
use Rattle.clr_policy.proofs.Folds.{AreFolded}
use Rattle.clr_policy.proofs.stock_lists.+stores.Given as goal

abbrev pub decreases-weigh_stores : goal.decreases-weigh_stores
decreases-weigh_stores l = 3 * (length l.season.now.stores + 1 - l.store) + 2

abbrev pub decreases-weigh_rows : goal.decreases-weigh_rows
decreases-weigh_rows l = 3 * (length l.season.now.stores + 1 - l.store) + 1

abbrev pub decreases-weigh_row : goal.decreases-weigh_row
decreases-weigh_row l = 3 * (length l.season.now.stores + 1 - l.store)

abbrev pub invariant-weigh_rows-loop-stock : goal.invariant-weigh_rows-loop-stock
invariant-weigh_rows-loop-stock l = AreFolded l.season l.week l.store l.width l.stock l.initial.values l.values
