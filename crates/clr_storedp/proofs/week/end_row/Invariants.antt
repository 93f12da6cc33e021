use Rattle.std.proofs.Common.{◌≡◌, ℕ, ◌<◌, pos, ◌*◌, length, get_or}
use Rattle.clr_storedp.proofs.week.end_row.Given as goal

abbrev pub invariant-loop-stock : goal.invariant-loop-stock
invariant-loop-stock l = record {
  size : length l.row.items ≡ l.stock;
  values : (k : ℕ) → k < l.stock → get_or l.row.items k (pos 0) ≡ pos (l.unit * k);
}
