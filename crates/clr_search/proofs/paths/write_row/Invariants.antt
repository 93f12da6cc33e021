use Rattle.std.proofs.Common.{◌≡◌, ℕ, ◌<◌, pos, get_or}
use Rattle.clr_search.proofs.paths.write_row.Given as goal

abbrev pub invariant-loop-stock : goal.invariant-loop-stock
invariant-loop-stock l = (k : ℕ) → k < l.stock → get_or l.rows.after.items k (pos 0) ≡ get_or l.row k (pos 0)
