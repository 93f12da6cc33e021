use Rattle.std.proofs.Common.{◌≡◌, ℕ, ◌<◌, pos, ◌*ℤ◌, get_or}
use Rattle.clr_model.specs.Revenue.{cent, salvage_cents}
use Rattle.clr_search.proofs.totals.write_salvage.Given as goal

abbrev pub invariant-loop-stock : goal.invariant-loop-stock
invariant-loop-stock l = (k : ℕ) → k < l.stock → get_or l.rows.after.items k (pos 0) ≡ pos cent *ℤ salvage_cents l.season l.store k
