use Rattle.std.proofs.Common.{ℕ, ◌*◌}
use Rattle.clr_check.specs.Rows.{AreRowsOf}
use Rattle.clr_check.specs.Standing.{row_store, stock_count}
use Rattle.clr_check.proofs.tables.store_rows.Given as goal

abbrev pub invariant-loop-row : goal.invariant-loop-row
invariant-loop-row l = (most : ℕ) → AreRowsOf l.row (λ row. l.each * stock_count l.season (row_store row)) most l.rows
