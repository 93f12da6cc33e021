use Rattle.std.proofs.Common.{ℕ}
use Rattle.clr_check.specs.Rows.{AreRowsOf}
use Rattle.clr_check.proofs.tables.even_rows.Given as goal

abbrev pub invariant-loop : goal.invariant-loop
invariant-loop l = (most : ℕ) → AreRowsOf l.counter (λ row. l.len) most l.rows
