use Rattle.std.proofs.Common.{◌≡◌, ◌≤◌, ◌+◌, ℕ, sym, subst, arith, refl}
use Rattle.clr_check.specs.Rows.{AreRowsOf}
use Rattle.clr_check.proofs.Shapes.{rows_more}
use Rattle.clr_check.proofs.tables.even_rows.Goals as goal

pub loop-preserved : goal.loop-preserved
loop-preserved c most = subst (AreRowsOf (c.loop.counter + 1) _ most) (sym c.in_ok-push.ensures) (rows_more c.loop.counter c.args.len _ most c.loop.rows refl (c.loop.invariant most))

pub returns : goal.returns
returns c most = subst (λ n. AreRowsOf n (λ row. c.args.len) most c.loop.rows) (same c.loop.counter c.args.count (omega arith) (omega (arith, c.loop-test.false))) (c.loop.invariant most)
  where
    same : (a b : ℕ) → a ≤ b → b ≤ a → a ≡ b
    same a b p q = omega arith
