use Rattle.std.proofs.Common.{◌≡◌, ◌∙◌, ◌≤◌, ◌+◌, ◌*◌, ◌/◌, ℕ, sym, ap, subst, arith, length}
use Rattle.clr_season.specs.Season.{store_at}
use Rattle.clr_check.specs.Rows.{AreRowsOf}
use Rattle.clr_check.specs.Standing.{row_store, stock_count}
use Rattle.clr_check.proofs.Shapes.{rows_more}
use Rattle.clr_check.proofs.tables.store_rows.Goals as goal

pub loop-row-preserved : goal.loop-row-preserved
loop-row-preserved c most =
    let store : c.loop-row.row / 2 + 1 ≡ row_store c.loop-row.row = omega arith in
    let stocks : c.stock.result + 1 ≡ stock_count c.args.season.now (row_store c.loop-row.row) = (let e : c.stock.result ≡ (store_at c.args.season.now (row_store c.loop-row.row)).units = c.stock.ensures.value ∙ ap (λ n. (store_at c.args.season.now n).units) store in omega (arith, e)) in
    subst (AreRowsOf (c.loop-row.row + 1) _ most) (sym c.in_ok-push.ensures) (rows_more c.loop-row.row (c.args.each * (c.stock.result + 1)) _ most c.loop-row.rows (ap (λ n. c.args.each * n) (sym stocks)) (c.loop-row.invariant most))

pub returns : goal.returns
returns c most = subst (λ n. AreRowsOf n (λ row. c.args.each * stock_count c.args.season.now (row_store row)) most c.loop-row.rows) (same c.loop-row.row (2 * length c.args.season.now.stores) (omega (arith, c.stores-row-end.ensures.value)) (omega (arith, c.loop-row-test.false, c.stores-row-end.ensures.value))) (c.loop-row.invariant most)
  where
    same : (a b : ℕ) → a ≤ b → b ≤ a → a ≡ b
    same a b p q = omega arith
