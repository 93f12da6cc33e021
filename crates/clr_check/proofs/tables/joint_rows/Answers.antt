use Rattle.std.proofs.Common.{◌*◌, subst, IsTrue, IfOk}
use Rattle.clr_model.specs.Fits.{fits}
use Rattle.clr_check.specs.Rows.{AreRowsOf}
use Rattle.clr_check.proofs.Shapes.{ok_more}
use Rattle.clr_check.proofs.tables.joint_rows.Goals as goal

pub returns-then-fits : goal.returns-then-fits
returns-then-fits c most =
    subst (λ n. IfOk c.even_rows.result (λ rows. IsTrue (fits c.args.season.now) → AreRowsOf 2 (λ row. c.args.each * n) most rows)) c.lists_of_stocks.ensures.value
    (ok_more (AreRowsOf 2 (λ row. c.args.each * c.lists_of_stocks.result) most) (λ rows. IsTrue (fits c.args.season.now) → AreRowsOf 2 (λ row. c.args.each * c.lists_of_stocks.result) most rows) c.even_rows.result (λ rows h _. h) (c.even_rows.ensures most))
