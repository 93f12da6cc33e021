use Rattle.std.proofs.Common.{◌∙◌, sym, ap, pos, ◌*◌, ◌++◌}
use Rattle.clr_policy.specs.StockLists.{rows_of, with_more}
use Rattle.clr_policy.proofs.Ends.{rows_more}
use Rattle.clr_policy.proofs.values.rows_at_end.Goals as goal

pub loop-units-preserved : goal.loop-units-preserved
loop-units-preserved c =
    c.in_ok-push_row.ensures ∙ (ap (λ list. list ++ with_more c.args.after.now (pos (c.args.unit * c.from.result))) c.loop-units.invariant
    ∙ (ap (λ n. rows_of c.args.unit c.args.after.now c.loop-units.units ++ with_more c.args.after.now (pos (c.args.unit * n))) c.from.ensures ∙ sym (rows_more c.args.unit c.loop-units.units c.args.after.now)))
