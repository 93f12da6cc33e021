use Rattle.std.proofs.Common.{◌≡◌, ◌+◌, ◌-◌, ◌*◌, ◌≤◌, ◌<◌, length, arith, subst, sym, ap, ◌∙◌}
use Rattle.clr_mult.proofs.RowLemmas.{cut_row, length-row_at, row_end, rows_more}
use Rattle.clr_mult.proofs.rows.step_rows.Goals as goal

pub loop-row-preserved : goal.loop-row-preserved
loop-row-preserved c =
    let width : c.loop-row.row * c.args.stores + c.args.stores - c.loop-row.row * c.args.stores ≡ c.args.stores = omega arith in
    let inside : c.loop-row.row * c.args.stores + c.args.stores ≤ length c.loop-row.entries = omega (arith, row_end c.args.stores c.args.rows c.loop-row.row c.loop-row-test.true, c.requires.count, c.loop-row.auto.entries) in
    let size : length c.step_row.new.row ≡ c.args.stores
    = c.step_row.auto.row ∙ (ap length (cut_row c.args.stores c.loop-row.row c.loop-row.entries) ∙ length-row_at c.args.stores c.args.rows c.loop-row.row c.loop-row.entries (c.loop-row.auto.entries ∙ c.requires.count) c.loop-row-test.true) in
    rows_more c.args.q c.args.stores c.loop-row.row _ c.args.usage.now _ c.args.entries.now c.loop-row.entries _ c.step_row.new.row width
    (cut_row c.args.stores c.loop-row.row c.args.usage.now) (cut_row c.args.stores c.loop-row.row c.loop-row.entries) size inside
    (λ i p. c.step_row.ensures i (subst (λ n. i < n) (sym size) p)) c.loop-row.invariant
