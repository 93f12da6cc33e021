use Rattle.std.proofs.Common.{◌≡◌, ◌+◌, ◌-◌, ◌<◌, ℤ, List, subst, arith, length, take, drop, suc}
use Rattle.clr_cert.specs.Entries.{most_mult}
use Rattle.clr_check.specs.Rows.{AreSmall, IsPut}
use Rattle.clr_check.specs.Standing.{mult_row}
use Rattle.clr_check.proofs.Apart.{put_rows}
use Rattle.clr_check.proofs.Holding.{mult_row_is, mults_more, one_number}
use Rattle.clr_check.proofs.keeping.keep_mults.Goals as goal

pub loop-index-preserved : goal.loop-index-preserved
loop-index-preserved c =
    let inside : c.loop-index.index < length c.args.numbers.now = omega (arith, c.loop-index-test.true, c.stores-index-end.ensures.value, c.requires.count) in
    let piece : List ℤ = take (c.loop-index.index + 1 - c.loop-index.index) (drop c.loop-index.index c.args.numbers.now) in
    let one = one_number c.args.numbers.now c.loop-index.index inside in
    let row : c.mult_row-row.result ≡ mult_row c.args.season.now (suc c.loop-index.index) c.args.week = mult_row_is c.args.season.now c.loop-index.index c.args.week c.mult_row-row.result c.mult_row-row.ensures.value in
    let small : AreSmall most_mult piece = one.1.1 most_mult (c.requires.small c.loop-index.index inside) in
    record {
      rows = put_rows _ _ most_mult c.loop-index.rows c.put.new.self c.mult_row-row.result (c.args.rung - 1) piece c.loop-index.invariant.rows small c.put.ensures;
      kept = mults_more c.args.season.now c.args.week c.args.rung c.loop-index.index c.args.numbers.now piece c.args.rows.now c.loop-index.rows c.put.new.self c.requires.place.first_week c.requires.place.last_week c.loop-index.invariant.kept (subst (λ r. IsPut c.loop-index.rows r (c.args.rung - 1) piece c.put.new.self) row c.put.ensures) one.0 one.1.0;
    }
