use Rattle.std.proofs.Common.{◌≡◌, pos, length, get_or, ap, ◌∙◌, arith, rules, SFits, to_z, of_z}
use Rattle.std.proofs.lemmas.Int.{to_z-of_z}
use mir.Syntax.{w64}
use Rattle.clr_average.specs.Average.{row_weighed}
use Rattle.clr_average.proofs.Cells.{product_fits, sums_fit, far_fits, cell_fits, cell_sum, average_fits, gain_fits, earned_fits, earned_next, row_more, gain_read, start_tail, start_earned}
use Rattle.clr_average.proofs.row.average_row.Goals as goal

pub loop-stock-init : goal.loop-stock-init
loop-stock-init g c = record {
  tail = start_tail c.args.weights.now c.args.base c.requires.row.1.whole;
  earned = c.zero-earned.ensures ∙ start_earned c.args.gain c.args.weights.now (length c.args.weights.now);
  done = λ k h. absurd (omega arith);
}

pub plus_near-requires-clause-products : goal.plus_near-requires-clause-products
plus_near-requires-clause-products g c =
    product_fits g.A.Total.limit c.args.base c.args.gain c.requires.row.0 c.args.weights.now c.args.after.now c.requires.row.1 c.loop-stock.stock (omega (arith, c.requires.lengths, c.loop-stock-test.true))

pub plus_near-requires-clause-sums : goal.plus_near-requires-clause-sums
plus_near-requires-clause-sums g c =
    sums_fit g.A.Total.limit c.args.base c.args.gain c.requires.row.0 c.args.weights.now c.args.after.now c.requires.row.1 c.loop-stock.stock (g.A.Total.amount c.loop-stock.earned) (omega (arith, c.requires.lengths, c.loop-stock-test.true)) c.loop-stock.invariant.earned

pub plus-total-requires-clause-product : goal.plus-total-requires-clause-product
plus-total-requires-clause-product g c =
    let fits : SFits w64 (get_or c.args.after.now 0 (pos 0)) = search rules in
    far_fits g.A.Total.limit c.args.base c.args.gain c.requires.row.0 c.args.weights.now c.args.after.now c.requires.row.1 c.tail_after-tail.result c.loop-stock.stock (to_z w64 (of_z w64 (get_or c.args.after.now 0 (pos 0))))
    (omega (arith, c.requires.lengths, c.loop-stock-test.true)) (to_z-of_z w64 (get_or c.args.after.now 0 (pos 0)) fits) c.tail_after-tail.ensures

pub plus-total-requires-clause-sum : goal.plus-total-requires-clause-sum
plus-total-requires-clause-sum g c =
    let fits : SFits w64 (get_or c.args.after.now 0 (pos 0)) = search rules in
    cell_fits g.A.Total.limit c.args.base c.args.gain c.requires.row.0 c.args.weights.now c.args.after.now c.requires.row.1 c.tail_after-tail.result c.loop-stock.stock (g.A.Total.amount c.loop-stock.earned) (g.A.Total.amount c.plus_near.result) (to_z w64 (of_z w64 (get_or c.args.after.now 0 (pos 0))))
    (omega (arith, c.requires.lengths, c.loop-stock-test.true)) (to_z-of_z w64 (get_or c.args.after.now 0 (pos 0)) fits) c.tail_after-tail.ensures c.loop-stock.invariant.earned c.plus_near.ensures

pub average-requires : goal.average-requires
average-requires g c =
    let fits : SFits w64 (get_or c.args.after.now 0 (pos 0)) = search rules in
    let sum : g.A.Total.amount c.plus-total.result ≡ row_weighed c.args.weights.now c.args.gain c.args.after.now c.loop-stock.stock =
    c.plus-total.ensures ∙ cell_sum g.A.Total.limit c.args.base c.args.gain c.requires.row.0 c.args.weights.now c.args.after.now c.requires.row.1 c.tail_after-tail.result c.loop-stock.stock (g.A.Total.amount c.loop-stock.earned) (g.A.Total.amount c.plus_near.result) (to_z w64 (of_z w64 (get_or c.args.after.now 0 (pos 0))))
    (to_z-of_z w64 (get_or c.args.after.now 0 (pos 0)) fits) c.tail_after-tail.ensures c.loop-stock.invariant.earned c.plus_near.ensures in
    rw (c.new-divisor.ensures ∙ c.from.ensures) (average_fits g.A.Total.limit c.args.base c.args.gain c.requires.row.0 c.args.weights.now c.args.after.now c.requires.row.1 g.R.Direction.leans g.R.Direction.quotient g.met.R.Direction.laws c.loop-stock.stock (g.A.Total.amount c.plus-total.result) (omega (arith, c.requires.lengths, c.loop-stock-test.true)) sum)

pub plus-earned-requires-clause-product : goal.plus-earned-requires-clause-product
plus-earned-requires-clause-product g c =
    gain_fits g.A.Total.limit c.args.base c.args.gain c.requires.row.0 c.args.weights.now c.args.after.now c.requires.row.1 c.tail_after-tail.result c.loop-stock.stock (to_z w64 c.args.gain)
    (omega (arith, c.requires.lengths, c.loop-stock-test.true)) (gain_read g.A.Total.limit c.args.base c.args.gain c.requires.row.0 c.args.weights.now c.args.after.now c.requires.row.1 (omega (arith, c.requires.lengths, c.loop-stock-test.true))) c.tail_after-tail.ensures

pub plus-earned-requires-clause-sum : goal.plus-earned-requires-clause-sum
plus-earned-requires-clause-sum g c =
    earned_fits g.A.Total.limit c.args.base c.args.gain c.requires.row.0 c.args.weights.now c.args.after.now c.requires.row.1 c.tail_after-tail.result c.loop-stock.stock (g.A.Total.amount c.loop-stock.earned) (to_z w64 c.args.gain)
    (omega (arith, c.requires.lengths, c.loop-stock-test.true)) (gain_read g.A.Total.limit c.args.base c.args.gain c.requires.row.0 c.args.weights.now c.args.after.now c.requires.row.1 (omega (arith, c.requires.lengths, c.loop-stock-test.true))) c.tail_after-tail.ensures c.loop-stock.invariant.earned

pub loop-stock-preserved : goal.loop-stock-preserved
loop-stock-preserved g c =
    let fits : SFits w64 (get_or c.args.after.now 0 (pos 0)) = search rules in
    let sum : g.A.Total.amount c.plus-total.result ≡ row_weighed c.args.weights.now c.args.gain c.args.after.now c.loop-stock.stock =
    c.plus-total.ensures ∙ cell_sum g.A.Total.limit c.args.base c.args.gain c.requires.row.0 c.args.weights.now c.args.after.now c.requires.row.1 c.tail_after-tail.result c.loop-stock.stock (g.A.Total.amount c.loop-stock.earned) (g.A.Total.amount c.plus_near.result) (to_z w64 (of_z w64 (get_or c.args.after.now 0 (pos 0))))
    (to_z-of_z w64 (get_or c.args.after.now 0 (pos 0)) fits) c.tail_after-tail.ensures c.loop-stock.invariant.earned c.plus_near.ensures in
    let result_fits : SFits w64 c.average.result = search rules in
    record {
      tail = c.tail_after-tail.ensures;
      earned = c.plus-earned.ensures ∙ earned_next g.A.Total.limit c.args.base c.args.gain c.requires.row.0 c.args.weights.now c.args.after.now c.requires.row.1 c.tail_after-tail.result c.loop-stock.stock (g.A.Total.amount c.loop-stock.earned) (to_z w64 c.args.gain)
          (gain_read g.A.Total.limit c.args.base c.args.gain c.requires.row.0 c.args.weights.now c.args.after.now c.requires.row.1 (omega (arith, c.requires.lengths, c.loop-stock-test.true))) c.tail_after-tail.ensures c.loop-stock.invariant.earned;
      done = row_more c.loop-stock.out c.loop-stock.stock _ (λ k. g.R.Direction.quotient (row_weighed c.args.weights.now c.args.gain c.args.after.now k) c.args.base) (omega (arith, c.loop-stock.auto.out, c.loop-stock-test.true))
          (to_z-of_z w64 c.average.result result_fits ∙ (c.average.ensures ∙ (ap (λ b. g.R.Direction.quotient (g.A.Total.amount c.plus-total.result) b) (c.new-divisor.ensures ∙ c.from.ensures) ∙ ap (λ t. g.R.Direction.quotient t c.args.base) sum))) c.loop-stock.invariant.done;
    }
