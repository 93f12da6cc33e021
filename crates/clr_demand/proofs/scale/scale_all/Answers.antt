use Rattle.std.proofs.Common.{◌≡◌, ◌≤◌, ◌+◌, ◌-◌, ◌*◌, ◌/◌, length, arith}
use Rattle.std.proofs.lemmas.Nat.{mul-le, div-add-mod'}
use Rattle.clr_demand.proofs.ScaleLemmas.{scaled-more}
use Rattle.clr_demand.proofs.scale.scale_all.Goals as goal

pub loop-row-preserved : goal.loop-row-preserved
loop-row-preserved c =
    let row = c.loop-row.row in
    let width = c.args.width in
    let same : (row + 1) * width - row * width ≡ width = omega arith in
    let part : (row + 1) * width ≤ length c.args.weights.now / width * width = mul-le (row + 1) width (length c.args.weights.now / width) width (omega (arith, c.loop-row-test.true)) (omega arith) in
    let fits : (row + 1) * width ≤ length c.loop-row.weights = omega (arith, part, div-add-mod' (length c.args.weights.now) width, c.loop-row.auto.weights) in
    let is = rw same at c.scale_row.ensures in
    scaled-more c.args.base width row ((row + 1) * width - row * width) c.args.weights.now c.loop-row.weights c.scale_row.new.row same fits c.loop-row.invariant is
