use Rattle.std.proofs.Common.{arith, to_z}
use mir.Syntax.{w128}
use Rattle.clr_check.proofs.Sides.{mults_more}
use Rattle.clr_check.proofs.heads.mult_fault.Goals as goal

pub loop-mult-preserved : goal.loop-mult-preserved
loop-mult-preserved c =
    let more = mults_more c.args.mults.now c.loop-mult.mult-index (to_z w128 c.loop-mult.sum-bits) (c.requires.small c.loop-mult.mult-index c.loop-mult-test.true) (omega (arith, c.requires.few, c.loop-mult-test.true)) c.loop-mult.invariant.sum c.loop-mult.invariant.size in
    record { sum = more.0; size = more.1 }
