use Rattle.std.proofs.Common.{arith, pos}
use Rattle.clr_average.proofs.Within.{within_pos}
use Rattle.clr_check.proofs.Holding.{rung_number}
use Rattle.clr_check.proofs.Sides.{read_128}
use Rattle.clr_check.proofs.keeping.short_rung.Goals as goal

pub overflow_cast-result : goal.overflow_cast-result
overflow_cast-result c =
    let r = rung_number 12 c.args.number c.requires.low c.requires.high in
    rw (r.1.0, read_128 (pos r.0) 12 (within_pos 12 r.0 r.1.1.1) (omega arith)) (tt, record { fits = omega (arith, r.1.1.1) })
