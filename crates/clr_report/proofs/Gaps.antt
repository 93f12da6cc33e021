-- The gap between two amounts fits its type.
use Rattle.std.proofs.Common.{ℤ, pos, neg_ℤ, ◌-◌, ◌^◌, ◌-ℤ◌, ◌≤ℤ◌, SFits, arith}
use mir.Syntax.{w128}
use Rattle.clr_average.specs.Average.{IsWithin}
use Rattle.clr_average.proofs.Reading.{within_128}
use Rattle.clr_average.proofs.Ring.{linear}
use Rattle.clr_average.proofs.Within.{within_more}

pub gap_within : (bound low : ℤ) → IsWithin 100000000000000000000 bound → IsWithin 100000000000000000000 low → IsWithin 200000000000000000000 (bound -ℤ low)
gap_within bound low h k =
    let from : neg_ℤ (pos 100000000000000000000) ≤ℤ bound = h.low in
    let to : bound ≤ℤ pos 100000000000000000000 = h.high in
    let least : neg_ℤ (pos 100000000000000000000) ≤ℤ low = k.low in
    let most : low ≤ℤ pos 100000000000000000000 = k.high in
    record { low = omega (arith, linear); high = omega (arith, linear) }

pub gap_fits : (bound low : ℤ) → IsWithin 100000000000000000000 bound → IsWithin 100000000000000000000 low → SFits w128 (bound -ℤ low)
gap_fits bound low h k = within_128 (bound -ℤ low) (within_more 200000000000000000000 (2 ^ 127 - 1) (bound -ℤ low) (gap_within bound low h k) (omega arith))
