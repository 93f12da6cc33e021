-- How large small powers are.
use Rattle.std.proofs.Common.{ℕ, ◌≤◌, ◌^◌, ◌*◌, arith, mul-le-mul}
use Rattle.std.proofs.Math.Nat.{pow-le-pow_left, pow-le-pow_right}

small-power : (12 ^ 16) ≤ (10 ^ 18)
small-power = omega arith

pub power-fits : (base stores weeks : ℕ) → base ≤ 12 → stores ≤ 2 → weeks ≤ 8 → (base ^ (stores * weeks)) ≤ (10 ^ 18)
power-fits base stores weeks low few short =
    let places : stores * weeks ≤ 16 = mul-le-mul few short in
    let wide : (base ^ (stores * weeks)) ≤ (12 ^ (stores * weeks)) = pow-le-pow_left low (stores * weeks) in
    let long : (12 ^ (stores * weeks)) ≤ (12 ^ 16) = pow-le-pow_right (omega arith) places in
    let top = small-power in
    omega (arith, wide, long, top)
