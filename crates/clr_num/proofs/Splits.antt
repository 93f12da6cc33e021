-- What a number's quotient and rest say of its quotients rounded down and up.
use Rattle.std.proofs.Common.{◌≡◌, ℕ, ◌*◌, ◌≤◌, Bool, true, false, ℤ, pos, neg_ℤ, ◌+ℤ◌, ◌-ℤ◌, ◌*ℤ◌, ◌≤ℤ◌, ◌<ℤ◌, refl, arith}
use lib.Signed.{lt_z}
use mir.Val.{bool_byte}
use Rattle.std.proofs.lemmas.Int.{ints}
use Rattle.clr_num.specs.Rounding.{floor, ceil, IsSplit}
use Rattle.clr_num.specs.DirectionLaws.{linear, neg_mul, add_mul, floor-above, floor-below, one_floor}

some : (base : ℕ) (rest : ℤ) → pos 0 ≤ℤ rest → rest <ℤ pos base → 1 ≤ base
some base rest low high = omega (arith, ints)

pub floor_of_split : (n : ℤ) (base : ℕ) (quotient rest : ℤ) → IsSplit n base quotient rest → quotient ≡ floor n base
floor_of_split n base quotient rest split =
    let one : 1 ≤ base = some base rest split.low split.high in
    one_floor quotient (floor n base) n base
    (let whole = split.whole in let low = split.low in omega (arith, linear))
    (let whole = split.whole in let high = split.high in omega (arith, linear))
    (floor-below n base one) (floor-above n base one)

-- a number and its negation, split
neg_split : (n : ℤ) (base : ℕ) (quotient rest : ℤ) → IsSplit n base quotient rest → rest ≡ pos 0 → IsSplit (neg_ℤ n) base (neg_ℤ quotient) (pos 0)
neg_split n base quotient rest split none = record {
  whole = let e : neg_ℤ quotient *ℤ pos base ≡ neg_ℤ (quotient *ℤ pos base) = neg_mul quotient (pos base) in let whole = split.whole in omega (arith, linear);
  low = omega (arith, ints);
  high = let low = split.low in let high = split.high in omega (arith, ints);
}

next_split : (n : ℤ) (base : ℕ) (quotient rest : ℤ) → IsSplit n base quotient rest → pos 0 <ℤ rest → IsSplit (neg_ℤ n) base (neg_ℤ (quotient +ℤ pos 1)) (pos base -ℤ rest)
next_split n base quotient rest split some = record {
  whole =
      let e : neg_ℤ (quotient +ℤ pos 1) *ℤ pos base ≡ neg_ℤ ((quotient +ℤ pos 1) *ℤ pos base) = neg_mul (quotient +ℤ pos 1) (pos base) in
      let d : (quotient +ℤ pos 1) *ℤ pos base ≡ quotient *ℤ pos base +ℤ pos (1 * base) = add_mul quotient (pos 1) (pos base) in
      let whole = split.whole in omega (arith, linear);
  low = let high = split.high in omega (arith, ints);
  high = omega (arith, ints);
}

pub ceil_of_split : (n : ℤ) (base : ℕ) (quotient rest : ℤ) → IsSplit n base quotient rest → quotient +ℤ pos (bool_byte (lt_z (pos 0) rest)) ≡ ceil n base
ceil_of_split n base quotient rest split = go (lt_z (pos 0) rest) refl
  where
    go : (b : Bool) → lt_z (pos 0) rest ≡ b → quotient +ℤ pos (bool_byte b) ≡ ceil n base
    go true t =
        let some : pos 0 <ℤ rest = omega (arith, ints) in
        let e : neg_ℤ (quotient +ℤ pos 1) ≡ floor (neg_ℤ n) base = floor_of_split (neg_ℤ n) base (neg_ℤ (quotient +ℤ pos 1)) (pos base -ℤ rest) (next_split n base quotient rest split some) in
        omega (arith, linear)
    go false t =
        let none : rest ≡ pos 0 = let low = split.low in omega (arith, ints) in
        let e : neg_ℤ quotient ≡ floor (neg_ℤ n) base = floor_of_split (neg_ℤ n) base (neg_ℤ quotient) (pos 0) (neg_split n base quotient rest split none) in
        omega (arith, linear)
