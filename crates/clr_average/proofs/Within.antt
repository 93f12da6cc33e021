-- Sizes of sums, products and quotients.
use Rattle.std.proofs.Common.{◌≡◌, ℕ, zero, suc, ◌+◌, ◌-◌, ◌*◌, ◌^◌, ◌≤◌, ◌<◌, ℤ, pos, negsuc, neg_ℤ, ◌+ℤ◌, ◌*ℤ◌, ◌≤ℤ◌, ◌<ℤ◌, List, length, get_or, arith, ap, sym, ◌∙◌, mul_comm, add-mul, SFits}
use Rattle.std.proofs.lemmas.Int.{ints, by_lt_z}
use mir.Syntax.{w64}
use Rattle.clr_num.specs.Direction.{IsDirection}
use Rattle.clr_average.proofs.Ring.{linear, scale_le, scale_le_right, add_mul, mul_add}
use Rattle.clr_average.specs.Average.{IsWithin, mass, near}

pub within_64 : (z : ℤ) (limit : ℕ) → limit < 2 ^ 63 → IsWithin limit z → SFits w64 z
within_64 (pos a) limit top h = let p : pos a ≤ℤ pos limit = h.high in record { sfits = omega (arith, ints) }
within_64 (negsuc a) limit top h = let p : neg_ℤ (pos limit) ≤ℤ negsuc a = h.low in record { sfits = omega (arith, ints) }

pub within_more : (a b : ℕ) (x : ℤ) → IsWithin a x → a ≤ b → IsWithin b x
within_more a b x h le = let low : neg_ℤ (pos a) ≤ℤ x = h.low in let high : x ≤ℤ pos a = h.high in record { low = omega (arith, linear); high = omega (arith, linear) }

pub within_sum : (a b : ℕ) (x y : ℤ) → IsWithin a x → IsWithin b y → IsWithin (a + b) (x +ℤ y)
within_sum a b x y h k =
    let low : neg_ℤ (pos a) ≤ℤ x = h.low in let high : x ≤ℤ pos a = h.high in
    let below : neg_ℤ (pos b) ≤ℤ y = k.low in let top : y ≤ℤ pos b = k.high in
    record { low = omega (arith, linear); high = omega (arith, linear) }

pub within_pos : (a n : ℕ) → n ≤ a → IsWithin a (pos n)
within_pos a n le = record { low = omega (arith, linear); high = omega (arith, linear) }

pub within_product : (w reach : ℕ) (x : ℤ) → IsWithin reach x → IsWithin (w * reach) (pos w *ℤ x)
within_product w reach x h =
    let low : (pos w *ℤ neg_ℤ (pos reach)) ≤ℤ (pos w *ℤ x) = scale_le w (neg_ℤ (pos reach)) x h.low in
    let high : (pos w *ℤ x) ≤ℤ pos (w * reach) = scale_le w x (pos reach) h.high in
    let turn : pos w *ℤ neg_ℤ (pos reach) +ℤ pos (w * reach) ≡ pos 0 = opposite w reach in
    record { low = omega (arith, linear); high = high }
  where
    none : (n : ℕ) → neg_ℤ (pos n) +ℤ pos n ≡ pos 0
    none n = omega (arith, linear)

    zeros : (w : ℕ) → pos w *ℤ pos 0 ≡ pos 0
    zeros w = ap pos (omega arith)

    opposite : (w reach : ℕ) → pos w *ℤ neg_ℤ (pos reach) +ℤ pos (w * reach) ≡ pos 0
    opposite w reach = sym (mul_add (pos w) (neg_ℤ (pos reach)) (pos reach)) ∙ (ap (λ t. pos w *ℤ t) (none reach) ∙ zeros w)

pub near_within : (weights : List ℕ) (after : List ℤ) (stock reach count : ℕ) → ((k : ℕ) → k < length after → IsWithin reach (get_or after k (pos 0))) → stock < length after →
    IsWithin (mass weights count * reach) (near weights after stock count)
near_within weights after stock reach zero h lt = within_pos (0 * reach) 0 (omega arith)
near_within weights after stock reach (suc count) h lt =
    rw (add-mul (mass weights count) (get_or weights count 0) reach)
    (within_sum (mass weights count * reach) (get_or weights count 0 * reach) (near weights after stock count) (pos (get_or weights count 0) *ℤ get_or after (stock - count) (pos 0)) (near_within weights after stock reach count h lt)
    (within_product (get_or weights count 0) reach (get_or after (stock - count) (pos 0)) (h (stock - count) (omega arith))))

-- ---- averages, rounded in a direction

module _ (leans : ℤ → ℤ → Type 0) (div : ℤ → ℕ → ℤ) (laws : IsDirection leans div) where
  parts : (base size : ℕ) → (size + 1) * base ≡ base * size + base
  parts base size = add-mul size 1 base ∙ ap (λ t. t + 1 * base) (mul_comm size base) ∙ ap (λ t. base * size + t) (omega arith)

  -- an average of numbers that are at most a whole number is at most it
  pub quotient_high : (n : ℤ) (base size : ℕ) → 1 ≤ base → n ≤ℤ pos (base * size) → div n base ≤ℤ pos size
  quotient_high n base size some most = by_lt_z (pos size) (div n base) (λ lt. too_high (div n base) (laws.below n base some) most (omega (arith, linear))) (λ le. le)
    where
      too_high : (q : ℤ) → (q *ℤ pos base) <ℤ (n +ℤ pos base) → n ≤ℤ pos (base * size) → pos (size + 1) ≤ℤ q → q ≤ℤ pos size
      too_high q b m lt =
          let scaled : pos ((size + 1) * base) ≤ℤ (q *ℤ pos base) = scale_le_right base (pos (size + 1)) q lt in
          let split : (size + 1) * base ≡ base * size + base = parts base size in
          absurd (omega (arith, linear))

  -- of numbers that are at least one, at least it
  pub quotient_low : (n : ℤ) (base size : ℕ) → 1 ≤ base → neg_ℤ (pos (base * size)) ≤ℤ n → neg_ℤ (pos size) ≤ℤ div n base
  quotient_low n base size some least = by_lt_z (div n base) (neg_ℤ (pos size)) (λ lt. too_low (div n base) (laws.above n base some) least (omega (arith, linear))) (λ le. le)
    where
      too_low : (q : ℤ) → n <ℤ (q *ℤ pos base +ℤ pos base) → neg_ℤ (pos (base * size)) ≤ℤ n → (q +ℤ pos (size + 1)) ≤ℤ pos 0 → neg_ℤ (pos size) ≤ℤ q
      too_low q a l le =
          let scaled : ((q +ℤ pos (size + 1)) *ℤ pos base) ≤ℤ pos (0 * base) = scale_le_right base (q +ℤ pos (size + 1)) (pos 0) le in
          let split : (q +ℤ pos (size + 1)) *ℤ pos base ≡ q *ℤ pos base +ℤ pos ((size + 1) * base) = add_mul q (pos (size + 1)) (pos base) in
          let count : (size + 1) * base ≡ base * size + base = parts base size in
          let e : pos ((size + 1) * base) ≡ pos (base * size) +ℤ pos base = ap pos count in
          absurd (omega (arith, linear))

  -- an average is no larger than what is averaged
  pub within_quotient : (n : ℤ) (base size : ℕ) → 1 ≤ base → IsWithin (base * size) n → IsWithin size (div n base)
  within_quotient n base size some h = record { low = quotient_low n base size some h.low; high = quotient_high n base size some h.high }
