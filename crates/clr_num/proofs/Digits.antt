-- The digits that a marked number has after its first, and the padded ones.
use Rattle.std.proofs.Common.{◌≡◌, ℕ, ◌+◌, ◌*◌, ◌/◌, ◌%◌, ◌^◌, ◌<◌, zero, suc, [], ◌∷◌, ◌++◌, drop, decimal, ap, ◌∙◌, arith}
use Rattle.std.proofs.lemmas.Fmt.{decimal_digit, decimal_step}
use Rattle.std.proofs.Math.Nat.{pow-succ'}
use Rattle.clr_num.specs.Money.{padded}

-- a 1 before so many digits
pub decimal-marked : (count n : ℕ) → 10 ^ count + n < 2 ^ 64 → n < 10 ^ count → decimal (10 ^ count + n) ≡ 49 ∷ padded count n
unfolding padded
decimal-marked zero n fits below = let e : 10 ^ 0 + n ≡ 1 = omega arith in rw e (decimal_digit 1 (omega arith))
decimal-marked (suc count) n fits below =
    let power : 10 ^ suc count ≡ 10 * 10 ^ count = pow-succ' 10 count in
    let front : (10 ^ suc count + n) / 10 ≡ 10 ^ count + n / 10 = omega arith in
    let last : (10 ^ suc count + n) % 10 ≡ n % 10 = omega arith in
    let rest : decimal (10 ^ count + n / 10) ≡ 49 ∷ padded count (n / 10) = decimal-marked count (n / 10) (omega arith) (omega arith) in
    decimal_step (10 ^ suc count + n) (omega arith) fits ∙ (ap (λ t. decimal t ++ (48 + (10 ^ suc count + n) % 10) ∷ []) front ∙ (ap (λ t. t ++ (48 + (10 ^ suc count + n) % 10) ∷ []) rest ∙ ap (λ t. (49 ∷ padded count (n / 10)) ++ (48 + t) ∷ []) last))

-- eight digits after a 1, and two
pub marked_units : (n : ℕ) → drop 1 (decimal (100000000 + n % 100000000)) ≡ padded 8 (n % 100000000)
marked_units n = ap (λ t. drop 1 t) (decimal-marked 8 (n % 100000000) (omega arith) (omega arith))

pub marked_cents : (n : ℕ) → drop 1 (decimal (100 + n % 100)) ≡ padded 2 (n % 100)
marked_cents n = ap (λ t. drop 1 t) (decimal-marked 2 (n % 100) (omega arith) (omega arith))
