-- Sums of the first values of a function.
use Rattle.std.proofs.Common.{◌≡◌, ℕ, ◌+◌, ◌*◌, ◌<◌, ◌≤◌, min, ℤ, pos, ◌+ℤ◌, ◌-ℤ◌, ◌*ℤ◌, refl, sym, ap, ap₂, ◌∙◌, arith, suc, zero, List, [], ◌∷◌, length, map, get_or, sum, nat_lt, if◌then◌else◌}
use Rattle.std.proofs.lemmas.Bool.Decides.{nat_tests}
use Rattle.std.proofs.lemmas.List.Sums.{sum_by-cons}
use Rattle.std.proofs.lemmas.Int.{ints}
use borrow.Author.Differences.{up, down, same_out, same_in, lt_out, le_out, below_in, at_most_in, sum_is_lem, neg_is}
use lib.IntN.{*ℤ_comm, *ℤ-zero}
use Rattle.clr_num.specs.Lists.{numbers}
use Rattle.clr_num.specs.Sums.{sum_of}

pub ruleset linear = (same_out, same_in, lt_out, le_out, below_in, at_most_in, sum_is_lem, neg_is)

sum-cons : (x : ℕ) (xs : List ℕ) → sum (x ∷ xs) ≡ x + sum xs
sum-cons x xs = sum_by-cons (λ y. y) x xs

-- a sum of so many numbers, none greater than the most
pub sum_le : (xs : List ℕ) (most : ℕ) → ((i : ℕ) → i < length xs → get_or xs i 0 ≤ most) → sum xs ≤ length xs * most
sum_le [] most h = omega arith
sum_le (x ∷ xs) most h =
    let here : x ≤ most = h 0 (omega arith) in
    let rest : sum xs ≤ length xs * most = sum_le xs most (λ i p. h (suc i) (omega arith)) in
    let e : suc (length xs) * most ≡ most + length xs * most = omega arith in
    omega (arith, sum-cons x xs)

pub sum_of-same : (n : ℕ) (f g : ℕ → ℤ) → ((i : ℕ) → i < n → f i ≡ g i) → sum_of n f ≡ sum_of n g
sum_of-same zero f g h = refl
sum_of-same (suc n) f g h = ap₂ ◌+ℤ◌ (h 0 (omega arith)) (sum_of-same n (λ i. f (suc i)) (λ i. g (suc i)) (λ i p. h (suc i) (omega arith)))

pub sum_of-sub : (n : ℕ) (f g : ℕ → ℤ) → sum_of n (λ i. f i -ℤ g i) ≡ sum_of n f -ℤ sum_of n g
sum_of-sub zero f g = refl
sum_of-sub (suc n) f g =
    let rest : sum_of n (λ i. f (suc i) -ℤ g (suc i)) ≡ sum_of n (λ i. f (suc i)) -ℤ sum_of n (λ i. g (suc i)) = sum_of-sub n (λ i. f (suc i)) (λ i. g (suc i)) in
    omega (arith, linear)

add_mul : (a b c : ℤ) → (a +ℤ b) *ℤ c ≡ a *ℤ c +ℤ b *ℤ c
add_mul a b c = omega (arith, ints, ap (λ t. t * up c) (sum_is_lem a b), ap (λ t. t * down c) (sum_is_lem a b))

mul_add : (a b c : ℤ) → a *ℤ (b +ℤ c) ≡ a *ℤ b +ℤ a *ℤ c
mul_add a b c = *ℤ_comm a (b +ℤ c) ∙ add_mul b c a ∙ (ap (λ t. t +ℤ c *ℤ a) (*ℤ_comm b a) ∙ ap (λ t. a *ℤ b +ℤ t) (*ℤ_comm c a))

pub sum_of-scale : (n : ℕ) (c : ℤ) (f : ℕ → ℤ) → sum_of n (λ i. c *ℤ f i) ≡ c *ℤ sum_of n f
sum_of-scale zero c f = sym (*ℤ-zero c)
sum_of-scale (suc n) c f = ap (λ t. c *ℤ f 0 +ℤ t) (sum_of-scale n c (λ i. f (suc i))) ∙ sym (mul_add c (f 0) (sum_of n (λ i. f (suc i))))

-- sums that stay zero: numbers that sum to zero, less a multiple of others that do
pub sum_of-moved : (n : ℕ) (q : ℤ) (old new direction : ℕ → ℤ) → sum_of n old ≡ pos 0 → sum_of n direction ≡ pos 0 → ((i : ℕ) → i < n → new i ≡ old i -ℤ q *ℤ direction i) → sum_of n new ≡ pos 0
sum_of-moved n q old new direction before none is =
    sum_of-same n new (λ i. old i -ℤ q *ℤ direction i) is
    ∙ (sum_of-sub n old (λ i. q *ℤ direction i) ∙ ap₂ ◌-ℤ◌ before (sum_of-scale n q direction ∙ (ap (λ t. q *ℤ t) none ∙ *ℤ-zero q)))

sum_of_more : (n : ℕ) (f : ℕ → ℤ) → sum_of (suc n) f ≡ sum_of n f +ℤ f n
sum_of_more zero f = omega (arith, linear)
sum_of_more (suc n) f =
    let rest : sum_of (suc n) (λ i. f (suc i)) ≡ sum_of n (λ i. f (suc i)) +ℤ f (suc n) = sum_of_more n (λ i. f (suc i)) in
    omega (arith, linear)

-- the sum of a list of a function's values
pub sum_of-numbers : (n from : ℕ) (f : ℕ → ℕ) → sum_of n (λ i. pos (f (from + i))) ≡ pos (sum (map f (numbers from n)))
sum_of-numbers zero from f = refl
sum_of-numbers (suc n) from f =
    let none : from + 0 ≡ from = omega arith in
    let rest : sum_of n (λ i. pos (f (from + suc i))) ≡ sum_of n (λ i. pos (f (suc from + i)))
    = sum_of-same n (λ i. pos (f (from + suc i))) (λ i. pos (f (suc from + i))) (λ i p. let e : from + suc i ≡ suc from + i = omega arith in ap (λ k. pos (f k)) e) in
    ap₂ (λ k t. pos (f k) +ℤ t) none (rest ∙ sum_of-numbers n (suc from) f) ∙ ap pos (sym (sum-cons (f from) (map f (numbers (suc from) n))))

pub sum_of-constant : (n m : ℕ) → sum_of n (λ i. pos m) ≡ pos (n * m)
sum_of-constant zero m = let e : 0 * m ≡ 0 = omega arith in ap pos (sym e)
sum_of-constant (suc n) m = let e : suc n * m ≡ m + n * m = omega arith in ap (λ t. pos m +ℤ t) (sum_of-constant n m) ∙ ap pos (sym e)

one_more : (n k : ℕ) → min n k + (if nat_lt n k then 1 else 0) ≡ min (suc n) k
one_more n k = grind (arith, nat_tests)

-- one for each of the first k
pub sum_of-first : (n k : ℕ) → sum_of n (λ i. pos (if nat_lt i k then 1 else 0)) ≡ pos (min n k)
sum_of-first zero k = let e : min 0 k ≡ 0 = omega arith in ap pos (sym e)
sum_of-first (suc n) k =
    sum_of_more n (λ i. pos (if nat_lt i k then 1 else 0))
    ∙ (ap (λ t. t +ℤ pos (if nat_lt n k then 1 else 0)) (sum_of-first n k) ∙ ap pos (one_more n k))
