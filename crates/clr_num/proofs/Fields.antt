-- Where a text is cut: a field whose bytes are all above a separator ends at the first separator.
use Rattle.std.proofs.Common.{◌≡◌, ℕ, ◌+◌, ◌/◌, ◌%◌, ◌^◌, ◌<◌, ◌≤◌, List, [], ◌∷◌, ◌++◌, decimal, refl, sym, ap, ◌∙◌, arith, zero, suc}
use Rattle.std.specs.List.{AllByRecursion}
use Rattle.std.specs.Str.Parse.{digits_value}
use Rattle.std.proofs.lemmas.Fmt.{decimal_is_IsNumeral_wide, decimal_by_steps_wide, decimal_injective}
use Rattle.clr_num.specs.Money.{padded}
use Rattle.clr_num.proofs.Digits.{decimal-marked}

-- every byte is above the given one
abbrev pub Above : ℕ → List ℕ → Type 0
Above c xs = AllByRecursion (λ x. c < x) xs

pub above-append : (c : ℕ) (xs ys : List ℕ) → Above c xs → Above c ys → Above c (xs ++ ys)
above-append c [] ys p q = q
above-append c (x ∷ xs) ys p q = (p.0, above-append c xs ys p.1 q)

pub above_lower : (b c : ℕ) (xs : List ℕ) → b ≤ c → Above c xs → Above b xs
above_lower b c [] h p = tt
above_lower b c (x ∷ xs) h p = (omega (arith, p.0), above_lower b c xs h p.1)

-- two texts that are fields followed by one separator have the same field and the same rest
pub cut : (c s : ℕ) (xs us ys vs : List ℕ) → s ≤ c → Above c xs → Above c us → xs ++ s ∷ ys ≡ us ++ s ∷ vs → (xs ≡ us) × (ys ≡ vs)
cut c s [] [] ys vs h p q e = (refl, cc)
cut c s [] (u ∷ us) ys vs h p q e = let first : s ≡ u = cc in absurd (omega (arith, q.0))
cut c s (x ∷ xs) [] ys vs h p q e = let first : x ≡ s = cc in absurd (omega (arith, p.0))
cut c s (x ∷ xs) (u ∷ us) ys vs h p q e =
    let first : x ≡ u = cc in
    let rest : xs ++ s ∷ ys ≡ us ++ s ∷ vs = cc in
    let both = cut c s xs us ys vs h p.1 q.1 rest in
    (cc (first, both.0), both.1)

-- ---- numbers

pub above-decimal : (n : ℕ) → n < 10 ^ 64 → Above 47 (decimal n)
above-decimal n small = decimal_by_steps_wide (λ k ds. Above 47 ds) (λ k h. (omega arith, tt)) (λ k ds h p. above-append 47 ds ((48 + k % 10) ∷ []) p (omega arith, tt)) n small

pub decimal_wide_injective : (m n : ℕ) → m < 10 ^ 64 → n < 10 ^ 64 → decimal m ≡ decimal n → m ≡ n
decimal_wide_injective m n a b e = sym (decimal_is_IsNumeral_wide m a).1 ∙ (ap (λ t. digits_value 10 t) e ∙ (decimal_is_IsNumeral_wide n b).1)

pub padded_injective : (count m n : ℕ) → 10 ^ count + 10 ^ count < 2 ^ 64 → m < 10 ^ count → n < 10 ^ count → padded count m ≡ padded count n → m ≡ n
padded_injective count m n small a b e =
    let marked : decimal (10 ^ count + m) ≡ decimal (10 ^ count + n) = decimal-marked count m (omega arith) a ∙ (ap (λ t. 49 ∷ t) e ∙ sym (decimal-marked count n (omega arith) b)) in
    let same : 10 ^ count + m ≡ 10 ^ count + n = decimal_injective (10 ^ count + m) (10 ^ count + n) (omega arith) (omega arith) marked in
    omega arith

pub above-padded : (count n : ℕ) → Above 47 (padded count n)
unfolding padded
above-padded zero n = tt
above-padded (suc count) n = above-append 47 (padded count (n / 10)) ((48 + n % 10) ∷ []) (above-padded count (n / 10)) (omega arith, tt)
