-- The text of an amount of money has the amount.
use Rattle.std.proofs.Common.{◌≡◌, ℕ, ◌+◌, ◌/◌, ◌%◌, ◌^◌, ◌<◌, ◌≤◌, Bool, true, false, List, [], ◌∷◌, ◌++◌, decimal, refl, sym, ap, ◌∙◌, subst, arith, ℤ, pos, negsuc, unsigned_abs, drop, suc, append_assoc}
use Rattle.std.proofs.lemmas.Int.{ints}
use Rattle.std.specs.Fmt.{sign_text}
use Rattle.std.specs.Int.{is_negative}
use Rattle.clr_num.specs.Money.{padded, money_text, cents_text, MoneyDetermines, CentsDetermine}
use Rattle.clr_num.proofs.Fields.{Above, above-append, above_lower, above-decimal, above-padded, cut, decimal_wide_injective, padded_injective}

-- a whole part, a point and so many digits
abbrev pointed : ℕ → ℕ → ℕ → List ℕ
pointed whole count part = decimal whole ++ 46 ∷ padded count part

not_negative : (n : ℕ) → is_negative (pos n) ≡ false
not_negative n = go (is_negative (pos n)) refl
  where
    go : (b : Bool) → is_negative (pos n) ≡ b → b ≡ false
    go true e = absurd (omega (arith, ints))
    go false e = refl

money_pos : (n : ℕ) → money_text (pos n) ≡ pointed (n / 100000000) 8 (n % 100000000)
money_pos n =
    let sign : sign_text (is_negative (pos n)) ≡ [] = ap sign_text (not_negative n) in
    ap (λ t. t ++ decimal (n / 100000000) ++ (46 ∷ []) ++ padded 8 (n % 100000000)) sign ∙ append_assoc (decimal (n / 100000000)) (46 ∷ []) (padded 8 (n % 100000000))

money_neg : (n : ℕ) → money_text (negsuc n) ≡ 45 ∷ pointed (suc n / 100000000) 8 (suc n % 100000000)
money_neg n = ap (λ t. 45 ∷ t) (append_assoc (decimal (suc n / 100000000)) (46 ∷ []) (padded 8 (suc n % 100000000)))

above-pointed : (whole count part : ℕ) → whole < 10 ^ 64 → Above 45 (pointed whole count part)
above-pointed whole count part small =
    above-append 45 (decimal whole) (46 ∷ padded count part) (above_lower 45 47 (decimal whole) (omega arith) (above-decimal whole small)) (omega arith, above_lower 45 47 (padded count part) (omega arith) (above-padded count part))

pointed_injective : (v w count m n : ℕ) → v < 10 ^ 64 → w < 10 ^ 64 → 10 ^ count + 10 ^ count < 2 ^ 64 → m < 10 ^ count → n < 10 ^ count → pointed v count m ≡ pointed w count n → (v ≡ w) × (m ≡ n)
pointed_injective v w count m n sv sw small sm sn e =
    let both = cut 46 46 (decimal v) (decimal w) (padded count m) (padded count n) (omega arith) (above_lower 46 47 (decimal v) (omega arith) (above-decimal v sv)) (above_lower 46 47 (decimal w) (omega arith) (above-decimal w sw)) e in
    (decimal_wide_injective v w sv sw both.0, padded_injective count m n small sm sn both.1)

size_injective : (m n : ℕ) → m < 10 ^ 64 → n < 10 ^ 64 → pointed (m / 100000000) 8 (m % 100000000) ≡ pointed (n / 100000000) 8 (n % 100000000) → m ≡ n
size_injective m n sm sn e =
    let both : (m / 100000000 ≡ n / 100000000) × (m % 100000000 ≡ n % 100000000) = pointed_injective (m / 100000000) (n / 100000000) 8 (m % 100000000) (n % 100000000) (omega arith) (omega arith) (omega arith) (omega arith) (omega arith) e in
    omega arith

not_both : (m n : ℕ) → m < 10 ^ 64 → pointed (m / 100000000) 8 (m % 100000000) ≡ 45 ∷ pointed (suc n / 100000000) 8 (suc n % 100000000) → ⊥
not_both m n small e =
    let above : Above 45 (45 ∷ pointed (suc n / 100000000) 8 (suc n % 100000000)) = subst (λ t. Above 45 t) e (above-pointed (m / 100000000) 8 (m % 100000000) (omega arith)) in
    omega (arith, above.0)

pub money_determines : MoneyDetermines
money_determines (pos m) (pos n) a b e = ap pos (size_injective m n (omega arith) (omega arith) (sym (money_pos m) ∙ (e ∙ money_pos n)))
money_determines (pos m) (negsuc n) a b e = absurd (not_both m n (omega arith) (sym (money_pos m) ∙ (e ∙ money_neg n)))
money_determines (negsuc m) (pos n) a b e = absurd (not_both n m (omega arith) (sym (money_pos n) ∙ (sym e ∙ money_neg m)))
money_determines (negsuc m) (negsuc n) a b e =
    let rest : pointed (suc m / 100000000) 8 (suc m % 100000000) ≡ pointed (suc n / 100000000) 8 (suc n % 100000000) = ap (λ t. drop 1 t) (sym (money_neg m) ∙ (e ∙ money_neg n)) in
    let same : suc m ≡ suc n = size_injective (suc m) (suc n) (omega arith) (omega arith) rest in
    let less : m ≡ n = omega arith in
    ap negsuc less

-- a text of money has no byte below the minus sign
pub above-money : (units : ℤ) → unsigned_abs units ≤ 2 ^ 127 → Above 44 (money_text units)
above-money (pos n) h = subst (λ t. Above 44 t) (sym (money_pos n)) (above_lower 44 45 (pointed (n / 100000000) 8 (n % 100000000)) (omega arith) (above-pointed (n / 100000000) 8 (n % 100000000) (omega arith)))
above-money (negsuc n) h = subst (λ t. Above 44 t) (sym (money_neg n)) (omega arith, above_lower 44 45 (pointed (suc n / 100000000) 8 (suc n % 100000000)) (omega arith) (above-pointed (suc n / 100000000) 8 (suc n % 100000000) (omega arith)))

cents_pointed : (n : ℕ) → cents_text n ≡ pointed (n / 100) 2 (n % 100)
cents_pointed n = append_assoc (decimal (n / 100)) (46 ∷ []) (padded 2 (n % 100))

pub cents_determine : CentsDetermine
cents_determine m n a b e =
    let both : (m / 100 ≡ n / 100) × (m % 100 ≡ n % 100) = pointed_injective (m / 100) (n / 100) 2 (m % 100) (n % 100) (omega arith) (omega arith) (omega arith) (omega arith) (omega arith) (sym (cents_pointed m) ∙ (e ∙ cents_pointed n)) in
    omega arith

pub above-cents : (cents : ℕ) → cents < 2 ^ 64 → Above 44 (cents_text cents)
above-cents n h = subst (λ t. Above 44 t) (sym (cents_pointed n)) (above_lower 44 45 (pointed (n / 100) 2 (n % 100)) (omega arith) (above-pointed (n / 100) 2 (n % 100) (omega arith)))
