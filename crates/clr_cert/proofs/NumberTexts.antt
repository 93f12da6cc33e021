-- The spelling of a number, and that there is but one.
use Rattle.std.proofs.Common.{◌≡◌, ℕ, ◌+◌, ◌-◌, ◌*◌, ◌/◌, ◌%◌, ◌^◌, ◌<◌, ◌≤◌, Bool, true, false, ◌&&◌, ◌||◌, ◌==◌, nat_le, List, [], ◌∷◌, ◌++◌, length, length-append, get_or, take, min, refl, sym, ap, ◌∙◌, subst, arith, suc, zero, cond, ℤ, pos, negsuc, neg_ℤ, unsigned_abs, eqb→eq, leb→le, le-leb, decimal}
use Rattle.std.proofs.Math.Nat.{pow-le-pow_right}
use Rattle.std.proofs.lemmas.Grind.{pow_more}
use Rattle.std.proofs.lemmas.Bool.{and_parts, and_from, ne_eqb}
use Rattle.std.proofs.lemmas.Bool.Decides.{nat_tests}
use Rattle.std.proofs.lemmas.Fmt.{decimal_by_steps_wide, decimal_step_wide, decimal_digit, decimal_is_IsNumeral_wide}
use Rattle.std.proofs.lemmas.Int.Digits.{digits_value_push, digits_value_more}
use Rattle.std.proofs.lemmas.List.Folds.{list_all-append}
use Rattle.std.specs.Bool.{passes}
use Rattle.std.specs.Char.{digit_value}
use Rattle.std.specs.Fmt.{signed_decimal}
use Rattle.std.specs.List.{list_all}
use Rattle.std.specs.Str.Parse.{digits_value}
use Rattle.clr_cert.specs.Numbers.{is_digit, spells_positive, spells_zero, spells_number, size_digits, has_minus, spelled_size, spelled_number, most_size, num_of, OneSpelling}
use Rattle.clr_cert.specs.declared.number.Num.TheVariants.{No, Large, Is}

-- ---- one digit

pub digit_low : (c : ℕ) → is_digit c ≡ true → 48 ≤ c
digit_low c h = leb→le 48 c (passes _ (and_parts (nat_le 48 c) (nat_le c 57) h).0)

pub digit_high : (c : ℕ) → is_digit c ≡ true → c ≤ 57
digit_high c h = leb→le c 57 (passes _ (and_parts (nat_le 48 c) (nat_le c 57) h).1)

pub digit_from : (c : ℕ) → 48 ≤ c → c ≤ 57 → is_digit c ≡ true
digit_from c low high = and_from (nat_le 48 c) (nat_le c 57) (le-leb 48 c low) (le-leb c 57 high)

pub value_of_digit : (c : ℕ) → is_digit c ≡ true → digit_value c ≡ c - 48
value_of_digit c h = let low = digit_low c h in let high = digit_high c h in grind (arith, nat_tests)

-- ---- the text of a number

-- what is so of the digits of a number: only 0 has a first digit 0
record Spells (n : ℕ) (ds : List ℕ) : Type 0 where
  zero : n ≡ 0 → ds ≡ 48 ∷ []
  more : 0 < n → spells_positive ds ≡ true

positive-more : (ds : List ℕ) (c : ℕ) → spells_positive ds ≡ true → is_digit c ≡ true → spells_positive (ds ++ c ∷ []) ≡ true
positive-more [] c h digit = absurd (no h)
  where
    no : false ≡ true → ⊥
    no e = cc
positive-more (d ∷ ds) c h digit =
    let parts = and_parts (nat_le 49 d && nat_le d 57) (list_all is_digit ds) h in
    and_from (nat_le 49 d && nat_le d 57) (list_all is_digit (ds ++ c ∷ [])) parts.0
    (list_all-append is_digit ds (c ∷ []) ∙ and_from (list_all is_digit ds) (is_digit c && true) parts.1 (and_from (is_digit c) true digit refl))

one_digit : (n : ℕ) → n < 10 → Spells n ((48 + n) ∷ [])
one_digit n low = record {
  zero = λ e. ap (λ k. (48 + k) ∷ []) e;
  more = λ some. and_from (nat_le 49 (48 + n) && nat_le (48 + n) 57) true (and_from (nat_le 49 (48 + n)) (nat_le (48 + n) 57) (le-leb 49 (48 + n) (omega arith)) (le-leb (48 + n) 57 (omega arith))) refl;
}

more_digits : (n : ℕ) (ds : List ℕ) → 10 ≤ n → Spells (n / 10) ds → Spells n (ds ++ (48 + n % 10) ∷ [])
more_digits n ds big h = record {
  zero = λ e. absurd (omega arith);
  more = λ some. positive-more ds (48 + n % 10) (h.more (omega arith)) (digit_from (48 + n % 10) (omega arith) (omega arith));
}

spells-decimal : (n : ℕ) → n < 10 ^ 64 → Spells n (decimal n)
spells-decimal n small = decimal_by_steps_wide Spells one_digit more_digits n small

-- ---- the number of a text

ends : (d : ℕ) (ds : List ℕ) → (front : List ℕ) × (c : ℕ) × (d ∷ ds ≡ front ++ c ∷ [])
ends d [] = ([], d, refl)
ends d (e ∷ es) = let (front, c, same) = ends e es in (d ∷ front, c, ap (λ t. d ∷ t) same)

-- only 0 has a first digit 0
not_zero : (n : ℕ) (ds : List ℕ) → n < 10 ^ 64 → decimal n ≡ ds → spells_positive ds ≡ true → 0 < n
not_zero zero ds small e h = absurd (no (ap spells_positive (sym ((spells-decimal 0 small).zero refl) ∙ e) ∙ h))
  where
    no : spells_positive (48 ∷ []) ≡ true → ⊥
    no e = cc
not_zero (suc n) ds small e h = omega arith

split : (f : ℕ) (fs : List ℕ) (c : ℕ) → spells_positive (f ∷ (fs ++ c ∷ [])) ≡ true → (spells_positive (f ∷ fs) ≡ true) × (is_digit c ≡ true)
split f fs c h =
    let parts = and_parts (nat_le 49 f && nat_le f 57) (list_all is_digit (fs ++ c ∷ [])) h in
    let rest = and_parts (list_all is_digit fs) (is_digit c && true) (sym (list_all-append is_digit fs (c ∷ [])) ∙ parts.1) in
    (and_from (nat_le 49 f && nat_le f 57) (list_all is_digit fs) parts.0 rest.0, (and_parts (is_digit c) true rest.1).0)

-- the digits are the text of their number
IsText : List ℕ → Type 0
IsText ds = spells_positive ds ≡ true → digits_value 10 ds < 10 ^ 64 → decimal (digits_value 10 ds) ≡ ds

last_digit : (front : List ℕ) (c : ℕ) → (length front < length (front ++ c ∷ []) → IsText front) → IsText (front ++ c ∷ [])
unfolding IsText
last_digit [] c again h small =
    let one = (and_parts (nat_le 49 c && nat_le c 57) true h).0 in
    let low : 49 ≤ c = leb→le 49 c (passes _ (and_parts (nat_le 49 c) (nat_le c 57) one).0) in
    let high : c ≤ 57 = leb→le c 57 (passes _ (and_parts (nat_le 49 c) (nat_le c 57) one).1) in
    let pushed : digits_value 10 ([] ++ c ∷ []) ≡ digits_value 10 [] * 10 + digit_value c = digits_value_push 10 [] c in
    let digit = value_of_digit c (digit_from c (omega arith) high) in
    let value : digits_value 10 (c ∷ []) ≡ c - 48 = omega arith in
    let back : 48 + (c - 48) ≡ c = omega arith in
    ap decimal value ∙ (decimal_digit (c - 48) (omega arith) ∙ ap (λ t. t ∷ []) back)
last_digit (f ∷ fs) c again h small =
    let parts = split f fs c h in
    let low = digit_low c parts.1 in
    let high = digit_high c parts.1 in
    let v : ℕ = digits_value 10 (f ∷ fs) in
    let value : digits_value 10 ((f ∷ fs) ++ c ∷ []) ≡ v * 10 + (c - 48) = digits_value_push 10 (f ∷ fs) c ∙ ap (λ t. v * 10 + t) (value_of_digit c parts.1) in
    let few : v < 10 ^ 64 = omega arith in
    let text : decimal v ≡ f ∷ fs = again (omega (arith, length-append (f ∷ fs) (c ∷ []))) parts.0 few in
    let some : 0 < v = not_zero v (f ∷ fs) few text parts.0 in
    let n : ℕ = v * 10 + (c - 48) in
    let front : n / 10 ≡ v = omega arith in
    let end : 48 + n % 10 ≡ c = omega arith in
    ap decimal value ∙ (decimal_step_wide n (omega arith) (omega arith) ∙ (ap (λ t. decimal t ++ (48 + n % 10) ∷ []) front ∙ (ap (λ t. t ++ (48 + n % 10) ∷ []) text ∙ ap (λ t. (f ∷ fs) ++ t ∷ []) end)))

is_text : (k : ℕ) (ds : List ℕ) → length ds ≤ k → IsText ds
unfolding IsText
is_text k [] short h small = absurd (no h)
  where
    no : false ≡ true → ⊥
    no e = cc
is_text zero (d ∷ ds) short h small = absurd (omega arith)
is_text (suc k) (d ∷ ds) short h small =
    let (front, c, same) = ends d ds in
    let again : length front < length (front ++ c ∷ []) → IsText front = λ less. is_text k front (omega (arith, ap length same)) in
    subst IsText (sym same) (last_digit front c again) h small

pub positive_text : (ds : List ℕ) → spells_positive ds ≡ true → digits_value 10 ds < 10 ^ 64 → decimal (digits_value 10 ds) ≡ ds
unfolding IsText
positive_text ds = is_text (length ds) ds (omega arith)

-- ---- a value that is held at its greatest

held : (m v d : ℕ) → min (min v m * 10 + d) m ≡ min (v * 10 + d) m
held m v d = omega arith

pub held_more : (m value next i : ℕ) (ds : List ℕ) → i < length ds → is_digit (get_or ds i 0) ≡ true → value ≡ min (digits_value 10 (take i ds)) m → next ≡ min (value * 10 + (get_or ds i 0 - 48)) m →
    next ≡ min (digits_value 10 (take (i + 1) ds)) m
held_more m value next i ds low digit so_far is =
    let more : digits_value 10 (take (i + 1) ds) ≡ digits_value 10 (take i ds) * 10 + (get_or ds i 0 - 48) =
    digits_value_more 10 ds i low ∙ ap (λ d. digits_value 10 (take i ds) * 10 + d) (value_of_digit (get_or ds i 0) digit) in
    is ∙ (ap (λ v. min (v * 10 + (get_or ds i 0 - 48)) m) so_far ∙ (held m (digits_value 10 (take i ds)) (get_or ds i 0 - 48) ∙ ap (λ v. min v m) (sym more)))

-- each byte of digits is one
pub digit_in : (ds : List ℕ) (i : ℕ) → i < length ds → list_all is_digit ds ≡ true → is_digit (get_or ds i 0) ≡ true
digit_in [] i low h = absurd (omega arith)
digit_in (d ∷ ds) zero low h = (and_parts (is_digit d) (list_all is_digit ds) h).0
digit_in (d ∷ ds) (suc i) low h = digit_in ds i (omega arith) (and_parts (is_digit d) (list_all is_digit ds) h).1

-- ---- a number and its one spelling

zero_field : (field : List ℕ) → spells_zero field ≡ true → field ≡ 48 ∷ []
zero_field [] h = absurd (no h)
  where
    no : false ≡ true → ⊥
    no e = cc
zero_field (c ∷ []) h = ap (λ t. t ∷ []) (eqb→eq c 48 (passes _ h))
zero_field (c ∷ d ∷ rest) h = absurd (no h)
  where
    no : false ≡ true → ⊥
    no e = cc

or_left : (a b : Bool) → a ≡ false → (a || b) ≡ true → b ≡ true
or_left true b e h = absurd (no e)
  where
    no : true ≡ false → ⊥
    no e = cc
or_left false b e h = h

or_not_right : (a b : Bool) → b ≡ false → (a || b) ≡ true → a ≡ true
or_not_right true b e h = refl
or_not_right false b e h = sym e ∙ h

minus_of : (v : ℕ) → 0 < v → signed_decimal (neg_ℤ (pos v)) ≡ 45 ∷ decimal v
minus_of zero some = absurd (omega arith)
minus_of (suc v) some = refl

-- a positive number's digits do not begin with `-`
no_minus : (first : ℕ) (rest : List ℕ) → spells_positive (first ∷ rest) ≡ true → (first == 45) ≡ false
no_minus first rest h =
    let one = (and_parts (nat_le 49 first && nat_le first 57) (list_all is_digit rest) h).0 in
    let low : 49 ≤ first = leb→le 49 first (passes _ (and_parts (nat_le 49 first) (nat_le first 57) one).0) in
    ne_eqb first 45 (λ e. omega arith)

-- a spelling is the text of its number
pub spelled_text : (field : List ℕ) → spells_number field ≡ true → spelled_size field < 10 ^ 64 → signed_decimal (spelled_number field) ≡ field
spelled_text [] h small = absurd (no h)
  where
    no : false ≡ true → ⊥
    no e = cc
spelled_text (first ∷ rest) h small = by_sign (first == 45) refl
  where
    by_sign : (b : Bool) → (first == 45) ≡ b → signed_decimal (spelled_number (first ∷ rest)) ≡ first ∷ rest
    by_sign true e =
        let is : first ≡ 45 = eqb→eq first 45 (passes _ e) in
        let digits : size_digits (first ∷ rest) ≡ rest = ap (λ b. cond b rest (first ∷ rest)) e in
        let not_zero_field : spells_zero (first ∷ rest) ≡ false = other rest is in
        let positive : spells_positive rest ≡ true = subst (λ t. spells_positive t ≡ true) digits (or_left (spells_zero (first ∷ rest)) (spells_positive (size_digits (first ∷ rest))) not_zero_field h) in
        let few : digits_value 10 rest < 10 ^ 64 = subst (λ t. digits_value 10 t < 10 ^ 64) digits small in
        let text : decimal (digits_value 10 rest) ≡ rest = positive_text rest positive few in
        let number : spelled_number (first ∷ rest) ≡ neg_ℤ (pos (digits_value 10 rest)) = ap (λ b. cond b (neg_ℤ (pos (spelled_size (first ∷ rest)))) (pos (spelled_size (first ∷ rest)))) e ∙ ap (λ t. neg_ℤ (pos (digits_value 10 t))) digits in
        ap signed_decimal number ∙ (minus_of (digits_value 10 rest) (not_zero (digits_value 10 rest) rest few text positive) ∙ (ap (λ t. 45 ∷ t) text ∙ ap (λ c. c ∷ rest) (sym is)))
      where
        other : (rest : List ℕ) → first ≡ 45 → spells_zero (first ∷ rest) ≡ false
        other [] is = ap (λ c. c == 48) is
        other (d ∷ ds) is = refl
    by_sign false e =
        let digits : size_digits (first ∷ rest) ≡ first ∷ rest = ap (λ b. cond b rest (first ∷ rest)) e in
        let number : spelled_number (first ∷ rest) ≡ pos (digits_value 10 (first ∷ rest)) = ap (λ b. cond b (neg_ℤ (pos (spelled_size (first ∷ rest)))) (pos (spelled_size (first ∷ rest)))) e ∙ ap (λ t. pos (digits_value 10 t)) digits in
        let few : digits_value 10 (first ∷ rest) < 10 ^ 64 = subst (λ t. digits_value 10 t < 10 ^ 64) digits small in
        ap signed_decimal number ∙ by_zero (spells_zero (first ∷ rest)) refl few (subst (λ t. (spells_zero (first ∷ rest) || spells_positive t) ≡ true) digits h)
      where
        by_zero : (b : Bool) → spells_zero (first ∷ rest) ≡ b → digits_value 10 (first ∷ rest) < 10 ^ 64 → (spells_zero (first ∷ rest) || spells_positive (first ∷ rest)) ≡ true → decimal (digits_value 10 (first ∷ rest)) ≡ first ∷ rest
        by_zero true z few h = let is = zero_field (first ∷ rest) z in subst (λ t. decimal (digits_value 10 t) ≡ t) (sym is) (decimal_digit 0 (omega arith))
        by_zero false z few h = positive_text (first ∷ rest) (or_left (spells_zero (first ∷ rest)) (spells_positive (first ∷ rest)) z h) few

-- the digits of a number, without and with a sign before them
plain : (n : ℕ) (ds : List ℕ) → Spells n ds → digits_value 10 ds ≡ n → (spells_number ds ≡ true) × (spelled_number ds ≡ pos n) × (spelled_size ds ≡ n)
plain zero ds h v = subst (λ t. (spells_number t ≡ true) × (spelled_number t ≡ pos 0) × (spelled_size t ≡ 0)) (sym (h.zero refl)) (refl, refl, refl)
plain (suc n) [] h v = absurd (no (h.more (omega arith)))
  where
    no : false ≡ true → ⊥
    no e = cc
plain (suc n) (d ∷ ds) h v =
    let positive = h.more (omega arith) in
    let sign : (d == 45) ≡ false = no_minus d ds positive in
    let digits : size_digits (d ∷ ds) ≡ d ∷ ds = ap (λ b. cond b ds (d ∷ ds)) sign in
    let size : spelled_size (d ∷ ds) ≡ suc n = ap (λ t. digits_value 10 t) digits ∙ v in (
      ap (λ t. spells_zero (d ∷ ds) || spells_positive t) digits ∙ (ap (λ b. spells_zero (d ∷ ds) || b) positive ∙ or-true (spells_zero (d ∷ ds))),
      ap (λ b. cond b (neg_ℤ (pos (spelled_size (d ∷ ds)))) (pos (spelled_size (d ∷ ds)))) sign ∙ ap pos size,
      size,
    )
  where
    or-true : (b : Bool) → (b || true) ≡ true
    or-true true = refl
    or-true false = refl

negative : (n : ℕ) (ds : List ℕ) → Spells (suc n) ds → digits_value 10 ds ≡ suc n → (spells_number (45 ∷ ds) ≡ true) × (spelled_number (45 ∷ ds) ≡ negsuc n) × (spelled_size (45 ∷ ds) ≡ suc n)
negative n [] h v = absurd (no (h.more (omega arith)))
  where
    no : false ≡ true → ⊥
    no e = cc
negative n (d ∷ ds) h v = (h.more (omega arith), ap (λ k. neg_ℤ (pos k)) v, v)

-- the text of a number is a spelling of it
pub text_spells : (n : ℤ) → unsigned_abs n < 10 ^ 64 → (spells_number (signed_decimal n) ≡ true) × (spelled_number (signed_decimal n) ≡ n) × (spelled_size (signed_decimal n) ≡ unsigned_abs n)
text_spells (pos n) small = plain n (decimal n) (spells-decimal n small) (decimal_is_IsNumeral_wide n small).1
text_spells (negsuc n) small = negative n (decimal (suc n)) (spells-decimal (suc n) small) (decimal_is_IsNumeral_wide (suc n) small).1

abs-neg : (k : ℕ) → unsigned_abs (neg_ℤ (pos k)) ≡ k
abs-neg zero = refl
abs-neg (suc k) = refl

-- the size of the number that a field spells
pub abs-spelled : (field : List ℕ) → unsigned_abs (spelled_number field) ≡ spelled_size field
abs-spelled field = by_sign (has_minus field) refl
  where
    by_sign : (b : Bool) → has_minus field ≡ b → unsigned_abs (spelled_number field) ≡ spelled_size field
    by_sign true e = ap (λ b. unsigned_abs (cond b (neg_ℤ (pos (spelled_size field))) (pos (spelled_size field)))) e ∙ abs-neg (spelled_size field)
    by_sign false e = ap (λ b. unsigned_abs (cond b (neg_ℤ (pos (spelled_size field))) (pos (spelled_size field)))) e

pub one_spelling_lem : OneSpelling
one_spelling_lem n small =
    let fits : unsigned_abs n < 10 ^ 64 = omega arith in
    let text = text_spells n fits in
    record {
      spells = text.0;
      number = text.1;
      only = λ field h e. sym (spelled_text field h (subst (λ k. k < 10 ^ 64) (sym (ap unsigned_abs e) ∙ abs-spelled field) fits)) ∙ ap signed_decimal e;
    }

-- ---- what a field is read as

read_by : (field : List ℕ) (n : ℤ) (spells small : Bool) → spells_number field ≡ spells → nat_le (spelled_size field) most_size ≡ small → num_of field ≡ Is n → (spells ≡ true) × (small ≡ true) × (spelled_number field ≡ n)
read_by field n false small s t e = absurd (no (sym (ap (λ b. cond b (cond (nat_le (spelled_size field) most_size) (Is (spelled_number field)) Large) No) s) ∙ e))
  where
    no : No ≡ Is n → ⊥
    no e = cc
read_by field n true false s t e =
    absurd (no (sym (ap (λ b. cond b (cond (nat_le (spelled_size field) most_size) (Is (spelled_number field)) Large) No) s ∙ ap (λ b. cond b (Is (spelled_number field)) Large) t) ∙ e))
  where
    no : Large ≡ Is n → ⊥
    no e = cc
read_by field n true true s t e =
    let is : Is (spelled_number field) ≡ Is n = sym (ap (λ b. cond b (cond (nat_le (spelled_size field) most_size) (Is (spelled_number field)) Large) No) s ∙ ap (λ b. cond b (Is (spelled_number field)) Large) t) ∙ e in
    (refl, refl, cc)

pub read_is : (field : List ℕ) (n : ℤ) → num_of field ≡ Is n → (field ≡ signed_decimal n) × (unsigned_abs n ≤ most_size)
read_is field n e =
    let parts = read_by field n (spells_number field) (nat_le (spelled_size field) most_size) refl refl e in
    let size : spelled_size field ≤ most_size = leb→le (spelled_size field) most_size (passes _ parts.1) in
    let small : unsigned_abs n ≤ most_size = subst (λ k. k ≤ most_size) (sym (abs-spelled field) ∙ ap unsigned_abs parts.2) size in
    ((one_spelling_lem n small).only field parts.0 parts.2, small)

pub is_read : (field : List ℕ) (n : ℤ) → field ≡ signed_decimal n → unsigned_abs n ≤ most_size → num_of field ≡ Is n
is_read field n e small =
    let text = text_spells n (omega arith) in
    let size : spelled_size (signed_decimal n) ≤ most_size = subst (λ k. k ≤ most_size) (sym text.2) small in
    ap num_of e
    ∙ (ap (λ b. cond b (cond (nat_le (spelled_size (signed_decimal n)) most_size) (Is (spelled_number (signed_decimal n))) Large) No) text.0
    ∙ (ap (λ b. cond b (Is (spelled_number (signed_decimal n))) Large) (le-leb (spelled_size (signed_decimal n)) most_size size) ∙ ap Is text.1))

-- ---- a value of few digits

pub below_18 : (value i : ℕ) → value < 10 ^ i → i ≤ 18 → value < 1000000000000000000
below_18 value i low few = let most : 10 ^ i ≤ 10 ^ 18 = pow-le-pow_right (omega arith) few in omega arith

-- with one digit more
pub below_17 : (value i n : ℕ) → value < 10 ^ i → i < n → n ≤ 18 → value * 10 + 9 < 1000000000000000000
below_17 value i n low less few =
    let short : i ≤ 17 = omega arith in
    let most : 10 ^ i ≤ 10 ^ 17 = pow-le-pow_right (omega arith) short in
    omega arith

pub more_value : (value digit i : ℕ) (ds : List ℕ) → i < length ds → is_digit (get_or ds i 0) ≡ true → digit ≡ get_or ds i 0 - 48 → value ≡ digits_value 10 (take i ds) → value * 10 + digit ≡ digits_value 10 (take (i + 1) ds)
more_value value digit i ds low is e so_far =
    ap (λ v. v * 10 + digit) so_far ∙ (ap (λ d. digits_value 10 (take i ds) * 10 + d) (e ∙ sym (value_of_digit (get_or ds i 0) is)) ∙ sym (digits_value_more 10 ds i low))

pub more_range : (value digit i : ℕ) → value < 10 ^ i → digit ≤ 9 → value * 10 + digit < 10 ^ (i + 1)
more_range value digit i low small = let power = pow_more 10 i in omega arith
