-- Numbers of a limited size, each written after a comma, read back.
use Rattle.std.proofs.Common.{◌≡◌, ℕ, ◌^◌, ◌<◌, ◌≤◌, true, cond, ◌&&◌, refl, ap, ap₂, ◌∙◌, arith, suc, List, [], ◌∷◌, length, map, Some, None, eq-eqb, decimal, ℤ, pos, negsuc}
use Rattle.std.specs.Prelude.{unsigned_abs}
use Rattle.std.specs.Fmt.{signed_decimal}
use Rattle.std.specs.List.{AllByRecursion, list_all}
use Rattle.std.proofs.lemmas.Bool.{and_from}
use Rattle.std.proofs.lemmas.Fmt.{length-decimal-le_wide}
use lib.ListN.{length-map}
use Rattle.clr_num.proofs.Fields.{Above, above-decimal, above_lower}
use Rattle.clr_cert.specs.Numbers.{spelled_number, spells_number}
use Rattle.clr_cert.specs.Reading.{numbers_in}
use Rattle.clr_cert.proofs.NumberTexts.{text_spells}

-- the greatest size of a number that a line has
abbrev pub most_told : ℕ
most_told = 100000000000000000000

abbrev pub AreTold : List ℤ → Type 0
AreTold numbers = AllByRecursion (λ number. unsigned_abs number ≤ most_told) numbers

abbrev pub AreKeys : List ℕ → Type 0
AreKeys keys = AllByRecursion (λ key. key ≤ most_told) keys

-- ---- one number

above_signed : (number : ℤ) → unsigned_abs number ≤ most_told → Above 44 (signed_decimal number)
above_signed (pos n) h = above_lower 44 47 (decimal n) (omega arith) (above-decimal n (omega arith))
above_signed (negsuc n) h = (omega arith, above_lower 44 47 (decimal (suc n)) (omega arith) (above-decimal (suc n) (omega arith)))

length-key : (n : ℕ) → n ≤ most_told → length (decimal n) ≤ 21
length-key n h = length-decimal-le_wide 21 n (omega arith) (omega arith) (omega arith)

length-signed : (number : ℤ) → unsigned_abs number ≤ most_told → length (signed_decimal number) ≤ 22
length-signed (pos n) h = let size = length-key n h in omega (arith, size)
length-signed (negsuc n) h = let size = length-key (suc n) h in omega (arith, size)

-- ---- many

imply : {X : Type 0} (P Q : X → Type 0) (xs : List X) → ((x : X) → P x → Q x) → AllByRecursion P xs → AllByRecursion Q xs
imply P Q [] f h = tt
imply P Q (x ∷ xs) f h = (f x h.0, imply P Q xs f h.1)

pub numbers_above : (numbers : List ℤ) → AreTold numbers → AllByRecursion (λ number. Above 44 (signed_decimal number)) numbers
numbers_above numbers h = imply (λ number. unsigned_abs number ≤ most_told) (λ number. Above 44 (signed_decimal number)) numbers above_signed h

pub numbers_above_10 : (numbers : List ℤ) → AreTold numbers → AllByRecursion (λ number. Above 10 (signed_decimal number)) numbers
numbers_above_10 numbers h = imply (λ number. unsigned_abs number ≤ most_told) (λ number. Above 10 (signed_decimal number)) numbers (λ number p. above_lower 10 44 (signed_decimal number) (omega arith) (above_signed number p)) h

pub numbers_long : (numbers : List ℤ) → AreTold numbers → AllByRecursion (λ number. length (signed_decimal number) ≤ 22) numbers
numbers_long numbers h = imply (λ number. unsigned_abs number ≤ most_told) (λ number. length (signed_decimal number) ≤ 22) numbers length-signed h

pub keys_above : (keys : List ℕ) → AreKeys keys → AllByRecursion (λ key. Above 10 (decimal key)) keys
keys_above keys h = imply (λ key. key ≤ most_told) (λ key. Above 10 (decimal key)) keys (λ key p. above_lower 10 47 (decimal key) (omega arith) (above-decimal key (omega arith))) h

pub keys_long : (keys : List ℕ) → AreKeys keys → AllByRecursion (λ key. length (decimal key) ≤ 21) keys
keys_long keys h = imply (λ key. key ≤ most_told) (λ key. length (decimal key) ≤ 21) keys length-key h

-- ---- read back

spelled_all : (numbers : List ℤ) → AreTold numbers → (list_all spells_number (map signed_decimal numbers) ≡ true) × (map spelled_number (map signed_decimal numbers) ≡ numbers)
spelled_all [] h = (refl, refl)
spelled_all (number ∷ numbers) h =
    let one = text_spells number (few number h.0) in
    let rest = spelled_all numbers h.1 in
    (and_from (spells_number (signed_decimal number)) (list_all spells_number (map signed_decimal numbers)) one.0 rest.0, ap₂ (λ n ns. n ∷ ns) one.1 rest.1)
  where
    few : (z : ℤ) → unsigned_abs z ≤ most_told → unsigned_abs z < 10 ^ 64
    few z p = omega arith

pub numbers_back : (count : ℕ) (numbers : List ℤ) → length numbers ≡ count → AreTold numbers → numbers_in count (Some (map signed_decimal numbers)) ≡ Some numbers
numbers_back count numbers size h =
    let all = spelled_all numbers h in
    ap (λ b. cond (b && list_all spells_number (map signed_decimal numbers)) (Some (map spelled_number (map signed_decimal numbers))) None) (eq-eqb (length (map signed_decimal numbers)) count (length-map numbers signed_decimal ∙ size))
    ∙ (ap (λ b. cond b (Some (map spelled_number (map signed_decimal numbers))) None) all.0 ∙ ap Some all.1)
