-- A field that is printed is read as its number.
use Rattle.std.proofs.Common.{◌≡◌, ◌<◌, ◌≤◌, ◌+◌, ◌%◌, ◌^◌, ℕ, List, [], ◌∷◌, ◌++◌, Bool, true, false, Ok, Some, refl, sym, arith, decimal}
use Rattle.std.specs.Prelude.{◌&&◌}
use Rattle.std.specs.Char.{is_ascii_digit}
use Rattle.std.specs.List.{list_all}
use Rattle.std.proofs.lemmas.Bool.{le-leb}
use Rattle.std.proofs.lemmas.Fmt.{decimal_by_steps_wide, decimal_is_IsNumeral_wide}
use Rattle.clr_num.specs.Money.{padded}
use Rattle.clr_num.proofs.Fields.{above-decimal, above-padded, above_lower}
use Rattle.clr_text.specs.Fields.{whole_of}
use Rattle.clr_text.specs.Judged.{number_at}
use Rattle.clr_text.proofs.Numbers.{whole-number}
use Rattle.clr_make.specs.Made.{store_name}
use Rattle.clr_make.proofs.TableLemmas.{IsPlain}

digit-test : (n : ℕ) → n < 10 → is_ascii_digit (48 + n) ≡ true
digit-test n small = rw (le-leb 48 (48 + n) (omega arith), le-leb (48 + n) 57 (omega arith)) refl

all-more : (test : ℕ → Bool) (xs : List ℕ) (x : ℕ) → list_all test xs ≡ true → test x ≡ true → list_all test (xs ++ x ∷ []) ≡ true
all-more test [] x e p = rw p refl
all-more test (y ∷ xs) x e p = go (test y) (list_all test xs) e (λ rest. all-more test xs x rest p)
  where
    go : (a b : Bool) → (a && b) ≡ true → (b ≡ true → list_all test (xs ++ x ∷ []) ≡ true) → (a && list_all test (xs ++ x ∷ [])) ≡ true
    go true b e h = h e
    go false b e h = cc e

decimal-digits : (n : ℕ) → n < 10 ^ 64 → list_all is_ascii_digit (decimal n) ≡ true
decimal-digits n small =
    decimal_by_steps_wide (λ k ds. list_all is_ascii_digit ds ≡ true) (λ k h. rw (digit-test k h) refl)
    (λ k ds h p. all-more is_ascii_digit ds (48 + k % 10) p (digit-test (k % 10) (omega arith))) n small

pub whole-decimal : (n : ℕ) → n < 2 ^ 63 → whole_of (decimal n) ≡ Some n
whole-decimal n small =
    let numeral = decimal_is_IsNumeral_wide n (omega arith) in
    sym (whole-number (decimal n) n numeral.0.0 (decimal-digits n (omega arith)) (sym numeral.1) small)

pub number-read : (row column low high n : ℕ) → low ≤ n → n ≤ high → n < 2 ^ 63 → number_at row column low high (decimal n) ≡ Ok n
unfolding number_at
number-read row column low high n least most small = rw (whole-decimal n small, le-leb low n least, le-leb n high most) refl

pub plain-decimal : (n : ℕ) → n < 10 ^ 64 → IsPlain (decimal n)
plain-decimal n small = above_lower 45 47 (decimal n) (omega arith) (above-decimal n small)

pub plain-name : (store : ℕ) → IsPlain (store_name store)
plain-name store = (omega arith, above_lower 45 47 (padded 2 store) (omega arith) (above-padded 2 store))
