-- From the text of a number that clap took to the number that is read of it.
use Rattle.std.proofs.Common.{◌≡◌, ◌==◌, ◌<◌, ◌≤◌, ◌^◌, ℕ, Bool, true, false, [], ◌∷◌, Option, Some, None, refl, ap, cond, drop, arith}
use Rattle.std.specs.Prelude.{Result, Ok, Err, pos, unwrap_or}
use Rattle.std.specs.Str.Parse.{IsNumeral, ParsesUnsigned, digits_value, starts_with_minus, without_leading_plus}
use Rattle.std.proofs.lemmas.Bool.{ne_eqb}
use Rattle.std.proofs.lemmas.Int.{ints}
use Rattle.std.proofs.lemmas.Str.Parse.{digit_from_value}
use Rattle.clap.specs.Words.{IsSignedIn, ReadsOne, Text, without_minus}

-- without a minus, by whether there is one
without_minus-cond : (t : Text) → without_minus t ≡ cond (starts_with_minus t) (drop 1 t) t
without_minus-cond [] = refl
without_minus-cond (x ∷ xs) = go (x == 45)
  where
    go : (b : Bool) → unwrap_or (cond b (Some xs) None) (x ∷ xs) ≡ cond b xs (x ∷ xs)
    go true = refl
    go false = refl

-- no plus stands before digits alone
no_plus : (ds : Text) → IsNumeral 10 ds → without_leading_plus ds ≡ ds
no_plus [] h = refl
no_plus (d ∷ ds) h =
    let plus : (d == 43) ≡ false = ne_eqb _ _ (λ e. omega (arith, digit_from_value d h.1.0)) in
    ap (λ (b : Bool). drop (cond b 1 0) (d ∷ ds)) plus

-- the digits that are read of a text write a number within limits
pub record IsReadIn (low high : ℕ) (digits : Text) : Type 0 where
  pub numeral : IsNumeral 10 digits
  pub least : low ≤ digits_value 10 digits
  pub most : digits_value 10 digits ≤ high

-- a text that passed the limits, of which none is below 0, is read as a number within them
pub signed_read : (low high : ℕ) (t : Text) → IsSignedIn (pos low) (pos high) t → IsReadIn low high (without_leading_plus (without_minus t))
signed_read low high t passed = rw (without_minus-cond t) (go (starts_with_minus t) refl)
  where
    go : (b : Bool) → starts_with_minus t ≡ b → IsReadIn low high (without_leading_plus (cond (starts_with_minus t) (drop 1 t) t))
    go true minus =
        let least = rw minus at passed.2 in
        let digits : IsNumeral 10 (drop 1 t) = rw minus at passed.0 in
        rw (minus, no_plus (drop 1 t) digits) (record { numeral = digits; least = omega (arith, ints); most = omega (arith, ints) })
    go false minus =
        let least = rw minus at passed.2 in
        let most = rw minus at passed.3 in
        let digits : IsNumeral 10 (without_leading_plus t) = rw minus at passed.0 in
        rw minus (record { numeral = digits; least = omega (arith, ints); most = omega (arith, ints) })

-- what a getter of numbers answers where there is one
pub number_got : (E : Type 0) (G : Text → Result ℕ E → Type 0) (o : Option Text) (r : Option ℕ)
    → ((u : Text) (x : Result ℕ E) → G u x → ParsesUnsigned 64 10 u x)
    → ((t : Text) → o ≡ Some t → ReadsOne G t r)
    → IsNumeral 10 (without_leading_plus (unwrap_or o []))
    → digits_value 10 (without_leading_plus (unwrap_or o [])) < 2 ^ 64
    → unwrap_or r 0 ≡ digits_value 10 (without_leading_plus (unwrap_or o []))
number_got E G None r only some numeral fits = absurd (omega (arith, numeral.0))
number_got E G (Some t) (Some v) only some numeral fits = (only t (Ok v) (some t refl)).1
number_got E G (Some t) None only some numeral fits =
    let h = some t refl in
    absurd (only t (Err h.0) h.1 (numeral, fits))
