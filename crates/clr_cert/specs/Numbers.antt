-- The one spelling of a whole number.
use Rattle.std.specs.Prelude.{◌≡◌, ℕ, ◌≤◌, Bool, false, ◌&&◌, ◌||◌, nat_le, ◌==◌, List, [], ◌∷◌, if◌then◌else◌, ℤ, pos, neg_ℤ, unsigned_abs, IsTrue}
use Rattle.std.specs.Fmt.{signed_decimal}
use Rattle.std.specs.List.{list_all}
use Rattle.std.specs.Str.Parse.{digits_value}
use Rattle.clr_cert.specs.declared.number.Num.{Num}
use Rattle.clr_cert.specs.declared.number.Num.TheVariants.{No, Large, Is}

-- a byte from `0` to `9`
abbrev pub is_digit : ℕ → Bool
is_digit byte = nat_le 48 byte && nat_le byte 57

-- a digit from 1 to 9 and further digits
abbrev pub spells_positive : List ℕ → Bool
spells_positive [] = false
spells_positive (first ∷ rest) = (nat_le 49 first && nat_le first 57) && list_all is_digit rest

-- begins with `-`
abbrev pub has_minus : List ℕ → Bool
has_minus [] = false
has_minus (first ∷ rest) = first == 45

-- what stands after a leading `-`
abbrev pub size_digits : List ℕ → List ℕ
size_digits [] = []
size_digits (first ∷ rest) = if first == 45 then rest else first ∷ rest

-- just `0`
abbrev pub spells_zero : List ℕ → Bool
spells_zero [] = false
spells_zero (first ∷ []) = first == 48
spells_zero (first ∷ next ∷ rest) = false

-- the spelling of a number: `0`, or an optional `-`, a digit from 1 to 9 and further digits
abbrev pub spells_number : List ℕ → Bool
spells_number field = spells_zero field || spells_positive (size_digits field)

-- how large it is, without its sign
abbrev pub spelled_size : List ℕ → ℕ
spelled_size field = digits_value 10 (size_digits field)

-- the number that it spells
abbrev pub spelled_number : List ℕ → ℤ
spelled_number field = if has_minus field then neg_ℤ (pos (spelled_size field)) else pos (spelled_size field)

-- no larger number is told
abbrev pub most_size : ℕ
most_size = 1000000000000000000000000000000

-- what a field is read as
abbrev pub num_of : List ℕ → Num
num_of field = if spells_number field then (if nat_le (spelled_size field) most_size then Is (spelled_number field) else Large) else No

-- The text that `{}` writes of a number is a spelling of it, and its only one.
pub record IsOneSpelling (n : ℤ) : Type 0 where
  pub spells : IsTrue (spells_number (signed_decimal n))
  pub number : spelled_number (signed_decimal n) ≡ n
  pub only : (field : List ℕ) → IsTrue (spells_number field) → spelled_number field ≡ n → field ≡ signed_decimal n

abbrev pub OneSpelling : Type 0
OneSpelling = (n : ℤ) → unsigned_abs n ≤ most_size → IsOneSpelling n
