-- What reading a line field by field finds.
use Rattle.std.specs.Prelude.{◌≡◌, ℕ, Bool, true, false, List, ◌∷◌, length, Some, get_or, take, drop, ◌&&◌, ◌==◌, ℤ, pos}
use Rattle.std.specs.List.{list_all, position_or_len}
use Rattle.clr_cert.specs.declared.number.Num.{Num}
use Rattle.clr_cert.specs.Numbers.{most_size, num_of, spells_number}
use Rattle.clr_cert.specs.Reading.{comma_fields, is_joint_rung, is_within, line_numbers, numbers_in}
use Rattle.clr_cert.specs.Entries.{most_entry}
use Rattle.clr_season.specs.Season.{Season}
use Rattle.clr_cert.specs.declared.place.Place.{Place}

-- the bytes up to the first comma
abbrev pub first_field : List ℕ → List ℕ
first_field bytes = take (position_or_len (λ byte. byte == 44) bytes) bytes

-- a text of fields doesn't begin with a field that spells a number
abbrev pub HasNone : List ℕ → Type 0
HasNone text = (field : List ℕ) (more : List (List ℕ)) → comma_fields text ≡ Some (field ∷ more) → spells_number field ≡ false

-- a text of fields begins with a field that spells a number, after which come the fields of this text
pub record HasNumberFirst (text : List ℕ) (number : Num) (after : List ℕ) : Type 0 where
  pub field : List ℕ
  pub more : List (List ℕ)
  pub spells : spells_number field ≡ true
  pub is : number ≡ num_of field
  pub rest : comma_fields after ≡ Some more
  pub whole : comma_fields text ≡ Some (field ∷ more)

-- A text of fields spells as many numbers as there is room for: these, or, where one of them is too large to be told, others.
pub record AreRead (text : List ℕ) (told : Bool) (read : List ℤ) : Type 0 where
  pub numbers : List ℤ
  pub form : numbers_in (length read) (comma_fields text) ≡ Some numbers
  pub all : told ≡ true → read ≡ numbers
  pub large : told ≡ false → list_all (is_within most_size) numbers ≡ false

-- A line has its place's form, and its numbers are these, or, where one of them is too large to be told, others.
pub record IsLineRead (season : Season) (place : Place) (line : List ℕ) (told : Bool) (read : List ℤ) : Type 0 where
  pub numbers : List ℤ
  pub form : line_numbers season place line ≡ Some numbers
  pub all : told ≡ true → read ≡ numbers
  pub large : told ≡ false → list_all (is_within most_size) numbers ≡ false

-- the numbers of all stores lie in their ranges
abbrev pub are_joint_in_range : Season → ℕ → List ℤ → Bool
are_joint_in_range season done numbers = is_joint_rung season done (get_or numbers 0 (pos 0)) && list_all (is_within most_entry) (drop 1 numbers)
