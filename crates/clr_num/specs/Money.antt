-- Money and prices as decimal text.
use Rattle.std.specs.Prelude.{◌≡◌, ℕ, zero, suc, ◌+◌, ◌/◌, ◌%◌, ◌^◌, ◌<◌, ◌≤◌, List, [], ◌∷◌, ◌++◌, ℤ, codes, decimal, unsigned_abs}
use Rattle.std.specs.Fmt.{sign_text}
use Rattle.std.specs.Int.{is_negative}

-- a number below 10 ^ count as so many decimal digits, zeros in front
unfoldable pub padded : ℕ → ℕ → List ℕ
padded zero n = []
padded (suc count) n = padded count (n / 10) ++ (48 + n % 10) ∷ []

-- money, in units of 10^-8 of the currency: `-` below zero, the whole part, a point, eight digits
abbrev pub money_text : ℤ → List ℕ
money_text units = sign_text (is_negative units) ++ decimal (unsigned_abs units / 100000000) ++ codes "." ++ padded 8 (unsigned_abs units % 100000000)

-- a price, in cents: the whole part, a point, two digits
abbrev pub cents_text : ℕ → List ℕ
cents_text cents = decimal (cents / 100) ++ codes "." ++ padded 2 (cents % 100)

-- no two amounts have one text, in the range of a whole number of 128 bits
abbrev pub MoneyDetermines : Type 0
MoneyDetermines = (a b : ℤ) → unsigned_abs a ≤ 2 ^ 127 → unsigned_abs b ≤ 2 ^ 127 → money_text a ≡ money_text b → a ≡ b

-- no two prices have one text, in the range of a whole number of 64 bits
abbrev pub CentsDetermine : Type 0
CentsDetermine = (a b : ℕ) → a < 2 ^ 64 → b < 2 ^ 64 → cents_text a ≡ cents_text b → a ≡ b
