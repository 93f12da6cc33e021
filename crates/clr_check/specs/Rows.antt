-- Rows of numbers that are kept.
use Rattle.std.specs.Prelude.{◌≡◌, ℕ, ◌+◌, ◌<◌, ◌≤◌, ◌⊎◌, List, [], length, get_or, ℤ, pos}
use Rattle.clr_average.specs.Average.{IsWithin}

-- a number of one of several rows
abbrev pub kept_at : List (List ℤ) → ℕ → ℕ → ℤ
kept_at rows row index = get_or (get_or rows row []) index (pos 0)

-- a row has the first of some numbers, so many of them, from an index on, and else what it had
pub record IsRowPut (old : List ℤ) (from : ℕ) (numbers : List ℤ) (count : ℕ) (new : List ℤ) : Type 0 where
  pub size : length new ≡ length old
  pub there : (k : ℕ) → k < count → get_or new (from + k) (pos 0) ≡ get_or numbers k (pos 0)
  pub before : (k : ℕ) → k < from → get_or new k (pos 0) ≡ get_or old k (pos 0)
  pub after : (k : ℕ) → from + count ≤ k → get_or new k (pos 0) ≡ get_or old k (pos 0)

-- one of the rows has some numbers from an index on, and else they have what they had
pub record IsPut (old : List (List ℤ)) (row from : ℕ) (numbers : List ℤ) (new : List (List ℤ)) : Type 0 where
  pub count : length new ≡ length old
  pub put : IsRowPut (get_or old row []) from numbers (length numbers) (get_or new row [])
  pub others : (other : ℕ) → (other < row) ⊎ (row < other) → get_or new other [] ≡ get_or old other []

-- no number is larger than this
abbrev pub AreSmall : ℕ → List ℤ → Type 0
AreSmall most numbers = (k : ℕ) → k < length numbers → IsWithin most (get_or numbers k (pos 0))

-- so many rows, each of its length, and no number of them is larger than this
pub record AreRowsOf (many : ℕ) (size : ℕ → ℕ) (most : ℕ) (rows : List (List ℤ)) : Type 0 where
  pub count : length rows ≡ many
  pub sizes : (row : ℕ) → row < many → length (get_or rows row []) ≡ size row
  pub small : (row index : ℕ) → IsWithin most (kept_at rows row index)
