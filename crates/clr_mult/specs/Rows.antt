-- The rows of a table, one for each week and rung, with an entry for each store.
use Rattle.std.specs.Prelude.{◌≡◌, ℕ, suc, ◌+◌, ◌*◌, ◌<◌, ◌≤◌, ℤ, pos, ◌-ℤ◌, ◌*ℤ◌, List, drop, get_or, length, sum, take}
use Rattle.clr_mult.specs.Steps.{direction_of}

-- a row of so many stores
abbrev pub row_at : {X : Type 0} → ℕ → List X → ℕ → List X
row_at stores entries row = take stores (drop (row * stores) entries)

-- the entry of a row after a step
abbrev pub moved : ℕ → List ℕ → List ℤ → ℕ → ℤ
moved q usage row i = get_or row i (pos 0) -ℤ pos q *ℤ direction_of (get_or usage i 0) (sum usage) (length usage) (suc i)

-- the first rows are those after a step, and the others are as before
pub record AreRowsMoved (q stores rows : ℕ) (usage : List ℕ) (before after : List ℤ) : Type 0 where
  pub done : (row i : ℕ) → row < rows → i < stores → get_or after (row * stores + i) (pos 0) ≡ moved q (row_at stores usage row) (row_at stores before row) i
  pub ahead : (k : ℕ) → rows * stores ≤ k → get_or after k (pos 0) ≡ get_or before k (pos 0)
