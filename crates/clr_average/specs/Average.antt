-- The averages of a row: one number for each stock from 0 up.
use Rattle.std.specs.Prelude.{sum, ◌≡◌, ℕ, ◌<◌, ◌^◌, zero, suc, ◌+◌, ◌-◌, ◌*◌, ◌≤◌, min, ℤ, pos, neg_ℤ, ◌+ℤ◌, ◌*ℤ◌, ◌≤ℤ◌, List, length, get_or}
use Rattle.clr_num.specs.Lists.{numbers}
use Rattle.clr_num.specs.Sums.{sum_over}

-- no larger than this, and no less than its opposite
pub record IsWithin (limit : ℕ) (number : ℤ) : Type 0 where
  pub low : neg_ℤ (pos limit) ≤ℤ number
  pub high : number ≤ℤ pos limit

-- the sum of the first numbers
abbrev pub mass : List ℕ → ℕ → ℕ
mass weights zero = 0
mass weights (suc count) = mass weights count + get_or weights count 0

-- the first weights times what their demands sell of a stock
abbrev pub sold_mass : List ℕ → ℕ → ℕ → ℕ
sold_mass weights stock zero = 0
sold_mass weights stock (suc count) = sold_mass weights stock count + get_or weights count 0 * min stock count

-- the first weights times the values of what their demands leave of a stock
abbrev pub near : List ℕ → List ℤ → ℕ → ℕ → ℤ
near weights after stock zero = pos 0
near weights after stock (suc count) = near weights after stock count +ℤ pos (get_or weights count 0) *ℤ get_or after (stock - count) (pos 0)

-- the weights times (what the sold units earn and the value of what is left), summed over the demands
abbrev pub row_weighed : List ℕ → ℕ → List ℤ → ℕ → ℤ
row_weighed weights gain after stock =
    sum_over (numbers 0 (length weights)) (λ demand. pos (get_or weights demand 0) *ℤ (pos (gain * min stock demand) +ℤ get_or after (stock - min stock demand) (pos 0)))

-- weights that sum to the base, values no larger than a reach, and sums within the limit
pub record IsRow (limit base gain reach : ℕ) (weights : List ℕ) (after : List ℤ) : Type 0 where
  pub some : 1 ≤ base
  pub whole : sum weights ≡ base
  pub values : (k : ℕ) → k < length after → IsWithin reach (get_or after k (pos 0))
  pub fits : base * (gain * length after + reach) ≤ limit
  pub small : gain * length after + reach < 2 ^ 63
