-- The prices of a ladder, in cents.
use Rattle.std.specs.Prelude.{ℕ, suc, ◌<◌, ◌≤◌, List, length, slice_index, EachIndex}

-- 1 to 12 prices, each from a cent to 100,000.00 and less than the one before
pub record IsLadder (prices : List ℕ) : Type 0 where
  pub some : 1 ≤ length prices
  pub few : length prices ≤ 12
  pub least : EachIndex prices (λ i. 1 ≤ slice_index prices i)
  pub most : EachIndex prices (λ i. slice_index prices i ≤ 10000000)
  pub falls : (i : ℕ) → suc i < length prices → slice_index prices (suc i) < slice_index prices i
