-- Numbers along a path that need not be its values: what any of them give that lean the right way each week.
use Rattle.std.specs.Prelude.{ℕ, suc, ◌<◌, ℤ, pos, ◌*ℤ◌, List}
use Rattle.clr_num.specs.Direction.{AtLeast, AtMost}
use Rattle.clr_rules.specs.Rules.{IsPath, rung_at}
use Rattle.clr_season.specs.Season.{Season, IsSeason}
use Rattle.clr_model.specs.Policies.{const_tree}
use Rattle.clr_model.specs.Revenue.{cent, salvage_cents, sum_stores, of_store, full_stocks}
use Rattle.clr_model.specs.Expected.{Encloses}
use Rattle.clr_model.specs.PathValue.{weighed, IsStock}

-- Numbers for each store, weeks done and stock: times the base, each leans from the sum over the demands on the path's rung with the
-- numbers after it, and at the end from what the stock is worth. Nothing is rounded.
pub record LeansAlong (leans : ℤ → ℤ → Type 0) (season : Season) (path : List ℕ) (v : ℕ → ℕ → ℕ → ℤ) : Type 0 where
  pub week :
      (store done stock : ℕ) → IsStock season store stock → done < season.rules.weeks →
      leans (v store done stock *ℤ pos season.base) (weighed season store done (rung_at path done) (rung_at path (suc done)) stock (v store (suc done)))
  pub end : (store stock : ℕ) → IsStock season store stock → leans (v store season.rules.weeks stock) (pos cent *ℤ salvage_cents season store stock)

-- the sum over the stores of the numbers before the first week at full stocks
abbrev pub opening_sum : Season → (ℕ → ℕ → ℕ → ℤ) → ℤ
opening_sum season v = sum_stores season (λ store. v store 0 (of_store (full_stocks season) store))

-- Numbers that are at most, and numbers that are at least, what a path earns week by week: between their sums lies what it earns in
-- expectation.
abbrev pub PathNumbersEnclose : Type 0
PathNumbersEnclose =
    (season : Season) (path : List ℕ) (low high : ℕ → ℕ → ℕ → ℤ) → IsSeason season → IsPath season.rules path → LeansAlong AtMost season path low → LeansAlong AtLeast season path high →
    Encloses season (opening_sum season low) (opening_sum season high) (const_tree path)
