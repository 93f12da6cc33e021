-- Totals over the stores.
use Rattle.std.proofs.Common.{◌≡◌, ℕ, zero, suc, ◌+◌, ◌-◌, ◌*◌, ◌≤◌, ◌<◌, ◌^◌, ℤ, pos, ◌+ℤ◌, ◌*ℤ◌, List, [], ◌∷◌, length, map, get_or, refl, ap, ap₂, sym, ◌∙◌, subst, arith, to_z, of_z, SFits, add-one, mul-le-mul}
use Rattle.std.proofs.lemmas.Int.{to_z-of_z}
use mir.Syntax.{w128}
use Rattle.clr_stock.specs.Stock.{Store, IsStore, no_store}
use Rattle.clr_num.specs.Sums.{sum_of}
use Rattle.clr_season.specs.Season.{Season, IsSeason, store_at}
use Rattle.clr_average.specs.Average.{IsWithin}
use Rattle.clr_average.proofs.Reading.{within_128}
use Rattle.clr_average.proofs.Sums.{sum_of_more}
use Rattle.clr_average.proofs.Within.{within_more, within_pos, within_sum}
use Rattle.clr_model.specs.Revenue.{cent, full_stocks, of_store, salvage_cents}
use Rattle.clr_model.proofs.Sizes.{store_within}

-- ---- one store

units_at : (xs : List Store) (i : ℕ) (d : Store) → i < length xs → get_or (map (λ s. s.units) xs) i 0 ≡ (get_or xs i d).units
units_at [] i d lt = absurd (omega arith)
units_at (x ∷ xs) zero d lt = refl
units_at (x ∷ xs) (suc i) d lt = units_at xs i d (omega arith)

-- the whole stock of a store
pub full_stock : (season : Season) (i : ℕ) → i < length season.stores → of_store (full_stocks season) (suc i) ≡ (store_at season (suc i)).units
full_stock season i lt = units_at season.stores i no_store lt

pub salvage_within : (season : Season) (store stock : ℕ) → IsSeason season → 1 ≤ store → store ≤ length season.stores → stock ≤ (store_at season store).units → IsWithin 1000000000000000000 (pos cent *ℤ salvage_cents season store stock)
unfolding cent
salvage_within season store stock is first last held =
    let holds : IsStore (store_at season store) = store_within season store is first last in
    let units : (store_at season store).units ≤ 2000 = holds.units in
    let most : stock ≤ 2000 = omega (arith, held, units) in
    let paid : (store_at season store).salvage ≤ 10000000 = holds.salvage in
    let worth : (store_at season store).salvage * stock ≤ 10000000 * 2000 = mul-le-mul paid most in
    within_pos 1000000000000000000 (1000000 * ((store_at season store).salvage * stock)) (omega (arith, worth))

-- ---- one store more

module _ (f : ℕ → ℤ) (i : ℕ) (before value : ℤ) (few : i < 64) (so_far : before ≡ sum_of i f) (size : IsWithin (i * 1030000000000000000) before) (here : value ≡ f i) (small : IsWithin 1030000000000000000 value) where
  pub size_next : IsWithin ((i + 1) * 1030000000000000000) (before +ℤ value)
  size_next = let e : i * 1030000000000000000 + 1030000000000000000 ≡ (i + 1) * 1030000000000000000 = omega arith in subst (λ n. IsWithin n (before +ℤ value)) e (within_sum (i * 1030000000000000000) 1030000000000000000 before value size small)

  fits : SFits w128 (before +ℤ value)
  fits = within_128 (before +ℤ value) (within_more ((i + 1) * 1030000000000000000) (2 ^ 127 - 1) (before +ℤ value) size_next (omega arith))

  value_fits : SFits w128 value
  value_fits = within_128 value (within_more 1030000000000000000 (2 ^ 127 - 1) value small (omega arith))

  pub read_more : to_z w128 (of_z w128 (before +ℤ to_z w128 (of_z w128 value))) ≡ before +ℤ value
  read_more = ap (λ x. to_z w128 (of_z w128 (before +ℤ x))) (to_z-of_z w128 value value_fits) ∙ to_z-of_z w128 (before +ℤ value) fits

  pub sum_next : before +ℤ value ≡ sum_of (i + 1) f
  sum_next = ap₂ ◌+ℤ◌ so_far here ∙ (sym (sum_of_more i f) ∙ ap (λ n. sum_of n f) (sym (add-one i)))

-- the numbers so far
pub record IsTotal (f : ℕ → ℤ) (count : ℕ) (total : ℤ) : Type 0 where
  pub sum : total ≡ sum_of count f
  pub size : IsWithin (count * 1030000000000000000) total

pub total_more : (f : ℕ → ℤ) (i : ℕ) (before value : ℤ) → i < 64 → IsTotal f i before → value ≡ f i → IsWithin 1030000000000000000 value → IsTotal f (i + 1) (to_z w128 (of_z w128 (before +ℤ to_z w128 (of_z w128 value))))
total_more f i before value few so_far here small =
    subst (IsTotal f (i + 1)) (sym (read_more f i before value few so_far.sum so_far.size here small))
    (record { sum = sum_next f i before value few so_far.sum so_far.size here small; size = size_next f i before value few so_far.sum so_far.size here small })

pub total_small : (f : ℕ → ℤ) (count : ℕ) (total : ℤ) → count ≤ 64 → IsTotal f count total → IsWithin 100000000000000000000 total
total_small f count total few is = within_more (count * 1030000000000000000) 100000000000000000000 total is.size (omega arith)
