-- Rows of values, one for each stock of a store.
use Rattle.std.proofs.Common.{◌≡◌, ℕ, zero, suc, ◌+◌, ◌-◌, ◌*◌, ◌≤◌, ◌<◌, min, ℤ, pos, ◌+ℤ◌, ◌*ℤ◌, refl, sym, ap, ◌∙◌, subst, arith, List, length, get_or, slice_set, mul-le-mul, Bool, true, false}
use Rattle.std.specs.Prelude.{nat_lt}
use Rattle.std.proofs.lemmas.List.{get_or-set_other, get_or-set_same, length-set}
use Rattle.clr_num.specs.Lists.{numbers}
use Rattle.clr_average.specs.Average.{IsWithin}
use Rattle.clr_average.proofs.Sums.{sum_over-same}
use Rattle.clr_policy.specs.StockLists.{AreSmall, at_place, gain_of, part, stock_sum}

-- ---- the row of a stock under way

pub record IsUnderWay (weights : List ℕ) (unit cost width stock place : ℕ) (before now : List ℤ) : Type 0 where
  pub size : length now ≡ length before
  pub done : (p : ℕ) → p < place → at_place now (stock * width + p) ≡ stock_sum weights unit cost before width stock p
  pub earlier : (k : ℕ) → k < stock * width → at_place now k ≡ at_place before k
  pub later : (k : ℕ) → stock * width + place ≤ k → at_place now k ≡ at_place before k

module _ (weights : List ℕ) (unit cost width stock place : ℕ) (before now : List ℤ) (way : IsUnderWay weights unit cost width stock place before now) (inside : place < width) where
  earlier_row : (sold : ℕ) → suc sold ≤ stock → (stock - suc sold) * width + place < stock * width
  earlier_row sold le =
      let most : (stock - suc sold + 1) * width ≤ stock * width = mul-le-mul (omega (arith, le)) (omega arith) in
      let split : (stock - suc sold + 1) * width ≡ (stock - suc sold) * width + width = omega arith in
      omega (arith, most, split, inside)

  same_part : (sold : ℕ) → sold ≤ stock → part now unit cost width stock place sold ≡ part before unit cost width stock place sold
  same_part zero le =
      let own : stock - 0 ≡ stock = omega arith in
      ap (λ t. t +ℤ gain_of unit cost 0) (way.later ((stock - 0) * width + place) (rw own (omega arith)))
  same_part (suc sold) le = ap (λ t. t +ℤ gain_of unit cost (suc sold)) (way.earlier ((stock - suc sold) * width + place) (earlier_row sold le))

  pub same_sum : stock_sum weights unit cost now width stock place ≡ stock_sum weights unit cost before width stock place
  same_sum = sum_over-same (numbers 0 (length weights)) _ _ (λ demand. ap (λ t. pos (get_or weights demand 0) *ℤ t) (same_part (min stock demand) (omega arith)))

  pub still_small : (base limit : ℕ) → AreSmall base limit weights unit cost width stock place before → AreSmall base limit weights unit cost width stock place now
  still_small base limit small = record {
    based = small.based;
    whole = small.whole;
    some = small.some;
    each = λ sold le. subst (λ t. IsWithin limit t) (sym (same_part sold le)) (small.each sold le);
    fits = small.fits;
  }

  pub one_place_more : (sum value : ℤ) → stock * width + width ≤ length before → sum ≡ stock_sum weights unit cost now width stock place → value ≡ sum →
      IsUnderWay weights unit cost width stock (place + 1) before (slice_set now (stock * width + place) value)
  one_place_more sum value fits sum_is value_is = record {
    size = length-set now (stock * width + place) value ∙ way.size;
    done = λ p lt. by_place p (nat_lt p place) refl lt;
    earlier = λ k lt. get_or-set_other now (stock * width + place) k value (pos 0) (λ e. apart k (omega (arith, e, lt))) ∙ way.earlier k lt;
    later = λ k le. get_or-set_other now (stock * width + place) k value (pos 0) (λ e. apart k (omega (arith, e, le))) ∙ way.later k (omega (arith, le));
  }
    where
      apart : (k : ℕ) → ⊥ → ⊥
      apart k none = none

      within : stock * width + place < length now
      within = let size = way.size in omega (arith, size, fits, inside)

      by_place : (p : ℕ) (b : Bool) → nat_lt p place ≡ b → p < place + 1 → at_place (slice_set now (stock * width + place) value) (stock * width + p) ≡ stock_sum weights unit cost before width stock p
      by_place p true is lt =
          let low : p < place = grind (arith, is) in
          get_or-set_other now (stock * width + place) (stock * width + p) value (pos 0) (λ e. apart p (omega (arith, e, low))) ∙ way.done p low
      by_place p false is lt =
          let here : p ≡ place = grind (arith, is, lt) in
          subst (λ q. at_place (slice_set now (stock * width + place) value) (stock * width + q) ≡ stock_sum weights unit cost before width stock q) (sym here)
          (get_or-set_same now (stock * width + place) value (pos 0) within ∙ (value_is ∙ (sum_is ∙ same_sum)))
