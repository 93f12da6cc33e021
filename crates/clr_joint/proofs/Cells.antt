-- The sum over a store's demands at one place.
use Rattle.std.proofs.Common.{◌≡◌, ℕ, zero, suc, ◌+◌, ◌-◌, ◌*◌, ◌^◌, ◌≤◌, ◌<◌, min, ℤ, pos, ◌+ℤ◌, ◌*ℤ◌, List, length, get_or, arith, ap, ap₂, sym, ◌∙◌, subst, to_z, SFits, add-mul, mul-le-mul_left, mul-le-mul_right, le_refl}
use Rattle.std.proofs.lemmas.Int.{ints, to_z-of_z}
use mir.Syntax.{w128}
use Rattle.clr_average.specs.Average.{IsWithin, mass}
use Rattle.clr_average.proofs.Masses.{mass_is_sum, mass_le}
use Rattle.clr_average.proofs.Reading.{read, within_128}
use Rattle.clr_average.proofs.Sums.{sum_over-numbers_more}
use Rattle.clr_average.proofs.Within.{within_more, within_pos, within_product, within_sum}
use Rattle.clr_joint.specs.Folds.{IsCell, cell_sum}

-- ---- reading

earned_read : (item : ℤ) (earned : ℕ) → earned < 2 ^ 127 → SFits w128 item → read w128 item +ℤ to_z w128 earned ≡ item +ℤ pos earned
earned_read item earned low fits =
    let known : to_z w128 earned ≡ pos earned = omega (arith, ints) in
    ap₂ ◌+ℤ◌ (to_z-of_z w128 item fits) known

pub step_read : (total weight item : ℤ) (count earned : ℕ) → weight ≡ pos count → SFits w128 total → SFits w128 weight → SFits w128 item → earned < 2 ^ 127 → IsWithin (2 ^ 127 - 1) (item +ℤ pos earned) → IsWithin (2 ^ 127 - 1) (pos count *ℤ (item +ℤ pos earned)) →
    read w128 total +ℤ read w128 (read w128 weight *ℤ read w128 (read w128 item +ℤ to_z w128 earned)) ≡ total +ℤ pos count *ℤ (item +ℤ pos earned)
step_read total weight item count earned is total_fits weight_fits item_fits low inner product =
    let value : read w128 (read w128 item +ℤ to_z w128 earned) ≡ item +ℤ pos earned = ap (read w128) (earned_read item earned low item_fits) ∙ to_z-of_z w128 (item +ℤ pos earned) (within_128 (item +ℤ pos earned) inner) in
    let times : read w128 (read w128 weight *ℤ read w128 (read w128 item +ℤ to_z w128 earned)) ≡ pos count *ℤ (item +ℤ pos earned)
    = ap (read w128) (ap₂ ◌*ℤ◌ (to_z-of_z w128 weight weight_fits ∙ is) value) ∙ to_z-of_z w128 (pos count *ℤ (item +ℤ pos earned)) (within_128 (pos count *ℤ (item +ℤ pos earned)) product) in
    ap₂ ◌+ℤ◌ (to_z-of_z w128 total total_fits) times

-- ---- sizes

module _ (base reach unit stock : ℕ) (weights : List ℕ) (items : List ℤ) (is : IsCell base reach unit stock weights items) (place stride : ℕ) (inside : place < length items) where
  abbrev value : ℕ → ℤ
  value demand = get_or items (place - min demand stock * stride) (pos 0) +ℤ pos (unit * min demand stock)

  pub earned_most : (sold : ℕ) → sold ≤ stock → unit * sold < 2 ^ 127
  earned_most sold le =
      let most : unit * sold ≤ unit * stock = mul-le-mul_left unit le in
      let once : 1 * (reach + unit * stock) ≤ base * (reach + unit * stock) = mul-le-mul_right (reach + unit * stock) is.some in
      omega (arith, is.fits)

  pub value_within : (demand : ℕ) → IsWithin (reach + unit * stock) (value demand)
  value_within demand =
      let most : unit * min demand stock ≤ unit * stock = mul-le-mul_left unit (omega arith) in
      within_sum reach (unit * stock) (get_or items (place - min demand stock * stride) (pos 0)) (pos (unit * min demand stock)) (is.values (place - min demand stock * stride) (omega arith)) (within_pos (unit * stock) (unit * min demand stock) most)

  pub inner_within : (demand : ℕ) → IsWithin (2 ^ 127 - 1) (value demand)
  inner_within demand =
      let once : 1 * (reach + unit * stock) ≤ base * (reach + unit * stock) = mul-le-mul_right (reach + unit * stock) is.some in
      within_more (reach + unit * stock) (2 ^ 127 - 1) (value demand) (value_within demand) (omega (arith, is.fits))

  weight_most : (count : ℕ) → count ≤ length weights → mass weights count ≤ base
  weight_most count le = subst (λ n. mass weights count ≤ n) (mass_is_sum weights ∙ is.whole) (mass_le weights count (length weights) le)

  pub sum_within : (count : ℕ) → count ≤ length weights → IsWithin (mass weights count * (reach + unit * stock)) (cell_sum weights unit items place stock stride count)
  sum_within zero le = within_pos (0 * (reach + unit * stock)) 0 (omega arith)
  sum_within (suc count) le =
      let here : get_or weights (0 + count) 0 ≡ get_or weights count 0 = ap (λ k. get_or weights k 0) (omega arith) in
      let split : mass weights (suc count) * (reach + unit * stock) ≡ mass weights count * (reach + unit * stock) + get_or weights count 0 * (reach + unit * stock) = add-mul (mass weights count) (get_or weights count 0) (reach + unit * stock) in
      subst (λ t. IsWithin (mass weights (suc count) * (reach + unit * stock)) t) (sym (sum_over-numbers_more 0 count (λ demand. pos (get_or weights demand 0) *ℤ value demand)))
      (subst (λ n. IsWithin n (cell_sum weights unit items place stock stride count +ℤ pos (get_or weights (0 + count) 0) *ℤ value (0 + count))) (sym (split ∙ ap (λ w. mass weights count * (reach + unit * stock) + w * (reach + unit * stock)) (sym here)))
      (within_sum (mass weights count * (reach + unit * stock)) (get_or weights (0 + count) 0 * (reach + unit * stock)) (cell_sum weights unit items place stock stride count) (pos (get_or weights (0 + count) 0) *ℤ value (0 + count)) (sum_within count (omega arith))
      (within_product (get_or weights (0 + count) 0) (reach + unit * stock) (value (0 + count)) (value_within (0 + count)))))

  limited : (count : ℕ) → count ≤ base → count * (reach + unit * stock) ≤ 2 ^ 127 - 1
  limited count le = let most : count * (reach + unit * stock) ≤ base * (reach + unit * stock) = mul-le-mul_right (reach + unit * stock) le in omega (arith, is.fits)

  pub product_within : (demand : ℕ) → demand < length weights → IsWithin (2 ^ 127 - 1) (pos (get_or weights demand 0) *ℤ value demand)
  product_within demand lt =
      let most : mass weights (suc demand) ≤ base = weight_most (suc demand) (omega arith) in
      within_more (get_or weights demand 0 * (reach + unit * stock)) (2 ^ 127 - 1) (pos (get_or weights demand 0) *ℤ value demand) (within_product (get_or weights demand 0) (reach + unit * stock) (value demand) (value_within demand))
      (limited (get_or weights demand 0) (omega arith))

  -- one demand more
  pub cell_more : (demand : ℕ) → cell_sum weights unit items place stock stride demand +ℤ pos (get_or weights demand 0) *ℤ value demand ≡ cell_sum weights unit items place stock stride (suc demand)
  cell_more demand =
      let none : 0 + demand ≡ demand = omega arith in
      sym (sum_over-numbers_more 0 demand (λ d. pos (get_or weights d 0) *ℤ value d) ∙ ap (λ k. cell_sum weights unit items place stock stride demand +ℤ pos (get_or weights k 0) *ℤ value k) none)

  pub whole_within : IsWithin (base * (reach + unit * stock)) (cell_sum weights unit items place stock stride (length weights))
  whole_within = subst (λ n. IsWithin (n * (reach + unit * stock)) (cell_sum weights unit items place stock stride (length weights))) (mass_is_sum weights ∙ is.whole) (sum_within (length weights) (le_refl (length weights)))

  pub next_within : (demand : ℕ) → demand < length weights → IsWithin (2 ^ 127 - 1) (cell_sum weights unit items place stock stride demand +ℤ pos (get_or weights demand 0) *ℤ value demand)
  next_within demand lt =
      subst (IsWithin (2 ^ 127 - 1)) (sym (cell_more demand))
      (within_more (mass weights (suc demand) * (reach + unit * stock)) (2 ^ 127 - 1) (cell_sum weights unit items place stock stride (suc demand)) (sum_within (suc demand) (omega arith)) (limited (mass weights (suc demand)) (weight_most (suc demand) (omega arith))))
