-- A week's weighed sum is a row's, less the base times the cost, and the cost stands outside the average.
use Rattle.std.proofs.Common.{[], ◌∷◌, sum, ◌^◌, mul-le-mul, if◌then◌else◌, nat_eq, false, ◌≡◌, ℕ, zero, suc, ◌+◌, ◌-◌, ◌*◌, ◌≤◌, ◌<◌, min, ℤ, pos, neg_ℤ, ◌+ℤ◌, ◌-ℤ◌, ◌*ℤ◌, List, length, get_or, refl, arith, ap, ap₂, sym, ◌∙◌, mul_assoc}
use lib.IntN.{zero-*ℤ, *ℤ_comm}
use Rattle.std.proofs.lemmas.Int.{ints}
use Rattle.std.proofs.lemmas.List.{get_or_past}
use Rattle.std.proofs.lemmas.List.Sums.{sum_by-cons}
use Rattle.clr_average.specs.Average.{IsWithin}
use Rattle.clr_average.proofs.Cells.{wide_row, cell_size}
use Rattle.clr_average.proofs.Within.{within_more, within_quotient}
use Rattle.clr_num.specs.Direction.{IsDirection}
use Rattle.clr_num.specs.Lists.{numbers}
use Rattle.clr_rules.specs.Rules.{price}
use Rattle.clr_season.specs.Season.{Season, store_at}
use Rattle.clr_num.specs.Sums.{sum_over}
use Rattle.clr_model.specs.Revenue.{cent, fee, week_cents}
use Rattle.clr_model.specs.PathValue.{weighed}
use Rattle.clr_average.proofs.Ring.{linear, mul_add}
use Rattle.clr_average.proofs.Sums.{sum_over-same, sum_over-add, sum_over-scale_right, sum_over-numbers_more}
use Rattle.clr_average.specs.Average.{mass, row_weighed}
use Rattle.clr_average.proofs.Masses.{mass_is_sum}
use Rattle.clr_model.specs.Weights.{AreWeights}

module _ (weights : List ℕ) (gain : ℕ) (after : List ℤ) (stock : ℕ) (rest_is : (d : ℕ) → length weights ≤ d → get_or weights d 0 ≡ 0) where
  abbrev term : ℕ → ℤ
  term demand = pos (get_or weights demand 0) *ℤ (pos (gain * min stock demand) +ℤ get_or after (stock - min stock demand) (pos 0))

  longer_sum : (more : ℕ) → sum_over (numbers 0 (length weights + more)) term ≡ sum_over (numbers 0 (length weights)) term
  longer_sum zero = let e : length weights + 0 ≡ length weights = omega arith in ap (λ n. sum_over (numbers 0 n) term) e
  longer_sum (suc more) =
      let e : length weights + suc more ≡ suc (length weights + more) = omega arith in
      let rest : sum_over (numbers 0 (length weights + more)) term ≡ sum_over (numbers 0 (length weights)) term = longer_sum more in
      let none : get_or weights (0 + (length weights + more)) 0 ≡ 0 = rest_is (0 + (length weights + more)) (omega arith) in
      let here : term (0 + (length weights + more)) ≡ pos 0 = nothing (0 + (length weights + more)) none in
      let all : sum_over (numbers 0 (suc (length weights + more))) term ≡ sum_over (numbers 0 (length weights + more)) term +ℤ term (0 + (length weights + more)) = sum_over-numbers_more 0 (length weights + more) term in
      rw e (omega (arith, linear))
    where
      nothing : (d : ℕ) → get_or weights d 0 ≡ 0 → term d ≡ pos 0
      nothing d none = ap (λ w. pos w *ℤ (pos (gain * min stock d) +ℤ get_or after (stock - min stock d) (pos 0))) none ∙ zero-*ℤ (pos (gain * min stock d) +ℤ get_or after (stock - min stock d) (pos 0))

  pub weights_sum : (count : ℕ) → sum_over (numbers 0 count) (λ d. pos (get_or weights d 0)) ≡ pos (mass weights count)
  weights_sum zero = refl
  weights_sum (suc count) =
      let rest : sum_over (numbers 0 count) (λ d. pos (get_or weights d 0)) ≡ pos (mass weights count) = weights_sum count in
      let all : sum_over (numbers 0 (suc count)) (λ d. pos (get_or weights d 0)) ≡ sum_over (numbers 0 count) (λ d. pos (get_or weights d 0)) +ℤ pos (get_or weights (0 + count) 0) = sum_over-numbers_more 0 count (λ d. pos (get_or weights d 0)) in
      let same : get_or weights (0 + count) 0 ≡ get_or weights count 0 = ap (λ k. get_or weights k 0) (omega arith) in
      omega (arith, linear)

  longer_mass : (more : ℕ) → mass weights (length weights + more) ≡ mass weights (length weights)
  longer_mass zero = let e : length weights + 0 ≡ length weights = omega arith in ap (mass weights) e
  longer_mass (suc more) =
      let e : length weights + suc more ≡ suc (length weights + more) = omega arith in
      let rest : mass weights (length weights + more) ≡ mass weights (length weights) = longer_mass more in
      let none : get_or weights (length weights + more) 0 ≡ 0 = rest_is (length weights + more) (omega arith) in
      rw e (omega arith)

pub turn : (k n : ℕ) → pos k *ℤ neg_ℤ (pos n) ≡ neg_ℤ (pos (k * n))
turn k zero = let z : k * 0 ≡ 0 = omega arith in rw z refl
turn zero (suc n) = let z : 0 * suc n ≡ 0 = omega arith in rw z refl
turn (suc k) (suc n) = omega (arith, ints)

-- one demand's part: the cost comes out
part : (w gain price cost sold : ℕ) (value : ℤ) → gain ≡ cent * price → pos w *ℤ (pos cent *ℤ (pos (price * sold) -ℤ pos cost) +ℤ value) ≡ pos w *ℤ (pos (gain * sold) +ℤ value) +ℤ pos w *ℤ neg_ℤ (pos (cent * cost))
part w gain price cost sold value e = ap (λ t. pos w *ℤ t) inner ∙ mul_add (pos w) (pos (gain * sold) +ℤ value) (neg_ℤ (pos (cent * cost)))
  where
    scaled : pos cent *ℤ (pos (price * sold) -ℤ pos cost) ≡ pos (cent * (price * sold)) +ℤ pos cent *ℤ neg_ℤ (pos cost)
    scaled = mul_add (pos cent) (pos (price * sold)) (neg_ℤ (pos cost))

    grouped : cent * (price * sold) ≡ gain * sold
    grouped = sym (mul_assoc cent price sold) ∙ ap (λ t. t * sold) (sym e)

    inner : pos cent *ℤ (pos (price * sold) -ℤ pos cost) +ℤ value ≡ (pos (gain * sold) +ℤ value) +ℤ neg_ℤ (pos (cent * cost))
    inner =
        let a : pos cent *ℤ neg_ℤ (pos cost) ≡ neg_ℤ (pos (cent * cost)) = turn cent cost in
        let b : pos (cent * (price * sold)) ≡ pos (gain * sold) = ap pos grouped in
        let s : pos cent *ℤ (pos (price * sold) -ℤ pos cost) ≡ pos (cent * (price * sold)) +ℤ pos cent *ℤ neg_ℤ (pos cost) = scaled in
        omega (arith, linear)

pub weighed_is_row : (season : Season) (store done before rung stock : ℕ) (weights : List ℕ) (after : List ℤ) → AreWeights season store (suc done) rung weights →
    ((d : ℕ) → length weights ≤ d → get_or weights d 0 ≡ 0) →
    weighed season store done before rung stock (λ rest. get_or after rest (pos 0)) ≡ row_weighed weights (cent * price season.rules rung) after stock +ℤ neg_ℤ (pos (cent * fee season store before rung)) *ℤ pos season.base
unfolding week_cents
weighed_is_row season store done before rung stock weights after are beyond =
    let more : length weights + (suc season.top - length weights) ≡ suc season.top = let s : length weights ≤ suc season.top = are.size in omega arith in
    sum_over-same (numbers 0 (suc season.top)) _ (λ d. term weights (cent * price season.rules rung) after stock beyond d +ℤ pos (get_or weights d 0) *ℤ neg_ℤ (pos (cent * fee season store before rung)))
    (λ d. ap (λ w. pos w *ℤ (pos cent *ℤ (pos (price season.rules rung * min stock d) -ℤ pos (fee season store before rung)) +ℤ get_or after (stock - min stock d) (pos 0))) (sym (are.each d))
    ∙ part (get_or weights d 0) (cent * price season.rules rung) (price season.rules rung) (fee season store before rung) (min stock d) (get_or after (stock - min stock d) (pos 0)) refl)
    ∙ (sum_over-add (numbers 0 (suc season.top)) (term weights (cent * price season.rules rung) after stock beyond) (λ d. pos (get_or weights d 0) *ℤ neg_ℤ (pos (cent * fee season store before rung)))
    ∙ ap₂ ◌+ℤ◌ (ap (λ n. sum_over (numbers 0 n) (term weights (cent * price season.rules rung) after stock beyond)) (sym more) ∙ longer_sum weights (cent * price season.rules rung) after stock beyond (suc season.top - length weights))
    (sum_over-scale_right (numbers 0 (suc season.top)) (neg_ℤ (pos (cent * fee season store before rung))) (λ d. pos (get_or weights d 0))
    ∙ (ap (λ t. t *ℤ neg_ℤ (pos (cent * fee season store before rung))) (weights_sum weights (cent * price season.rules rung) after stock beyond (suc season.top)
    ∙ ap pos (ap (mass weights) (sym more) ∙ (longer_mass weights (cent * price season.rules rung) after stock beyond (suc season.top - length weights) ∙ (mass_is_sum weights ∙ are.whole))))
    ∙ *ℤ_comm (pos season.base) (neg_ℤ (pos (cent * fee season store before rung))))))

-- the gain of a unit, in units of value
pub unit_is : (unit paid price_is : ℕ) → unit ≡ 1000000 * paid → paid ≡ price_is → unit ≡ cent * price_is
unfolding cent
unit_is unit paid price_is e h = e ∙ ap (λ t. 1000000 * t) h

pub fee_other : (season : Season) (store before rung paid : ℕ) → nat_eq rung before ≡ false → paid ≡ (store_at season store).relabel → 1000000 * paid ≡ cent * fee season store before rung
unfolding cent
fee_other season store before rung paid other is = ap (λ t. 1000000 * t) (is ∙ sym (ap (λ b. if b then 0 else (store_at season store).relabel) other))

pub value_small : (leans : ℤ → ℤ → Type 0) (div : ℤ → ℕ → ℤ) → IsDirection leans div → (base gain reach : ℕ) (weights : List ℕ) (after : List ℤ) → 1 ≤ base → base ≤ 1000000 → gain ≤ 10000000000000 → length after ≤ 2001 → reach ≤ 1000000000000000000 → sum weights ≡ base →
    ((k : ℕ) → k < length after → IsWithin reach (get_or after k (pos 0))) → (stock : ℕ) (value : ℤ) → stock < length after → value ≡ div (row_weighed weights gain after stock) base → IsWithin 2000000000000000000 value
value_small leans div laws base gain reach weights after some top_base top_gain size top_reach whole values stock value lt is =
    let earned : gain * length after ≤ 10000000000000 * 2001 = mul-le-mul top_gain size in
    rw is (within_more (gain * length after + reach) 2000000000000000000 (div (row_weighed weights gain after stock) base)
    (within_quotient leans div laws (row_weighed weights gain after stock) base (gain * length after + reach) some
    (cell_size (2 ^ 127 - 1) base gain reach weights after (wide_row base gain reach weights after some top_base top_gain size top_reach whole values) stock lt))
    (omega arith))

pub row_is : (leans : ℤ → ℤ → Type 0) (div : ℤ → ℕ → ℤ) → IsDirection leans div → (season : Season) (store done before rung stock gain cost base : ℕ) (weights : List ℕ) (after : List ℤ) (value lowered : ℤ) →
    AreWeights season store (suc done) rung weights → 1 ≤ base → base ≡ season.base → gain ≡ cent * price season.rules rung → cost ≡ cent * fee season store before rung →
    value ≡ div (row_weighed weights gain after stock) base → lowered ≡ value -ℤ pos cost → lowered ≡ div (weighed season store done before rung stock (λ rest. get_or after rest (pos 0))) season.base
row_is leans div laws season store done before rung stock gain cost base weights after value lowered are some is_base is_gain is_cost is_value is_lowered =
    let some_base : 1 ≤ season.base = omega (arith, some, is_base) in
    is_lowered ∙ (ap (λ t. t -ℤ pos cost) (is_value ∙ (ap (λ g. div (row_weighed weights g after stock) base) is_gain ∙ ap (λ b. div (row_weighed weights (cent * price season.rules rung) after stock) b) is_base))
    ∙ (ap (λ c. div (row_weighed weights (cent * price season.rules rung) after stock) season.base -ℤ pos c) is_cost
    ∙ (sym (laws.shifts (row_weighed weights (cent * price season.rules rung) after stock) (neg_ℤ (pos (cent * fee season store before rung))) season.base some_base)
    ∙ ap (λ n. div n season.base) (sym (weighed_is_row season store done before rung stock weights after are (λ d h. get_or_past weights d 0 h))))))

-- lists of one sum: the shorter one lacks only noughts at the end
pub sum_same : (xs ys : List ℕ) → length xs ≤ length ys → ((d : ℕ) → get_or xs d 0 ≡ get_or ys d 0) → sum xs ≡ sum ys
sum_same [] [] le h = refl
sum_same [] (y ∷ ys) le h =
    let rest : sum [] ≡ sum ys = sum_same [] ys (omega arith) (λ d. h (suc d)) in
    let none : 0 ≡ y = h 0 in
    let more : sum (y ∷ ys) ≡ y + sum ys = sum_by-cons (λ w. w) y ys in
    omega (arith, rest, none, more)
sum_same (x ∷ xs) [] le h = absurd (omega arith)
sum_same (x ∷ xs) (y ∷ ys) le h =
    let shorter : length xs ≤ length ys = omega arith in
    sum_by-cons (λ w. w) x xs ∙ (ap (λ t. t + sum xs) (h 0) ∙ (ap (λ t. y + t) (sum_same xs ys shorter (λ d. h (suc d))) ∙ sym (sum_by-cons (λ w. w) y ys)))
