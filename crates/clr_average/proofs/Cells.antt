-- One cell of a row: what each step needs and gives.
use Rattle.std.proofs.Common.{sum, ◌≡◌, ℕ, zero, suc, ◌+◌, ◌-◌, ◌*◌, ◌^◌, ◌≤◌, ◌<◌, min, ℤ, pos, ◌+ℤ◌, ◌*ℤ◌, List, length, get_or, arith, refl, ap, ap₂, sym, ◌∙◌, mul-add, add-mul, mul_comm, mul_left_comm, mul-le-mul_left, mul-le-mul_right, mul-le-mul, le_trans, SFits, to_z, set, ◌≢◌, get_or-set_other, get_or-set_same, below_more}
use Rattle.std.proofs.lemmas.Int.{ints}
use mir.Syntax.{w64}
use Rattle.clr_num.specs.Direction.{IsDirection}
use Rattle.clr_average.specs.Average.{IsWithin, IsRow, mass, near, sold_mass, row_weighed}
use Rattle.clr_average.proofs.Masses.{mass_is_sum, mass_le, sold_bound, sold_next}
use Rattle.clr_average.proofs.Split.{row_split}
use Rattle.clr_average.proofs.Within.{within_64, within_more, within_sum, within_pos, within_product, near_within, within_quotient}

module _ (limit base gain reach : ℕ) (weights : List ℕ) (after : List ℤ) (is : IsRow limit base gain reach weights after) where
  whole_mass : mass weights (length weights) ≡ base
  whole_mass = mass_is_sum weights ∙ is.whole

  pub gain_read : 0 < length after → to_z w64 gain ≡ pos gain
  gain_read lt =
      let b : gain * 1 ≤ gain * length after = mul-le-mul_left gain (omega arith) in
      let top : gain * length after + reach < 2 ^ 63 = is.small in
      let low : gain < 2 ^ 63 = omega arith in
      omega (arith, ints)

  part_fits : (a : ℕ) → a ≤ base * (gain * length after + reach) → a ≤ limit
  part_fits a h = le_trans h is.fits

  values_fit : base * reach ≤ limit
  values_fit = let p : base * reach ≤ base * (gain * length after + reach) = mul-le-mul_left base (omega arith) in part_fits (base * reach) p

  both_fit : (stock : ℕ) → stock ≤ length after → base * (gain * stock) + base * reach ≤ base * (gain * length after + reach)
  both_fit stock le =
      let p : gain * stock ≤ gain * length after = mul-le-mul_left gain le in
      let q : base * (gain * stock + reach) ≤ base * (gain * length after + reach) = mul-le-mul_left base (omega arith) in
      let e : base * (gain * stock + reach) ≡ base * (gain * stock) + base * reach = mul-add base (gain * stock) reach in
      omega arith

  earned_size : (stock : ℕ) → gain * sold_mass weights stock (length weights) ≤ base * (gain * stock)
  earned_size stock =
      let p : sold_mass weights stock (length weights) ≤ mass weights (length weights) * stock = sold_bound weights stock (length weights) in
      let q : gain * sold_mass weights stock (length weights) ≤ gain * (base * stock) = mul-le-mul_left gain (rw whole_mass at p) in
      let e : gain * (base * stock) ≡ base * (gain * stock) = mul_left_comm gain base stock in
      omega arith

  part_mass : (count : ℕ) → count ≤ length weights → mass weights count * reach ≤ base * reach
  part_mass count le = let p : mass weights count ≤ mass weights (length weights) = mass_le weights count (length weights) le in mul-le-mul_right reach (rw whole_mass at p)

  pub product_fits : (stock : ℕ) → stock < length after → (k : ℕ) → k < min (length weights) (stock + 1) → IsWithin limit (pos (get_or weights k 0) *ℤ get_or after (stock - k) (pos 0))
  product_fits stock lt k h =
      let p : mass weights (suc k) ≤ mass weights (length weights) = mass_le weights (suc k) (length weights) (omega arith) in
      let whole : mass weights (length weights) ≡ base = whole_mass in
      let w : get_or weights k 0 ≤ base = omega arith in
      within_more (get_or weights k 0 * reach) limit (pos (get_or weights k 0) *ℤ get_or after (stock - k) (pos 0))
      (within_product (get_or weights k 0) reach (get_or after (stock - k) (pos 0)) (is.values (stock - k) (omega arith)))
      (le_trans (mul-le-mul_right reach w) values_fit)

  pub sums_fit : (stock : ℕ) (earned : ℤ) → stock < length after → earned ≡ pos (gain * sold_mass weights stock (length weights)) → (k : ℕ) → k ≤ min (length weights) (stock + 1) → IsWithin limit (earned +ℤ near weights after stock k)
  sums_fit stock earned lt e k h =
      let a : gain * sold_mass weights stock (length weights) ≤ base * (gain * stock) = earned_size stock in
      let b : mass weights k * reach ≤ base * reach = part_mass k (omega arith) in
      let all : base * (gain * stock) + base * reach ≤ base * (gain * length after + reach) = both_fit stock (omega arith) in
      rw e
      (within_more (base * (gain * stock) + mass weights k * reach) limit (pos (gain * sold_mass weights stock (length weights)) +ℤ near weights after stock k)
      (within_sum (base * (gain * stock)) (mass weights k * reach) (pos (gain * sold_mass weights stock (length weights))) (near weights after stock k) (within_pos (base * (gain * stock)) (gain * sold_mass weights stock (length weights)) a) (near_within weights after stock reach k is.values lt))
      (part_fits (base * (gain * stock) + mass weights k * reach) (omega arith)))

  tail_le : (tail stock : ℕ) → mass weights (length weights) ≡ tail + mass weights (min (stock + 1) (length weights)) → tail ≤ base
  tail_le tail stock e = let w : mass weights (length weights) ≡ base = whole_mass in omega arith

  pub far_fits : (tail stock : ℕ) (value : ℤ) → 0 < length after → value ≡ get_or after 0 (pos 0) → mass weights (length weights) ≡ tail + mass weights (min (stock + 1) (length weights)) → IsWithin limit (pos tail *ℤ value)
  far_fits tail stock value lt v e =
      rw v (within_more (tail * reach) limit (pos tail *ℤ get_or after 0 (pos 0)) (within_product tail reach (get_or after 0 (pos 0)) (is.values 0 lt)) (le_trans (mul-le-mul_right reach (tail_le tail stock e)) values_fit))

  -- the cell's whole sum
  pub cell_sum : (tail stock : ℕ) (earned sum value : ℤ) → value ≡ get_or after 0 (pos 0) → mass weights (length weights) ≡ tail + mass weights (min (stock + 1) (length weights)) → earned ≡ pos (gain * sold_mass weights stock (length weights)) →
      sum ≡ earned +ℤ near weights after stock (min (length weights) (stock + 1)) → sum +ℤ pos tail *ℤ value ≡ row_weighed weights gain after stock
  cell_sum tail stock earned sum value v e is_earned is_sum =
      ap₂ (λ s t. s +ℤ pos tail *ℤ t) (is_sum ∙ ap (λ t. t +ℤ near weights after stock (min (length weights) (stock + 1))) is_earned) v ∙ sym (row_split weights gain after stock tail e)

  -- and its size
  pub cell_size : (stock : ℕ) → stock < length after → IsWithin (base * (gain * length after + reach)) (row_weighed weights gain after stock)
  cell_size stock lt =
      let top : mass weights (min (stock + 1) (length weights)) ≤ mass weights (length weights) = mass_le weights (min (stock + 1) (length weights)) (length weights) (omega arith) in
      let e : mass weights (length weights) ≡ (mass weights (length weights) - mass weights (min (stock + 1) (length weights))) + mass weights (min (stock + 1) (length weights)) = omega arith in
      sized (mass weights (length weights) - mass weights (min (stock + 1) (length weights))) e
    where
      sized : (tail : ℕ) → mass weights (length weights) ≡ tail + mass weights (min (stock + 1) (length weights)) → IsWithin (base * (gain * length after + reach)) (row_weighed weights gain after stock)
      sized tail e =
          let same : min (length weights) (stock + 1) ≡ min (stock + 1) (length weights) = omega arith in
          let a : gain * sold_mass weights stock (length weights) ≤ base * (gain * stock) = earned_size stock in
          let all : base * (gain * stock) + base * reach ≤ base * (gain * length after + reach) = both_fit stock (omega arith) in
          let parts : (mass weights (min (stock + 1) (length weights)) + tail) * reach ≡ mass weights (min (stock + 1) (length weights)) * reach + tail * reach = add-mul (mass weights (min (stock + 1) (length weights))) tail reach in
          let whole : mass weights (min (stock + 1) (length weights)) + tail ≡ base = let w : mass weights (length weights) ≡ base = whole_mass in omega arith in
          let scaled : (mass weights (min (stock + 1) (length weights)) + tail) * reach ≡ base * reach = ap (λ t. t * reach) whole in
          rw (row_split weights gain after stock tail e)
          (within_more ((base * (gain * stock) + mass weights (min (length weights) (stock + 1)) * reach) + tail * reach) (base * (gain * length after + reach))
          ((pos (gain * sold_mass weights stock (length weights)) +ℤ near weights after stock (min (length weights) (stock + 1))) +ℤ pos tail *ℤ get_or after 0 (pos 0))
          (within_sum (base * (gain * stock) + mass weights (min (length weights) (stock + 1)) * reach) (tail * reach)
          (pos (gain * sold_mass weights stock (length weights)) +ℤ near weights after stock (min (length weights) (stock + 1))) (pos tail *ℤ get_or after 0 (pos 0))
          (within_sum (base * (gain * stock)) (mass weights (min (length weights) (stock + 1)) * reach) (pos (gain * sold_mass weights stock (length weights))) (near weights after stock (min (length weights) (stock + 1)))
          (within_pos (base * (gain * stock)) (gain * sold_mass weights stock (length weights)) a) (near_within weights after stock reach (min (length weights) (stock + 1)) is.values lt))
          (within_product tail reach (get_or after 0 (pos 0)) (is.values 0 (omega arith))))
          (rw same (omega arith)))

  pub cell_fits : (tail stock : ℕ) (earned sum value : ℤ) → stock < length after → value ≡ get_or after 0 (pos 0) → mass weights (length weights) ≡ tail + mass weights (min (stock + 1) (length weights)) → earned ≡ pos (gain * sold_mass weights stock (length weights)) →
      sum ≡ earned +ℤ near weights after stock (min (length weights) (stock + 1)) → IsWithin limit (sum +ℤ pos tail *ℤ value)
  cell_fits tail stock earned sum value lt v e is_earned is_sum =
      rw (cell_sum tail stock earned sum value v e is_earned is_sum) (within_more (base * (gain * length after + reach)) limit (row_weighed weights gain after stock) (cell_size stock lt) is.fits)

  pub average_fits : (leans : ℤ → ℤ → Type 0) (div : ℤ → ℕ → ℤ) → IsDirection leans div → (stock : ℕ) (total : ℤ) → stock < length after → total ≡ row_weighed weights gain after stock → SFits w64 (div total base)
  average_fits leans div laws stock total lt e =
      rw e (within_64 (div (row_weighed weights gain after stock) base) (gain * length after + reach) is.small (within_quotient leans div laws (row_weighed weights gain after stock) base (gain * length after + reach) is.some (cell_size stock lt)))

  pub earned_next : (tail stock : ℕ) (earned value : ℤ) → value ≡ pos gain → mass weights (length weights) ≡ tail + mass weights (min (stock + 1) (length weights)) → earned ≡ pos (gain * sold_mass weights stock (length weights)) →
      earned +ℤ pos tail *ℤ value ≡ pos (gain * sold_mass weights (stock + 1) (length weights))
  earned_next tail stock earned value v e is_earned =
      let next : gain * sold_mass weights (stock + 1) (length weights) ≡ gain * sold_mass weights stock (length weights) + tail * gain = ap (λ t. gain * t) (sold_next weights tail stock (length weights) e) ∙ (mul-add gain (sold_mass weights stock (length weights)) tail ∙ ap (λ t. gain * sold_mass weights stock (length weights) + t) (mul_comm gain tail)) in
      ap₂ (λ s t. s +ℤ pos tail *ℤ t) is_earned v ∙ ap pos (sym next)

  pub gain_fits : (tail stock : ℕ) (value : ℤ) → stock < length after → value ≡ pos gain → mass weights (length weights) ≡ tail + mass weights (min (stock + 1) (length weights)) → IsWithin limit (pos tail *ℤ value)
  gain_fits tail stock value lt v e =
      let a : tail * gain ≤ base * gain = mul-le-mul_right gain (tail_le tail stock e) in
      let b : gain * 1 ≤ gain * length after = mul-le-mul_left gain (omega arith) in
      let c : base * gain ≤ base * (gain * length after + reach) = mul-le-mul_left base (omega arith) in
      rw v (within_pos limit (tail * gain) (part_fits (tail * gain) (omega arith)))

  pub earned_fits : (tail stock : ℕ) (earned value : ℤ) → stock < length after → value ≡ pos gain → mass weights (length weights) ≡ tail + mass weights (min (stock + 1) (length weights)) → earned ≡ pos (gain * sold_mass weights stock (length weights)) →
      IsWithin limit (earned +ℤ pos tail *ℤ value)
  earned_fits tail stock earned value lt v e is_earned =
      let a : gain * sold_mass weights (stock + 1) (length weights) ≤ base * (gain * (stock + 1)) = earned_size (stock + 1) in
      let all : base * (gain * (stock + 1)) + base * reach ≤ base * (gain * length after + reach) = both_fit (stock + 1) (omega arith) in
      rw (earned_next tail stock earned value v e is_earned) (within_pos limit (gain * sold_mass weights (stock + 1) (length weights)) (part_fits (gain * sold_mass weights (stock + 1) (length weights)) (omega arith)))

pub row_more : (out : List ℤ) (stock : ℕ) (value : ℤ) (f : ℕ → ℤ) → stock < length out → value ≡ f stock → ((k : ℕ) → k < stock → get_or out k (pos 0) ≡ f k) → (k : ℕ) → k < stock + 1 → get_or (set out stock value) k (pos 0) ≡ f k
row_more out stock value f lt here before =
    below_more _ _
    (λ k h. let ne : k ≢ stock = omega arith in rw get_or-set_other (before k h))
    (rw get_or-set_same here)

pub start_tail : (weights : List ℕ) (base : ℕ) → sum weights ≡ base → mass weights (length weights) ≡ base + mass weights (min 0 (length weights))
start_tail weights base e = let whole : mass weights (length weights) ≡ base = mass_is_sum weights ∙ e in let none : min 0 (length weights) ≡ 0 = omega arith in rw none (omega arith)

sold_none : (weights : List ℕ) (count : ℕ) → sold_mass weights 0 count ≡ 0
sold_none weights zero = refl
sold_none weights (suc count) =
    let rest : sold_mass weights 0 count ≡ 0 = sold_none weights count in
    let none : min 0 count ≡ 0 = omega arith in
    let product : get_or weights count 0 * 0 ≡ 0 = omega arith in
    rw none (omega arith)

pub start_earned : (gain : ℕ) (weights : List ℕ) (count : ℕ) → pos 0 ≡ pos (gain * sold_mass weights 0 count)
start_earned gain weights count = let none : gain * 0 ≡ 0 = omega arith in ap pos (sym (ap (λ t. gain * t) (sold_none weights count) ∙ none))

-- within the limits of a season 128 bits hold each sum
pub wide_row : (base gain reach : ℕ) (weights : List ℕ) (after : List ℤ) → 1 ≤ base → base ≤ 1000000 → gain ≤ 10000000000000 → length after ≤ 2001 → reach ≤ 1000000000000000000 → sum weights ≡ base →
    ((k : ℕ) → k < length after → IsWithin reach (get_or after k (pos 0))) → IsRow (2 ^ 127 - 1) base gain reach weights after
wide_row base gain reach weights after some top_base top_gain size top_reach whole values =
    let earned : gain * length after ≤ 10000000000000 * 2001 = mul-le-mul top_gain size in
    let sum : gain * length after + reach ≤ 1020010000000000000 = omega arith in
    let all : base * (gain * length after + reach) ≤ 1000000 * 1020010000000000000 = mul-le-mul top_base sum in
    record { some = some; whole = whole; values = values; fits = omega arith; small = omega arith }
