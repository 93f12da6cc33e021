-- A row's sum in parts: what is earned, the demands up to the stock, and the rest of them together.
use Rattle.std.proofs.Common.{◌≡◌, ℕ, zero, suc, ◌+◌, ◌-◌, ◌*◌, ◌≤◌, ◌<◌, min, ℤ, pos, ◌+ℤ◌, ◌*ℤ◌, List, length, get_or, refl, sym, ap, ◌∙◌, subst, arith, mul_left_comm, mul-add, inl, inr}
use Rattle.std.proofs.lemmas.Bool.{cases_lt}
use lib.IntN.{zero-*ℤ}
use Rattle.clr_num.specs.Lists.{numbers}
use Rattle.clr_num.specs.Sums.{sum_over}
use Rattle.clr_average.proofs.Ring.{linear, mul_add, add_mul}
use Rattle.clr_average.proofs.Sums.{sum_over-numbers_more}
use Rattle.clr_average.specs.Average.{mass, near, sold_mass, row_weighed}

add_none : (a : ℤ) → a ≡ a +ℤ pos 0
add_none a = omega (arith, linear)

module _ (weights : List ℕ) (gain : ℕ) (after : List ℤ) (stock : ℕ) where
  weight : ℕ → ℕ
  weight demand = get_or weights demand 0

  term : ℕ → ℤ
  term demand = pos (get_or weights demand 0) *ℤ (pos (gain * min stock demand) +ℤ get_or after (stock - min stock demand) (pos 0))

  -- the demands beyond the stock
  extra : ℕ → ℕ
  extra zero = 0
  extra (suc more) = extra more + get_or weights (suc stock + more) 0

  extra_mass : (more : ℕ) → extra more + mass weights (suc stock) ≡ mass weights (suc stock + more)
  unfolding extra
  extra_mass zero = let e : suc stock + 0 ≡ suc stock = omega arith in let same : mass weights (suc stock) ≡ mass weights (suc stock + 0) = ap (mass weights) (sym e) in omega arith
  extra_mass (suc more) =
      let rest : extra more + mass weights (suc stock) ≡ mass weights (suc stock + more) = extra_mass more in
      let e : suc stock + suc more ≡ suc (suc stock + more) = omega arith in
      rw e (omega arith)

  term_part : (demand left : ℕ) → stock - min stock demand ≡ left → term demand ≡ pos (gain * (get_or weights demand 0 * min stock demand)) +ℤ pos (get_or weights demand 0) *ℤ get_or after left (pos 0)
  unfolding term
  term_part demand left e =
      ap (λ k. pos (get_or weights demand 0) *ℤ (pos (gain * min stock demand) +ℤ get_or after k (pos 0))) e
      ∙ (mul_add (pos (get_or weights demand 0)) (pos (gain * min stock demand)) (get_or after left (pos 0))
      ∙ ap (λ k. pos k +ℤ pos (get_or weights demand 0) *ℤ get_or after left (pos 0)) (mul_left_comm (get_or weights demand 0) gain (min stock demand)))

  gain_more : (count : ℕ) → pos (gain * sold_mass weights stock (suc count)) ≡ pos (gain * sold_mass weights stock count) +ℤ pos (gain * (get_or weights count 0 * min stock count))
  gain_more count = ap pos (mul-add gain (sold_mass weights stock count) (get_or weights count 0 * min stock count))

  split_low : (count : ℕ) → count ≤ suc stock → sum_over (numbers 0 count) term ≡ pos (gain * sold_mass weights stock count) +ℤ near weights after stock count
  split_low zero h = let e : gain * 0 ≡ 0 = omega arith in rw e refl
  split_low (suc count) h =
      let rest : sum_over (numbers 0 count) term ≡ pos (gain * sold_mass weights stock count) +ℤ near weights after stock count = split_low count (omega arith) in
      let left : stock - min stock count ≡ stock - count = omega arith in
      let here : term (0 + count) ≡ pos (gain * (get_or weights count 0 * min stock count)) +ℤ pos (get_or weights count 0) *ℤ get_or after (stock - count) (pos 0) = ap term (omega arith) ∙ term_part count (stock - count) left in
      let more : pos (gain * sold_mass weights stock (suc count)) ≡ pos (gain * sold_mass weights stock count) +ℤ pos (gain * (get_or weights count 0 * min stock count)) = gain_more count in
      let all : sum_over (numbers 0 (suc count)) term ≡ sum_over (numbers 0 count) term +ℤ term (0 + count) = sum_over-numbers_more 0 count term in
      omega (arith, linear)

  split_high : (more : ℕ) → sum_over (numbers 0 (suc stock + more)) term ≡ (pos (gain * sold_mass weights stock (suc stock + more)) +ℤ near weights after stock (suc stock)) +ℤ pos (extra more) *ℤ get_or after 0 (pos 0)
  unfolding extra
  split_high zero =
      let e : suc stock + 0 ≡ suc stock = omega arith in
      let none : pos 0 *ℤ get_or after 0 (pos 0) ≡ pos 0 = zero-*ℤ (get_or after 0 (pos 0)) in
      let low : sum_over (numbers 0 (suc stock)) term ≡ pos (gain * sold_mass weights stock (suc stock)) +ℤ near weights after stock (suc stock) = split_low (suc stock) (omega arith) in
      rw e (omega (arith, linear))
  split_high (suc more) =
      let e : suc stock + suc more ≡ suc (suc stock + more) = omega arith in
      let rest : sum_over (numbers 0 (suc stock + more)) term ≡ (pos (gain * sold_mass weights stock (suc stock + more)) +ℤ near weights after stock (suc stock)) +ℤ pos (extra more) *ℤ get_or after 0 (pos 0) = split_high more in
      let left : stock - min stock (suc stock + more) ≡ 0 = omega arith in
      let here : term (0 + (suc stock + more)) ≡ pos (gain * (get_or weights (suc stock + more) 0 * min stock (suc stock + more))) +ℤ pos (get_or weights (suc stock + more) 0) *ℤ get_or after 0 (pos 0) = ap term (omega arith) ∙ term_part (suc stock + more) 0 left in
      let more_gain : pos (gain * sold_mass weights stock (suc (suc stock + more))) ≡ pos (gain * sold_mass weights stock (suc stock + more)) +ℤ pos (gain * (get_or weights (suc stock + more) 0 * min stock (suc stock + more))) = gain_more (suc stock + more) in
      let all : sum_over (numbers 0 (suc (suc stock + more))) term ≡ sum_over (numbers 0 (suc stock + more)) term +ℤ term (0 + (suc stock + more)) = sum_over-numbers_more 0 (suc stock + more) term in
      let product : pos (extra more + get_or weights (suc stock + more) 0) *ℤ get_or after 0 (pos 0) ≡ pos (extra more) *ℤ get_or after 0 (pos 0) +ℤ pos (get_or weights (suc stock + more) 0) *ℤ get_or after 0 (pos 0) = add_mul (pos (extra more)) (pos (get_or weights (suc stock + more) 0)) (get_or after 0 (pos 0)) in
      rw e (omega (arith, linear))

  pub row_split : (tail : ℕ) → mass weights (length weights) ≡ tail + mass weights (min (stock + 1) (length weights)) →
      row_weighed weights gain after stock ≡ (pos (gain * sold_mass weights stock (length weights)) +ℤ near weights after stock (min (length weights) (stock + 1))) +ℤ pos tail *ℤ get_or after 0 (pos 0)
  unfolding term
  row_split tail e = elim (cases_lt (suc stock) (length weights)) [ (inl lt) ↦ beyond lt | (inr le) ↦ upto le ]
    where
      upto : length weights ≤ suc stock → row_weighed weights gain after stock ≡ (pos (gain * sold_mass weights stock (length weights)) +ℤ near weights after stock (min (length weights) (stock + 1))) +ℤ pos tail *ℤ get_or after 0 (pos 0)
      upto le =
          let a : min (length weights) (stock + 1) ≡ length weights = omega arith in
          let b : min (stock + 1) (length weights) ≡ length weights = omega arith in
          let known : mass weights (length weights) ≡ tail + mass weights (length weights) = rw b at e in
          let none : tail ≡ 0 = omega arith in
          let zeros : pos 0 *ℤ get_or after 0 (pos 0) ≡ pos 0 = zero-*ℤ (get_or after 0 (pos 0)) in
          let low : sum_over (numbers 0 (length weights)) term ≡ pos (gain * sold_mass weights stock (length weights)) +ℤ near weights after stock (length weights) = split_low (length weights) le in
          rw (a, none, zeros) (low ∙ add_none (pos (gain * sold_mass weights stock (length weights)) +ℤ near weights after stock (length weights)))

      beyond : suc stock < length weights → row_weighed weights gain after stock ≡ (pos (gain * sold_mass weights stock (length weights)) +ℤ near weights after stock (min (length weights) (stock + 1))) +ℤ pos tail *ℤ get_or after 0 (pos 0)
      beyond lt =
          let more : suc stock + (length weights - suc stock) ≡ length weights = omega arith in
          let a : min (length weights) (stock + 1) ≡ suc stock = omega arith in
          let b : min (stock + 1) (length weights) ≡ suc stock = omega arith in
          let known : mass weights (length weights) ≡ tail + mass weights (suc stock) = rw b at e in
          let far : extra (length weights - suc stock) + mass weights (suc stock) ≡ mass weights (suc stock + (length weights - suc stock)) = extra_mass (length weights - suc stock) in
          let far_all : extra (length weights - suc stock) + mass weights (suc stock) ≡ mass weights (length weights) = far ∙ ap (mass weights) more in
          let same : extra (length weights - suc stock) ≡ tail = omega arith in
          let high = split_high (length weights - suc stock) in
          rw a (subst (λ t. sum_over (numbers 0 (length weights)) term ≡ (pos (gain * sold_mass weights stock (length weights)) +ℤ near weights after stock (suc stock)) +ℤ pos t *ℤ get_or after 0 (pos 0)) same
          (subst (λ n. sum_over (numbers 0 n) term ≡ (pos (gain * sold_mass weights stock n) +ℤ near weights after stock (suc stock)) +ℤ pos (extra (length weights - suc stock)) *ℤ get_or after 0 (pos 0)) more high))
