-- One store's demands at a place: those that sell in full one by one, and the rest together.
use Rattle.std.proofs.Common.{◌≡◌, ℕ, zero, suc, ◌+◌, ◌-◌, ◌*◌, ◌^◌, ◌≤◌, ◌<◌, min, ℤ, pos, ◌+ℤ◌, ◌*ℤ◌, refl, sym, ap, ap₂, ◌∙◌, subst, arith, List, [], ◌∷◌, ◌++◌, length, get_or, drop, sum, add-mul, mul-le-mul, le_trans, SFits}
use Rattle.std.proofs.lemmas.Int.{to_z-of_z}
use Rattle.std.proofs.lemmas.List.{drop_more}
use Rattle.std.proofs.lemmas.List.Sums.{sum_by-cons}
use mir.Syntax.{w128}
use lib.IntN.{zero-*ℤ}
use Rattle.clr_num.specs.Lists.{numbers}
use Rattle.clr_num.specs.Sums.{sum_over}
use Rattle.clr_average.specs.Average.{IsWithin, mass}
use Rattle.clr_average.proofs.Reading.{read, within_128}
use Rattle.clr_average.proofs.Ring.{linear}
use Rattle.clr_average.proofs.Sums.{sum_over-scale_right, sum_over-numbers_more}
use Rattle.clr_average.proofs.Within.{within_more, within_pos, within_product, within_sum}
use Rattle.clr_model.proofs.Sums.{sum_over-append, sum_over-same_among}
use Rattle.std.specs.List.{AllByRecursion}
use Rattle.clr_policy.specs.StockLists.{AreSmall, most_total, part, stock_sum, sum_below}

-- ---- at 128 bits

pub product_read : (f v t u : ℤ) → f ≡ t → v ≡ u → SFits w128 f → SFits w128 v → SFits w128 (t *ℤ u) → read w128 (read w128 f *ℤ read w128 v) ≡ t *ℤ u
product_read f v t u e d ff fv fp = ap (read w128) (ap₂ ◌*ℤ◌ (to_z-of_z w128 f ff ∙ e) (to_z-of_z w128 v fv ∙ d)) ∙ to_z-of_z w128 (t *ℤ u) fp

pub in_128 : (z : ℤ) → IsWithin most_total z → SFits w128 z
in_128 z h = within_128 z (within_more most_total (2 ^ 127 - 1) z h (omega arith))

-- ---- the weights of the rest

pub mass-rest : (weights : List ℕ) (count : ℕ) → count ≤ length weights → mass weights count + sum (drop count weights) ≡ sum weights
mass-rest weights zero h = omega arith
mass-rest weights (suc count) h =
    let before : mass weights count + sum (drop count weights) ≡ sum weights = mass-rest weights count (omega arith) in
    let split : drop count weights ≡ get_or weights count 0 ∷ drop (count + 1) weights = drop_more weights count 0 (omega arith) in
    let more : sum (drop count weights) ≡ get_or weights count 0 + sum (drop (count + 1) weights) = ap sum split ∙ sum_by-cons (λ w. w) (get_or weights count 0) (drop (count + 1) weights) in
    let one : count + 1 ≡ suc count = omega arith in
    let next : sum (drop (count + 1) weights) ≡ sum (drop (suc count) weights) = ap (λ k. sum (drop k weights)) one in
    omega (arith, before, more, next)

sum-rest : (weights : List ℕ) (from count : ℕ) → from + count ≡ length weights → sum_over (numbers from count) (λ demand. pos (get_or weights demand 0)) ≡ pos (sum (drop from weights))
sum-rest weights from zero e = ap (λ list. pos (sum list)) (sym (all_dropped weights from (omega (arith, e))))
  where
    all_dropped : (xs : List ℕ) (n : ℕ) → length xs ≤ n → drop n xs ≡ []
    all_dropped [] zero h = refl
    all_dropped [] (suc n) h = refl
    all_dropped (x ∷ xs) zero h = absurd (none h)
      where
        none : suc (length xs) ≤ 0 → ⊥
        none p = omega arith
    all_dropped (x ∷ xs) (suc n) h = all_dropped xs n (omega arith)
sum-rest weights from (suc count) e =
    let later : sum_over (numbers (suc from) count) (λ demand. pos (get_or weights demand 0)) ≡ pos (sum (drop (suc from) weights)) = sum-rest weights (suc from) count (omega (arith, e)) in
    let split : drop from weights ≡ get_or weights from 0 ∷ drop (from + 1) weights = drop_more weights from 0 (omega (arith, e)) in
    let one : from + 1 ≡ suc from = omega arith in
    let next : drop (from + 1) weights ≡ drop (suc from) weights = ap (λ k. drop k weights) one in
    let more : sum (drop from weights) ≡ get_or weights from 0 + sum (drop (suc from) weights) = ap sum split ∙ (sum_by-cons (λ w. w) (get_or weights from 0) (drop (from + 1) weights) ∙ ap (λ list. get_or weights from 0 + sum list) next) in
    ap (λ t. pos (get_or weights from 0) +ℤ t) later ∙ ap pos (sym more)

numbers-split : (from a b : ℕ) → numbers from (a + b) ≡ numbers from a ++ numbers (from + a) b
numbers-split from zero b = let none : 0 + b ≡ b = omega arith in let same : from + 0 ≡ from = omega arith in rw (none, same) refl
numbers-split from (suc a) b =
    let more : suc a + b ≡ suc (a + b) = omega arith in
    let same : suc from + a ≡ from + suc a = omega arith in
    rw more (ap (λ t. from ∷ t) (numbers-split (suc from) a b ∙ ap (λ k. numbers (suc from) a ++ numbers k b) same))

among : (P : ℕ → Type 0) (from count : ℕ) → ((n : ℕ) → from ≤ n → n < from + count → P n) → AllByRecursion P (numbers from count)
among P from zero h = tt
among P from (suc count) h = (h from (omega arith) (omega arith), among P (suc from) count (λ n p q. h n (omega arith) (omega arith)))

-- ---- a place

module _ (weights : List ℕ) (unit cost : ℕ) (values : List ℤ) (width stock place : ℕ) where
  sold_part : ℕ → ℤ
  sold_part = part values unit cost width stock place

  pub sum_splits : 1 ≤ length weights → (count : ℕ) → count ≡ min stock (length weights - 1) →
      stock_sum weights unit cost values width stock place ≡ sum_below weights unit cost values width stock place count +ℤ pos (sum (drop count weights)) *ℤ (part values unit cost width stock place count)
  unfolding sold_part
  sum_splits some count is =
      let size : length weights ≡ count + (length weights - count) = omega (arith, is, some) in
      let start : 0 + count ≡ count = omega arith in
      let term : ℕ → ℤ = λ demand. pos (get_or weights demand 0) *ℤ sold_part (min stock demand) in
      let low : sum_over (numbers 0 count) term ≡ sum_over (numbers 0 count) (λ demand. pos (get_or weights demand 0) *ℤ sold_part demand)
      = sum_over-same_among (numbers 0 count) term (λ demand. pos (get_or weights demand 0) *ℤ sold_part demand) (among _ 0 count (λ n p q. let same : min stock n ≡ n = omega (arith, is, q) in ap (λ k. pos (get_or weights n 0) *ℤ sold_part k) same)) in
      let high : sum_over (numbers count (length weights - count)) term ≡ sum_over (numbers count (length weights - count)) (λ demand. pos (get_or weights demand 0) *ℤ sold_part count)
      = sum_over-same_among (numbers count (length weights - count)) term (λ demand. pos (get_or weights demand 0) *ℤ sold_part count) (among _ count (length weights - count) (λ n p q. let same : min stock n ≡ count = omega (arith, is, p, q) in ap (λ k. pos (get_or weights n 0) *ℤ sold_part k) same)) in
      ap (λ n. sum_over (numbers 0 n) term) size
      ∙ (ap (λ list. sum_over list term) (numbers-split 0 count (length weights - count))
      ∙ (sum_over-append (numbers 0 count) (numbers (0 + count) (length weights - count)) term
      ∙ ap₂ ◌+ℤ◌ low
      (ap (λ k. sum_over (numbers k (length weights - count)) term) start
      ∙ (high ∙ (sum_over-scale_right (numbers count (length weights - count)) (sold_part count) (λ demand. pos (get_or weights demand 0)) ∙ ap (λ t. t *ℤ sold_part count) (sum-rest weights count (length weights - count) (sym size)))))))

  pub below_more : (demand : ℕ) → sum_below weights unit cost values width stock place (suc demand) ≡ sum_below weights unit cost values width stock place demand +ℤ pos (get_or weights demand 0) *ℤ (part values unit cost width stock place demand)
  below_more demand =
      let start : 0 + demand ≡ demand = omega arith in
      sum_over-numbers_more 0 demand (λ d. pos (get_or weights d 0) *ℤ part values unit cost width stock place d)
      ∙ ap (λ k. sum_below weights unit cost values width stock place demand +ℤ pos (get_or weights k 0) *ℤ part values unit cost width stock place k) start

  pub below_skips : (demand : ℕ) → get_or weights demand 0 ≡ 0 → sum_below weights unit cost values width stock place (suc demand) ≡ sum_below weights unit cost values width stock place demand
  below_skips demand none =
      let nothing : pos (get_or weights demand 0) *ℤ (part values unit cost width stock place demand) ≡ pos 0 = rw none (zero-*ℤ (part values unit cost width stock place demand)) in
      let more = below_more demand in
      omega (arith, linear, nothing, more)

  -- ---- sizes

  module _ (base limit : ℕ) (small : AreSmall base limit weights unit cost width stock place values) where
    pub part_within : (sold : ℕ) → sold ≤ stock → IsWithin limit (part values unit cost width stock place sold)
    part_within sold le = small.each sold le

    limit_small : limit ≤ most_total
    limit_small = let more : 1 * limit ≤ base * limit = mul-le-mul small.based (omega arith) in omega (arith, more, small.fits)

    pub part_total : (sold : ℕ) → sold ≤ stock → IsWithin most_total (part values unit cost width stock place sold)
    part_total sold le = within_more limit most_total _ (part_within sold le) limit_small

    pub weighed_total : (weight sold : ℕ) → weight ≤ base → sold ≤ stock → IsWithin most_total (pos weight *ℤ (part values unit cost width stock place sold))
    weighed_total weight sold light le =
        let more : weight * limit ≤ base * limit = mul-le-mul light (omega arith) in
        within_more (weight * limit) most_total _ (within_product weight limit _ (part_within sold le)) (le_trans more small.fits)

    below_within : (count : ℕ) → count ≤ suc stock → IsWithin (mass weights count * limit) (sum_below weights unit cost values width stock place count)
    below_within zero h = within_pos (0 * limit) 0 (omega arith)
    below_within (suc count) h =
        subst (λ t. IsWithin (mass weights (suc count) * limit) t) (sym (below_more count))
        (subst (λ n. IsWithin n (sum_below weights unit cost values width stock place count +ℤ pos (get_or weights count 0) *ℤ part values unit cost width stock place count)) (sym (add-mul (mass weights count) (get_or weights count 0) limit))
        (within_sum (mass weights count * limit) (get_or weights count 0 * limit) _ _ (below_within count (omega arith)) (within_product (get_or weights count 0) limit _ (part_within count (omega arith)))))

    light : (count : ℕ) → count ≤ length weights → mass weights count ≤ base
    light count h = let all = mass-rest weights count h in omega (arith, all, small.whole)

    pub below_total : (count : ℕ) → count ≤ suc stock → count ≤ length weights → IsWithin most_total (sum_below weights unit cost values width stock place count)
    below_total count h size =
        let more : mass weights count * limit ≤ base * limit = mul-le-mul (light count size) (omega arith) in
        within_more (mass weights count * limit) most_total _ (below_within count h) (le_trans more small.fits)

    pub weight_light : (demand : ℕ) → demand < length weights → get_or weights demand 0 ≤ base
    weight_light demand lt = let all = light (suc demand) (omega arith) in omega (arith, all)

    pub rest_light : (count : ℕ) → count ≤ length weights → sum (drop count weights) ≤ base
    rest_light count h = let all = mass-rest weights count h in omega (arith, all, small.whole)

    pub sum_within : stock ≤ 2000 → IsWithin (base * limit) (stock_sum weights unit cost values width stock place)
    sum_within few =
        let count : ℕ = min stock (length weights - 1) in
        let all : mass weights count + sum (drop count weights) ≡ base = mass-rest weights count (omega (arith, small.some)) ∙ small.whole in
        subst (λ t. IsWithin (base * limit) t) (sym (sum_splits small.some count refl))
        (subst (λ n. IsWithin n (sum_below weights unit cost values width stock place count +ℤ pos (sum (drop count weights)) *ℤ part values unit cost width stock place count)) (sym (add-mul (mass weights count) (sum (drop count weights)) limit) ∙ ap (λ k. k * limit) all)
        (within_sum (mass weights count * limit) (sum (drop count weights) * limit) _ _ (below_within count (omega arith)) (within_product (sum (drop count weights)) limit _ (part_within count (omega arith)))))

    pub sum_total : stock ≤ 2000 → IsWithin most_total (stock_sum weights unit cost values width stock place)
    sum_total few = within_more (base * limit) most_total _ (sum_within few) small.fits

pub plus_none : (total x : ℤ) (weight : ℕ) → weight ≡ 0 → total ≡ total +ℤ pos weight *ℤ x
plus_none total x weight none = let nothing : pos weight *ℤ x ≡ pos 0 = rw none (zero-*ℤ x) in omega (arith, linear, nothing)
