-- The rows of a flat table hold what is listed, and sum to the totals.
use Rattle.std.proofs.Common.{◌≡◌, ◌≤◌, ◌<◌, ◌+◌, ◌*◌, ◌∙◌, ℕ, zero, suc, List, [], ◌∷◌, length, map, drop, get_or, refl, ap, ap₂, arith}
use Rattle.std.specs.Prelude.{sum}
use Rattle.std.proofs.lemmas.List.{get_or-drop, get_or-take, length-drop, length-take-le}
use Rattle.std.proofs.lemmas.List.Sums.{sum_by-cons}
use Rattle.clr_num.specs.Lists.{numbers}
use Rattle.clr_demand.proofs.TotalLemmas.{in-units, listed-sum, sum_to, sum_to-same}
use Rattle.clr_demand.proofs.WeightLemmas.{row-fits}
use Rattle.clr_demand.specs.Demand.{Listed, key, listed_weight, total}
use Rattle.clr_demand.specs.Places.{AreCells, IsIn, place}
use Rattle.clr_demand.specs.Weights.{flat_row, row_number}
use Rattle.clr_demand.specs.declared.shape.Shape.{Shape}

-- a list by its items
from-items : (f : ℕ → ℕ) (from : ℕ) (xs : List ℕ) → ((u : ℕ) → u < length xs → get_or xs u 0 ≡ f (from + u)) → xs ≡ map f (numbers from (length xs))
from-items f from [] items = refl
from-items f from (x ∷ xs) items =
    let start : from + 0 ≡ from = omega arith in
    let first : x ≡ f from = items 0 (omega arith) ∙ ap f start in
    ap₂ ◌∷◌ first (from-items f (suc from) xs (λ u less. let next : from + suc u ≡ suc from + u = omega arith in items (suc u) (omega arith) ∙ ap f next))

sum_to-front : (n : ℕ) (f : ℕ → ℕ) → sum_to (suc n) f ≡ f 0 + sum_to n (λ i. f (suc i))
sum_to-front zero f = omega arith
sum_to-front (suc n) f = let ih = sum_to-front n f in omega (arith, ih)

sum-numbers : (f : ℕ → ℕ) (from count : ℕ) → sum (map f (numbers from count)) ≡ sum_to count (λ i. f (from + i))
sum-numbers f from zero = refl
sum-numbers f from (suc count) =
    let ih = sum-numbers f (suc from) count in
    let start : from + 0 ≡ from = omega arith in
    let front = sum_to-front count (λ i. f (from + i)) in
    let shift = sum_to-same count (λ i. f (suc from + i)) (λ i. f (from + suc i)) (λ u l. let next : suc from + u ≡ from + suc u = omega arith in ap f next) in
    sum_by-cons (λ (n : ℕ). n) (f from) (map f (numbers (suc from) count)) ∙ omega (arith, ih, shift, front, ap f start)

pub length-flat : (shape : Shape) (flat : List ℕ) (row : ℕ) → (row + 1) * (shape.top + 1) ≤ length flat → length (flat_row (shape.top + 1) flat row) ≡ shape.top + 1
length-flat shape flat row fits =
    let rest : shape.top + 1 ≤ length (drop (row * (shape.top + 1)) flat) = omega (arith, length-drop (row * (shape.top + 1)) flat, fits) in
    length-take-le (shape.top + 1) (drop (row * (shape.top + 1)) flat) rest

pub is-in : (shape : Shape) (store week rung : ℕ) → 1 ≤ store → store ≤ shape.stores → 1 ≤ week → week ≤ shape.weeks → 1 ≤ rung → rung ≤ shape.rungs → IsIn shape (key store week rung 0)
is-in shape store week rung s1 s2 w1 w2 r1 r2 = record { store_low = s1; store_high = s2; week_low = w1; week_high = w2; rung_low = r1; rung_high = r2; units_high = omega arith }

-- what stands at a place of a row
row-item : (shape : Shape) (flat : List ℕ) (store week rung u : ℕ) → u < shape.top + 1 →
    get_or (flat_row (shape.top + 1) flat (row_number shape.weeks shape.rungs store week rung)) u 0 ≡ get_or flat (place shape (key store week rung u)) 0
unfolding place
row-item shape flat store week rung u less =
    let start = row_number shape.weeks shape.rungs store week rung * (shape.top + 1) in
    get_or-take (shape.top + 1) (drop start flat) u 0 less ∙ get_or-drop start flat u 0

module _ (shape : Shape) (listed : List Listed) (rows old : List ℕ) (cells : AreCells shape rows old listed) where
  pub fits : (store week rung : ℕ) → IsIn shape (key store week rung 0) → (row_number shape.weeks shape.rungs store week rung + 1) * (shape.top + 1) ≤ length old
  fits store week rung i = omega (arith, row-fits shape store week rung i.store_low i.store_high i.week_low i.week_high i.rung_low i.rung_high, cells.weights_size)

  pub old-row : (store week rung : ℕ) → IsIn shape (key store week rung 0) →
      flat_row (shape.top + 1) old (row_number shape.weeks shape.rungs store week rung) ≡ map (λ u. listed_weight listed (key store week rung u)) (numbers 0 (shape.top + 1))
  old-row store week rung i =
      let row = flat_row (shape.top + 1) old (row_number shape.weeks shape.rungs store week rung) in
      let long : length row ≡ shape.top + 1 = length-flat shape old (row_number shape.weeks shape.rungs store week rung) (fits store week rung i) in
      let item : (u : ℕ) → u < length row → get_or row u 0 ≡ listed_weight listed (key store week rung (0 + u)) =
      λ u less.
      let under : u < shape.top + 1 = omega (arith, less, long) in
      let plain : u ≡ 0 + u = omega arith in
      row-item shape old store week rung u under
      ∙ (cells.weight_at (key store week rung u) (in-units shape store week rung u i (omega arith)) ∙ ap (λ t. listed_weight listed (key store week rung t)) plain) in
      from-items (λ u. listed_weight listed (key store week rung u)) 0 row item
      ∙ ap (λ t. map (λ u. listed_weight listed (key store week rung u)) (numbers 0 t)) long

  pub listed-total : (store week rung : ℕ) → sum (map (λ u. listed_weight listed (key store week rung u)) (numbers 0 (shape.top + 1))) ≡ total listed store week rung
  listed-total store week rung =
      sum-numbers (λ u. listed_weight listed (key store week rung u)) 0 (shape.top + 1)
      ∙ (sum_to-same (shape.top + 1) (λ u. listed_weight listed (key store week rung (0 + u))) (λ u. listed_weight listed (key store week rung u)) (λ u l. let plain : 0 + u ≡ u = omega arith in ap (λ t. listed_weight listed (key store week rung t)) plain)
      ∙ listed-sum shape.top store week rung listed cells.within)

  pub row-total : (store week rung : ℕ) → IsIn shape (key store week rung 0) → sum (flat_row (shape.top + 1) old (row_number shape.weeks shape.rungs store week rung)) ≡ total listed store week rung
  row-total store week rung i = ap sum (old-row store week rung i) ∙ listed-total store week rung
