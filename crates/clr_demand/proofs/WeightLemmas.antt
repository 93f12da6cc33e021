-- Look-ups in lists over numbers, and the rows of a flat table.
use Rattle.std.proofs.Common.{◌≡◌, ◌<◌, ◌≤◌, ◌+◌, ◌-◌, ◌*◌, ◌∙◌, ℕ, zero, suc, List, [], length, map, drop, get_or, refl, ap, arith}
use Rattle.std.specs.Prelude.{sum}
use Rattle.std.proofs.lemmas.List.Sums.{sum_by-take-drop}
use Rattle.std.proofs.lemmas.Nat.{mul-le}
use Rattle.clr_num.specs.Lists.{nth, numbers}
use Rattle.clr_demand.proofs.PlaceLemmas.{radix-less}
use Rattle.clr_demand.specs.Places.{size}
use Rattle.clr_demand.specs.Weights.{flat_row, nested, row_number}
use Rattle.clr_demand.specs.declared.shape.Shape.{Shape}

pub get_or-map-numbers : {X : Type 0} (f : ℕ → X) (from count i : ℕ) (d : X) → i < count → get_or (map f (numbers from count)) i d ≡ f (from + i)
get_or-map-numbers f from zero i d h = absurd (omega arith)
get_or-map-numbers f from (suc count) zero d h = let same : from ≡ from + 0 = omega arith in ap f same
get_or-map-numbers f from (suc count) (suc i) d h =
    let shift : suc from + i ≡ from + suc i = omega arith in
    get_or-map-numbers f (suc from) count i d (omega arith) ∙ ap f shift

pub length-map-numbers : {X : Type 0} (f : ℕ → X) (from count : ℕ) → length (map f (numbers from count)) ≡ count
length-map-numbers f from zero = refl
length-map-numbers f from (suc count) = ap suc (length-map-numbers f (suc from) count)

pub nth-map-numbers : {X : Type 0} (f : ℕ → X) (count i : ℕ) (d : X) → 1 ≤ i → i ≤ count → nth (map f (numbers 1 count)) i d ≡ f i
nth-map-numbers f count zero d low high = absurd (omega arith)
nth-map-numbers f count (suc i) d low high = let same : 1 + i ≡ suc i = omega arith in get_or-map-numbers f 1 count i d (omega arith) ∙ ap f same

-- the row of a store, a week and a rung
pub nested-row : (stores weeks rungs width : ℕ) (flat : List ℕ) (store week rung : ℕ) → 1 ≤ store → store ≤ stores → 1 ≤ week → week ≤ weeks → 1 ≤ rung → rung ≤ rungs →
    nth (nth (nth (nested stores weeks rungs width flat) store []) week []) rung [] ≡ flat_row width flat (row_number weeks rungs store week rung)
nested-row stores weeks rungs width flat store week rung s1 s2 w1 w2 r1 r2 =
    ap (λ (x : List (List (List ℕ))). nth (nth x week []) rung []) (nth-map-numbers (λ s. map (λ w. map (λ r. flat_row width flat (row_number weeks rungs s w r)) (numbers 1 rungs)) (numbers 1 weeks)) stores store [] s1 s2)
    ∙ (ap (λ (x : List (List ℕ)). nth x rung []) (nth-map-numbers (λ w. map (λ r. flat_row width flat (row_number weeks rungs store w r)) (numbers 1 rungs)) weeks week [] w1 w2)
    ∙ nth-map-numbers (λ r. flat_row width flat (row_number weeks rungs store week r)) rungs rung [] r1 r2)

-- a row lies in its table
pub row-fits : (shape : Shape) (store week rung : ℕ) → 1 ≤ store → store ≤ shape.stores → 1 ≤ week → week ≤ shape.weeks → 1 ≤ rung → rung ≤ shape.rungs →
    (row_number shape.weeks shape.rungs store week rung + 1) * (shape.top + 1) ≤ size shape
row-fits shape store week rung s1 s2 w1 w2 r1 r2 =
    let weeks = radix-less (store - 1) (week - 1) shape.stores shape.weeks (omega arith) (omega arith) in
    let rungs = radix-less ((store - 1) * shape.weeks + (week - 1)) (rung - 1) (shape.stores * shape.weeks) shape.rungs weeks (omega arith) in
    mul-le (row_number shape.weeks shape.rungs store week rung + 1) (shape.top + 1) (shape.stores * shape.weeks * shape.rungs) (shape.top + 1) (omega (arith, rungs)) (omega arith)

-- a sum from some place on is at most the whole sum
pub sum-drop : (xs : List ℕ) (k : ℕ) → sum (drop k xs) ≤ sum xs
sum-drop xs k = omega (arith, sum_by-take-drop (λ (x : ℕ). x) xs k)
