-- Lists of a function's values, and parts of lists.
use Rattle.std.proofs.Common.{◌≡◌, ℕ, zero, suc, ◌+◌, ◌*◌, ◌<◌, List, length, map, get_or, refl, ap, ap₂, sym, ◌∙◌, arith, length-append}
use Rattle.std.specs.List.{flat_map}
use Rattle.std.proofs.Math.ListN.{get_or-append}
use Rattle.std.proofs.lemmas.List.{get_or-append-add}
use Rattle.std.proofs.lemmas.List.Concat.{flat_map-cons}
use Rattle.clr_num.specs.Lists.{numbers}

pub length-numbers : {X : Type 0} (f : ℕ → X) (from count : ℕ) → length (map f (numbers from count)) ≡ count
length-numbers f from zero = refl
length-numbers f from (suc count) = let rest : length (map f (numbers (suc from) count)) ≡ count = length-numbers f (suc from) count in omega arith

pub get_or-numbers : {X : Type 0} (f : ℕ → X) (from count i : ℕ) (d : X) → i < count → get_or (map f (numbers from count)) i d ≡ f (from + i)
get_or-numbers f from zero i d lt = absurd (omega arith)
get_or-numbers f from (suc count) zero d lt = let e : from + 0 ≡ from = omega arith in ap f (sym e)
get_or-numbers f from (suc count) (suc i) d lt = let e : suc from + i ≡ from + suc i = omega arith in get_or-numbers f (suc from) count i d (omega arith) ∙ ap f e

-- pieces of one length, one after another
pub length-pieces : {X : Type 0} (g : ℕ → List X) (from count size : ℕ) → ((k : ℕ) → length (g k) ≡ size) → length (flat_map g (numbers from count)) ≡ count * size
length-pieces g from zero size h = let e : 0 * size ≡ 0 = omega arith in sym e
length-pieces g from (suc count) size h =
    let rest : length (flat_map g (numbers (suc from) count)) ≡ count * size = length-pieces g (suc from) count size h in
    let e : suc count * size ≡ size + count * size = omega arith in
    ap length (flat_map-cons g from (numbers (suc from) count)) ∙ (length-append (g from) (flat_map g (numbers (suc from) count)) ∙ (ap₂ ◌+◌ (h from) rest ∙ sym e))

pub get_or-pieces : {X : Type 0} (g : ℕ → List X) (from count size row item : ℕ) (d : X) → ((k : ℕ) → length (g k) ≡ size) → row < count → item < size → get_or (flat_map g (numbers from count)) (row * size + item) d ≡ get_or (g (from + row)) item d
get_or-pieces g from zero size row item d h p q = absurd (omega arith)
get_or-pieces g from (suc count) size zero item d h p q =
    let e : 0 * size + item ≡ item = omega arith in
    let none : from + 0 ≡ from = omega arith in
    let inside : item < length (g from) = omega (arith, h from) in
    ap₂ (λ xs k. get_or xs k d) (flat_map-cons g from (numbers (suc from) count)) e
    ∙ (get_or-append (g from) (flat_map g (numbers (suc from) count)) d item inside ∙ ap (λ k. get_or (g k) item d) (sym none))
get_or-pieces g from (suc count) size (suc row) item d h p q =
    let product : suc row * size ≡ size + row * size = omega arith in
    let e : suc row * size + item ≡ length (g from) + (row * size + item) = omega (arith, h from) in
    let next : suc from + row ≡ from + suc row = omega arith in
    ap₂ (λ xs k. get_or xs k d) (flat_map-cons g from (numbers (suc from) count)) e
    ∙ (get_or-append-add (g from) (flat_map g (numbers (suc from) count)) (row * size + item) d
    ∙ (get_or-pieces g (suc from) count size row item d h (omega arith) q ∙ ap (λ k. get_or (g k) item d) next))
