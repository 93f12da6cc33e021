-- Lists of a function's values at the numbers from one on.
use Rattle.std.proofs.Common.{◌≡◌, ℕ, zero, suc, ◌+◌, ◌<◌, [], ◌∷◌, ◌++◌, length, map, get_or, refl, ap, ap₂, sym, ◌∙◌, arith}
use Rattle.clr_num.specs.Lists.{numbers}

pub length-numbers : {X : Type 0} (f : ℕ → X) (from count : ℕ) → length (map f (numbers from count)) ≡ count
length-numbers f from zero = refl
length-numbers f from (suc count) = let rest : length (map f (numbers (suc from) count)) ≡ count = length-numbers f (suc from) count in omega arith

pub get_or-numbers : {X : Type 0} (f : ℕ → X) (from count i : ℕ) (d : X) → i < count → get_or (map f (numbers from count)) i d ≡ f (from + i)
get_or-numbers f from zero i d lt = absurd (omega arith)
get_or-numbers f from (suc count) zero d lt = let e : from + 0 ≡ from = omega arith in ap f (sym e)
get_or-numbers f from (suc count) (suc i) d lt = let e : suc from + i ≡ from + suc i = omega arith in get_or-numbers f (suc from) count i d (omega arith) ∙ ap f e

pub numbers_more : {X : Type 0} (f : ℕ → X) (from count : ℕ) → map f (numbers from (suc count)) ≡ map f (numbers from count) ++ f (from + count) ∷ []
numbers_more f from zero = let e : from + 0 ≡ from = omega arith in ap (λ k. f k ∷ []) (sym e)
numbers_more f from (suc count) = let e : suc from + count ≡ from + suc count = omega arith in ap (λ l. f from ∷ l) (numbers_more f (suc from) count ∙ ap (λ k. map f (numbers (suc from) count) ++ f k ∷ []) e)

pub numbers_same : {X : Type 0} (f g : ℕ → X) (from count : ℕ) → ((i : ℕ) → i < count → f (from + i) ≡ g (from + i)) → map f (numbers from count) ≡ map g (numbers from count)
numbers_same f g from zero h = refl
numbers_same f g from (suc count) h =
    let e : from + 0 ≡ from = omega arith in
    let here : f from ≡ g from = ap f (sym e) ∙ (h 0 (omega arith) ∙ ap g e) in
    ap₂ ◌∷◌ here (numbers_same f g (suc from) count (λ i lt. let k : suc from + i ≡ from + suc i = omega arith in ap f k ∙ (h (suc i) (omega arith) ∙ ap g (sym k))))
