-- Laws of sums.
use Rattle.std.proofs.Common.{◌+◌, ◌≡◌, ℕ, ℤ, ◌+ℤ◌, ◌*ℤ◌, refl, sym, ap, ◌∙◌, arith, suc, zero, List, [], ◌∷◌}
use mathlib.Core.Path.{fun_ext}
use lib.IntN.{*ℤ_comm, *ℤ-zero}
use Rattle.clr_num.specs.Lists.{numbers}
use Rattle.clr_num.specs.Sums.{sum_over, sum_of}
use Rattle.clr_average.proofs.Ring.{linear, mul_add}

pub sum_over-same : {X : Type 0} (xs : List X) (f g : X → ℤ) → ((x : X) → f x ≡ g x) → sum_over xs f ≡ sum_over xs g
sum_over-same xs f g h = ap (λ k. sum_over xs k) (fun_ext h)

pub sum_over-add : {X : Type 0} (xs : List X) (f g : X → ℤ) → sum_over xs (λ x. f x +ℤ g x) ≡ sum_over xs f +ℤ sum_over xs g
sum_over-add [] f g = refl
sum_over-add (x ∷ xs) f g =
    let rest : sum_over xs (λ y. f y +ℤ g y) ≡ sum_over xs f +ℤ sum_over xs g = sum_over-add xs f g in
    omega (arith, linear)

pub sum_over-scale : {X : Type 0} (xs : List X) (c : ℤ) (f : X → ℤ) → sum_over xs (λ x. c *ℤ f x) ≡ c *ℤ sum_over xs f
sum_over-scale [] c f = sym (*ℤ-zero c)
sum_over-scale (x ∷ xs) c f = ap (λ t. c *ℤ f x +ℤ t) (sum_over-scale xs c f) ∙ sym (mul_add c (f x) (sum_over xs f))

pub sum_over-scale_right : {X : Type 0} (xs : List X) (c : ℤ) (f : X → ℤ) → sum_over xs (λ x. f x *ℤ c) ≡ sum_over xs f *ℤ c
sum_over-scale_right xs c f = sum_over-same xs (λ x. f x *ℤ c) (λ x. c *ℤ f x) (λ x. *ℤ_comm (f x) c) ∙ (sum_over-scale xs c f ∙ *ℤ_comm c (sum_over xs f))

-- ---- one term more at the end, as a loop adds it

pub sum_over-numbers_more : (from count : ℕ) (f : ℕ → ℤ) → sum_over (numbers from (suc count)) f ≡ sum_over (numbers from count) f +ℤ f (from + count)
sum_over-numbers_more from zero f =
    let e : from + 0 ≡ from = omega arith in
    let same : f (from + 0) ≡ f from = ap f e in
    omega (arith, linear)
sum_over-numbers_more from (suc count) f =
    let e : suc from + count ≡ from + suc count = omega arith in
    let rest : sum_over (numbers (suc from) (suc count)) f ≡ sum_over (numbers (suc from) count) f +ℤ f (suc from + count) = sum_over-numbers_more (suc from) count f in
    let same : f (suc from + count) ≡ f (from + suc count) = ap f e in
    omega (arith, linear)

pub sum_of_more : (n : ℕ) (f : ℕ → ℤ) → sum_of (suc n) f ≡ sum_of n f +ℤ f n
sum_of_more zero f = omega (arith, linear)
sum_of_more (suc n) f =
    let rest : sum_of (suc n) (λ i. f (suc i)) ≡ sum_of n (λ i. f (suc i)) +ℤ f (suc n) = sum_of_more n (λ i. f (suc i)) in
    omega (arith, linear)
