-- Lists over a range of numbers.
use Rattle.std.proofs.Common.{◌≡◌, ◌≢◌, ◌<◌, ◌≤◌, ◌+◌, ◌∙◌, ℕ, zero, suc, List, [], ◌∷◌, ◌++◌, length, map, Bool, true, false, refl, sym, ap, arith}
use Rattle.std.specs.Prelude.{◌&&◌, ◌==◌}
use Rattle.std.specs.List.{AllByRecursion, flat_map, list_all}
use Rattle.std.proofs.lemmas.Bool.{eq-eqb, eqb-true}
use Rattle.std.proofs.lemmas.List.{map-append}
use Rattle.clr_num.specs.Lists.{numbers}

both-true : (a b : Bool) → (a && b) ≡ true → (a ≡ true) × (b ≡ true)
both-true true b e = (refl, e)
both-true false b e = cc e

-- what a test says of each number of a range
pub passes-at : (test : ℕ → Bool) (from count n : ℕ) → list_all test (numbers from count) ≡ true → from ≤ n → n < from + count → test n ≡ true
passes-at test from zero n e low high = absurd (omega arith)
passes-at test from (suc count) n e low high =
    let parts = both-true (test from) (list_all test (numbers (suc from) count)) e in
    let cases : (b : Bool) → (from == n) ≡ b → test n ≡ true =
    elim [
      | true ↦ λ same. rw (← eqb-true from n same) parts.0
      | false ↦ λ other.
          let apart : from ≢ n = λ at. let bad : true ≡ false = sym (eq-eqb from n at) ∙ other in cc bad in
          passes-at test (suc from) count n parts.1 (omega (arith, apart, low)) (omega arith)
    ] in
    cases (from == n) refl

-- what holds of each
pub all-map : {X : Type 0} (P : X → Type 0) (f : ℕ → X) (from count : ℕ) → ((n : ℕ) → from ≤ n → n < from + count → P (f n)) → AllByRecursion P (map f (numbers from count))
all-map P f from zero h = tt
all-map P f from (suc count) h = (h from (omega arith) (omega arith), all-map P f (suc from) count (λ n low high. h n (omega arith) (omega arith)))

pub map-flat : {X Y : Type 0} (g : X → Y) (f : ℕ → List X) (xs : List ℕ) → map g (flat_map f xs) ≡ flat_map (λ n. map g (f n)) xs
map-flat g f [] = refl
map-flat g f (n ∷ xs) = map-append g (f n) (flat_map f xs) ∙ ap (λ t. map g (f n) ++ t) (map-flat g f xs)

pub numbers-length : (from count : ℕ) → length (numbers from count) ≡ count
numbers-length from zero = refl
numbers-length from (suc count) = ap suc (numbers-length (suc from) count)
