-- What holds of each item of a list, and tests that hold of each.
use Rattle.std.proofs.Common.{◌≡◌, ℕ, ◌+◌, ◌<◌, ◌≤◌, Bool, true, false, ◌==◌, ◌&&◌, refl, sym, subst, arith, suc, zero, List, [], ◌∷◌, slice_get, Some, ℤ, pos, negsuc, neg_ℤ, ◌≤ℤ◌}
use Rattle.std.specs.Prelude.{T, int_le, unsigned_abs}
use Rattle.std.specs.List.{AllByRecursion, list_all}
use Rattle.std.proofs.lemmas.Bool.{and_from}
use Rattle.std.proofs.lemmas.Int.{ints}
use Rattle.clr_num.specs.Lists.{numbers}
use Rattle.clr_average.specs.Average.{IsWithin}

-- ---- items

pub All-numbers : (P : ℕ → Type 0) (from count : ℕ) → ((n : ℕ) → from ≤ n → n < from + count → P n) → AllByRecursion P (numbers from count)
All-numbers P from zero h = tt
All-numbers P from (suc count) h = (h from (omega arith) (omega arith), All-numbers P (suc from) count (λ n low high. h n (omega arith) (omega arith)))

pub All-rows : {X : Type 0} (P : X → Type 0) (xs : List X) → ((k : ℕ) (x : X) → slice_get xs k ≡ Some x → P x) → AllByRecursion P xs
All-rows P [] h = tt
All-rows P (x ∷ xs) h = (h 0 x refl, All-rows P xs (λ k y e. h (suc k) y e))

pub All-at : {X : Type 0} (P : X → Type 0) (xs : List X) (k : ℕ) (x : X) → AllByRecursion P xs → slice_get xs k ≡ Some x → P x
All-at P [] k x all e = cc
All-at P (y ∷ xs) zero x all e = let same : y ≡ x = cc in subst P same all.0
All-at P (y ∷ xs) (suc k) x all e = All-at P xs k x all.1 e

pub tests_all : {X : Type 0} (test : X → Bool) (xs : List X) → AllByRecursion (λ x. test x ≡ true) xs → list_all test xs ≡ true
tests_all test [] h = refl
tests_all test (x ∷ xs) h = and_from (test x) (list_all test xs) h.0 (tests_all test xs h.1)

-- ---- orders as tests

shown : (b : Bool) → T b → b ≡ true
shown true h = refl
shown false h = absurd h

pub is_at_most : (a b : ℤ) → a ≤ℤ b → int_le a b ≡ true
is_at_most a b h = shown (int_le a b) h.le

pub is_equal : (a b : ℤ) → a ≡ b → (int_le a b && int_le b a) ≡ true
is_equal a b e = and_from (int_le a b) (int_le b a) (is_at_most a b (below a b e)) (is_at_most b a (below b a (sym e)))
  where
    below : (x y : ℤ) → x ≡ y → x ≤ℤ y
    below x y e = omega (arith, ints)

pub size_within : (most : ℕ) (number : ℤ) → IsWithin most number → unsigned_abs number ≤ most
size_within most (pos n) h = let high : pos n ≤ℤ pos most = h.high in omega (arith, ints)
size_within most (negsuc n) h = let low : neg_ℤ (pos most) ≤ℤ negsuc n = h.low in omega (arith, ints)

-- ---- weeks and stocks

pub before_end : (done weeks : ℕ) → done ≤ weeks → (done == weeks) ≡ false → done < weeks
before_end done weeks le e = grind arith

pub held_below : (stock units : ℕ) → stock < 0 + suc units → stock ≤ units
held_below stock units h = omega arith
