-- The first of some conditions that fails, found one after another.
use Rattle.std.proofs.Common.{◌≡◌, ℕ, ◌+◌, ◌<◌, ◌≤◌, Bool, true, false, not, cond, refl, sym, ap, ◌∙◌, arith, suc, zero, List, [], ◌∷◌, ◌++◌, map, Some, None, Option, inl, inr, eq-or-lt_of_le}
use Rattle.std.specs.Prelude.{option_map, find, is_some}
use Rattle.std.specs.List.{filter, flat_map}
use Rattle.clr_num.specs.Lists.{numbers}
use Rattle.clr_cert.specs.Conditions.{Condition}
use Rattle.clr_check.specs.declared.faults.Fault.{Fault}
use Rattle.clr_check.specs.Faults.{fault_of, first_fault}

-- the first of two that is there
abbrev pub first_of : {X : Type 0} → Option X → Option X → Option X
first_of None b = b
first_of (Some x) b = Some x

-- a fault among the first conditions is the fault of all
pub first_append : (xs ys : List Condition) → first_fault (xs ++ ys) ≡ first_of (first_fault xs) (first_fault ys)
first_append [] ys = refl
first_append (x ∷ xs) ys = go x.holds (first_append xs ys)
  where
    go : (b : Bool) → first_fault (xs ++ ys) ≡ first_of (first_fault xs) (first_fault ys) →
        option_map fault_of (cond (not b) (Some x) (find (λ c. not c.holds) (xs ++ ys))) ≡ first_of (option_map fault_of (cond (not b) (Some x) (find (λ c. not c.holds) xs))) (first_fault ys)
    go true later = later
    go false later = refl

-- no condition of the first blocks fails
pub none_so_far : (f : ℕ → List Condition) (from count : ℕ) → ((n : ℕ) → from ≤ n → n < from + count → first_fault (f n) ≡ None) → first_fault (flat_map f (numbers from count)) ≡ None
none_so_far f from zero h = refl
none_so_far f from (suc count) h =
    first_append (f from) (flat_map f (numbers (suc from) count))
    ∙ ap (λ o. first_of o (first_fault (flat_map f (numbers (suc from) count)))) (h from (omega arith) (omega arith)) ∙ none_so_far f (suc from) count (λ n a b. h n (omega arith) (omega arith))

-- one of this block does, and none before it
pub first_here : (f : ℕ → List Condition) (from count k : ℕ) (fault : Fault) → from ≤ k → k < from + count → ((n : ℕ) → from ≤ n → n < k → first_fault (f n) ≡ None) → first_fault (f k) ≡ Some fault → first_fault (flat_map f (numbers from count)) ≡ Some fault
first_here f from zero k fault low high before here = absurd (none low high)
  where
    none : from ≤ k → k < from + 0 → ⊥
    none a b = omega arith
first_here f from (suc count) k fault low high before here =
    first_append (f from) (flat_map f (numbers (suc from) count))
    ∙ elim (eq-or-lt_of_le low) [
      | inl e ↦ ap (λ o. first_of o (first_fault (flat_map f (numbers (suc from) count)))) (ap (λ n. first_fault (f n)) e ∙ here)
      | inr l ↦ ap (λ o. first_of o (first_fault (flat_map f (numbers (suc from) count)))) (before from (omega arith) l) ∙ first_here f (suc from) count k fault l (omega arith) (λ n a b. before n (omega arith) b) here
    ]

-- conditions as blocks of one
pub map_blocks : (f : ℕ → Condition) (xs : List ℕ) → map f xs ≡ flat_map (λ x. f x ∷ []) xs
map_blocks f [] = refl
map_blocks f (x ∷ xs) = ap (λ t. f x ∷ t) (map_blocks f xs)

-- what was found of this block, where none before it fails, is the fault of all
pub first_is : (f : ℕ → List Condition) (from count k : ℕ) (found : Option Fault) → from ≤ k → k < from + count → ((n : ℕ) → from ≤ n → n < k → first_fault (f n) ≡ None) → found ≡ first_fault (f k) → is_some found ≡ true → found ≡ first_fault (flat_map f (numbers from count))
first_is f from count k None low high before is some = cc
first_is f from count k (Some fault) low high before is some = sym (first_here f from count k fault low high before (sym is))

pub none_is : {X : Type 0} (found : Option X) → is_some found ≡ false → found ≡ None
none_is None h = refl
none_is (Some x) h = cc

-- conditions of those that pass a test
pub filter_blocks : (f : ℕ → Condition) (test : ℕ → Bool) (xs : List ℕ) → map f (filter test xs) ≡ flat_map (λ x. cond (test x) (f x ∷ []) []) xs
filter_blocks f test [] = refl
filter_blocks f test (x ∷ xs) = go (test x) (filter_blocks f test xs)
  where
    go : (b : Bool) → map f (filter test xs) ≡ flat_map (λ x. cond (test x) (f x ∷ []) []) xs → map f (cond b (x ∷ filter test xs) (filter test xs)) ≡ cond b (f x ∷ []) [] ++ flat_map (λ x. cond (test x) (f x ∷ []) []) xs
    go true later = ap (λ t. f x ∷ t) later
    go false later = later
