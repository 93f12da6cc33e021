-- Tests on lists: of some item, of all items that a filter keeps, and over all lists of a length.
use Rattle.std.proofs.Common.{◌≡◌, ℕ, ◌+◌, ◌<◌, ◌≤◌, Bool, true, false, ◌||◌, sym, ap, ◌∙◌, arith, suc, zero, List, [], ◌∷◌, length, map, ◌⊎◌, inl, inr, eq-or-lt_of_le, subst, cond, refl, Some, slice_get}
use Rattle.std.specs.List.{list_any, flat_map, filter, AllByRecursion}
use Rattle.std.proofs.lemmas.Bool.{or_cases, or_left, or_right}
use Rattle.std.proofs.lemmas.List.Folds.{list_any-append}
use Rattle.clr_num.specs.Lists.{numbers, all_lists}

pub any-map : {X Y : Type 0} (p : Y → Bool) (h : X → Y) (xs : List X) → list_any p (map h xs) ≡ list_any (λ x. p (h x)) xs
any-map p h [] = refl
any-map p h (x ∷ xs) = ap (λ t. p (h x) || t) (any-map p h xs)

pub any-numbers : (p : ℕ → Bool) (from count n : ℕ) → from ≤ n → n < from + count → p n ≡ true → list_any p (numbers from count) ≡ true
any-numbers p from zero n low high h = absurd (none from n low high)
  where
    none : (a b : ℕ) → a ≤ b → b < a + 0 → ⊥
    none a b p q = omega arith
any-numbers p from (suc count) n low high h =
    elim (eq-or-lt_of_le low) [
      | inl e ↦ or_left (p from) (list_any p (numbers (suc from) count)) (ap p e ∙ h)
      | inr l ↦ or_right (p from) (list_any p (numbers (suc from) count)) (any-numbers p (suc from) count n l (omega arith) h)
    ]

pub none_any : (p : ℕ → Bool) (from n : ℕ) → ((r : ℕ) → from ≤ r → r < from + n → p r ≡ false) → list_any p (numbers from n) ≡ false
none_any p from zero h = refl
none_any p from (suc n) h = ap (λ b. b || list_any p (numbers (suc from) n)) (h from (omega arith) (omega arith)) ∙ none_any p (suc from) n (λ r low high. h r (omega arith) (omega arith))

-- an item that passes, with its place
pub any-witness : {X : Type 0} (p : X → Bool) (xs : List X) → list_any p xs ≡ true → (x : X) × (p x ≡ true) × ((k : ℕ) × (slice_get xs k ≡ Some x))
any-witness p [] h = cc
any-witness p (x ∷ xs) h =
    elim (or_cases (p x) (list_any p xs) h) [
      | inl e ↦ (x, e, (0, refl))
      | inr e ↦ let (y, good, (k, there)) = any-witness p xs e in (y, good, (suc k, there))
    ]

pub any-at : {X : Type 0} (p : X → Bool) (xs : List X) (k : ℕ) (x : X) → slice_get xs k ≡ Some x → p x ≡ true → list_any p xs ≡ true
any-at p [] k x h good = cc
any-at p (y ∷ xs) zero x h good = let same : x ≡ y = cc in or_left (p y) (list_any p xs) (ap p (sym same) ∙ good)
any-at p (y ∷ xs) (suc k) x h good = or_right (p y) (list_any p xs) (any-at p xs k x h good)

-- a list whose items pass is among all lists of its length
pub any-flat_map_cons : (p : List ℕ → Bool) (lists : List (List ℕ)) (from count n : ℕ) → from ≤ n → n < from + count → list_any (λ rest. p (n ∷ rest)) lists ≡ true →
    list_any p (flat_map (λ x. map (λ rest. x ∷ rest) lists) (numbers from count)) ≡ true
any-flat_map_cons p lists from zero n low high h = absurd (none from n low high)
  where
    none : (a b : ℕ) → a ≤ b → b < a + 0 → ⊥
    none a b p q = omega arith
any-flat_map_cons p lists from (suc count) n low high h =
    list_any-append p (map (λ rest. from ∷ rest) lists) (flat_map (λ x. map (λ rest. x ∷ rest) lists) (numbers (suc from) count))
    ∙ elim (eq-or-lt_of_le low) [
      | inl e ↦ or_left (list_any p (map (λ rest. from ∷ rest) lists)) _ (any-map p (λ rest. from ∷ rest) lists ∙ (ap (λ k. list_any (λ rest. p (k ∷ rest)) lists) e ∙ h))
      | inr l ↦ or_right (list_any p (map (λ rest. from ∷ rest) lists)) _ (any-flat_map_cons p lists (suc from) count n l (omega arith) h)
    ]

-- a list that passes among all lists of a length, with its length
pub all_lists-witness : (p : List ℕ → Bool) (xs : List ℕ) (n : ℕ) → list_any p (all_lists xs n) ≡ true → (list : List ℕ) × (p list ≡ true) × (length list ≡ n)
all_lists-witness p xs zero h = elim (or_cases (p []) false h) [ inl e ↦ ([], e, refl) | inr e ↦ cc ]
all_lists-witness p xs (suc n) h = go xs (λ x g. all_lists-witness (λ rest. p (x ∷ rest)) xs n g) h
  where
    go : (ys : List ℕ) → ((x : ℕ) → list_any (λ rest. p (x ∷ rest)) (all_lists xs n) ≡ true → (list : List ℕ) × (p (x ∷ list) ≡ true) × (length list ≡ n)) →
        list_any p (flat_map (λ x. map (λ rest. x ∷ rest) (all_lists xs n)) ys) ≡ true → (list : List ℕ) × (p list ≡ true) × (length list ≡ suc n)
    go [] found h = cc
    go (y ∷ ys) found h =
        elim (or_cases (list_any p (map (λ rest. y ∷ rest) (all_lists xs n))) (list_any p (flat_map (λ x. map (λ rest. x ∷ rest) (all_lists xs n)) ys)) (sym (list_any-append p (map (λ rest. y ∷ rest) (all_lists xs n)) (flat_map (λ x. map (λ rest. x ∷ rest) (all_lists xs n)) ys)) ∙ h)) [
          | inl e ↦ let (list, passes_it, long) = found y (sym (any-map p (λ rest. y ∷ rest) (all_lists xs n)) ∙ e) in (y ∷ list, passes_it, ap suc long)
          | inr e ↦ go ys found e
        ]

-- what holds of each number that passes
pub All-filter_numbers : (P : ℕ → Type 0) (test : ℕ → Bool) (from count n : ℕ) → from ≤ n → n < from + count → test n ≡ true → AllByRecursion P (filter test (numbers from count)) → P n
All-filter_numbers P test from zero n low high h all = absurd (none from n low high)
  where
    none : (a b : ℕ) → a ≤ b → b < a + 0 → ⊥
    none a b p q = omega arith
All-filter_numbers P test from (suc count) n low high h all = go (test from) refl (eq-or-lt_of_le low) (λ l later. All-filter_numbers P test (suc from) count n l (omega arith) h later)
  where
    go : (b : Bool) → test from ≡ b → (from ≡ n) ⊎ (suc from ≤ n) → (suc from ≤ n → AllByRecursion P (filter test (numbers (suc from) count)) → P n) → P n
    go true e (inl same) next = subst P same (subst (AllByRecursion P) (ap (λ b. cond b (from ∷ filter test (numbers (suc from) count)) (filter test (numbers (suc from) count))) e) all).0
    go true e (inr l) next = next l (subst (AllByRecursion P) (ap (λ b. cond b (from ∷ filter test (numbers (suc from) count)) (filter test (numbers (suc from) count))) e) all).1
    go false e (inl same) next = let clash : false ≡ true = sym e ∙ (ap test same ∙ h) in cc
    go false e (inr l) next = next l (subst (AllByRecursion P) (ap (λ b. cond b (from ∷ filter test (numbers (suc from) count)) (filter test (numbers (suc from) count))) e) all)

-- each item that a filter keeps passes
pub All-filter : {X : Type 0} (test : X → Bool) (xs : List X) → AllByRecursion (λ x. test x ≡ true) (filter test xs)
All-filter test [] = tt
All-filter test (x ∷ xs) = go (test x) refl (All-filter test xs)
  where
    go : (b : Bool) → test x ≡ b → AllByRecursion (λ y. test y ≡ true) (filter test xs) → AllByRecursion (λ y. test y ≡ true) (cond b (x ∷ filter test xs) (filter test xs))
    go true e rest = (e, rest)
    go false e rest = rest
