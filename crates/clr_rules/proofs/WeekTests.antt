-- Tests of each week, where a path gets one week more.
use Rattle.std.proofs.Common.{◌≡◌, ℕ, ◌+◌, ◌<◌, ◌≤◌, Bool, true, false, not, cond, ◌&&◌, refl, sym, ap, ap₂, ◌∙◌, arith, suc, zero, List, [], ◌∷◌, ◌++◌, length, get_or, ◌==◌, sum_by, count_by, add-zero, le_of_suc-le-suc, le_refl}
use lib.ListN.{get_or-append}
use Rattle.std.proofs.lemmas.List.Sums.{sum_by-cons}
use Rattle.std.specs.List.{list_all}
use Rattle.clr_num.specs.Lists.{numbers}
use Rattle.clr_rules.specs.Rules.{rung_at, rung_before, is_markdown, each_week}
use Rattle.std.proofs.lemmas.Bool.{and_from}
use mathlib.Core.Bool.{and-true, and-false, true-and, and_assoc}

-- four tests regrouped
pub and_middle : (a b c d : Bool) → ((a && b) && (c && d)) ≡ ((a && c) && (b && d))
and_middle true true c d = refl
and_middle true false true d = refl
and_middle true false false d = refl
and_middle false b c d = refl

-- ---- numbers 1 to n, and one more

pub all-numbers_more : (p : ℕ → Bool) (from count : ℕ) → list_all p (numbers from (suc count)) ≡ (list_all p (numbers from count) && p (from + count))
all-numbers_more p from zero = and-true (p from) ∙ (ap p (zero_more from) ∙ sym (true-and (p (from + 0))))
  where
    zero_more : (n : ℕ) → n ≡ n + 0
    zero_more n = omega arith
all-numbers_more p from (suc count) =
    ap (λ t. p from && t) (all-numbers_more p (suc from) count)
    ∙ (sym (and_assoc (p from) (list_all p (numbers (suc from) count)) (p (suc from + count)))
    ∙ ap (λ n. (p from && list_all p (numbers (suc from) count)) && p n) (shift from count))
  where
    shift : (a b : ℕ) → suc a + b ≡ a + suc b
    shift a b = omega arith

pub all-one_more : (p : ℕ → Bool) (n : ℕ) → list_all p (numbers 1 (suc n)) ≡ (list_all p (numbers 1 n) && p (suc n))
all-one_more p n = all-numbers_more p 1 n ∙ ap (λ k. list_all p (numbers 1 n) && p k) (next n)
  where
    next : (n : ℕ) → 1 + n ≡ suc n
    next n = omega arith

pub all-same : (p q : ℕ → Bool) (n : ℕ) → ((t : ℕ) → 1 ≤ t → t ≤ n → p t ≡ q t) → list_all p (numbers 1 n) ≡ list_all q (numbers 1 n)
all-same p q zero h = refl
all-same p q (suc n) h =
    all-one_more p n ∙ (ap₂ ◌&&◌ (all-same p q n (λ t a b. h t a (omega arith))) (h (suc n) (omega arith) (omega arith)) ∙ sym (all-one_more q n))

pub all-and : (p q : ℕ → Bool) (xs : List ℕ) → list_all (λ t. p t && q t) xs ≡ (list_all p xs && list_all q xs)
all-and p q [] = refl
all-and p q (x ∷ xs) = ap (λ t. (p x && q x) && t) (all-and p q xs) ∙ and_middle (p x) (q x) (list_all p xs) (list_all q xs)

pub all-true : (p : ℕ → Bool) (n : ℕ) → ((t : ℕ) → 1 ≤ t → t ≤ n → p t ≡ true) → list_all p (numbers 1 n) ≡ true
all-true p zero h = refl
all-true p (suc n) h = all-one_more p n ∙ and_from _ _ (all-true p n (λ t a b. h t a (omega arith))) (h (suc n) (omega arith) (omega arith))

count : (ℕ → Bool) → ℕ → ℕ
count p n = count_by p (numbers 1 n)

sum_by-numbers_more : (f : ℕ → ℕ) (from n : ℕ) → sum_by f (numbers from (suc n)) ≡ sum_by f (numbers from n) + f (from + n)
sum_by-numbers_more f from zero = sum_by-cons f from [] ∙ flip (f from) (f (from + 0)) (ap f (zero_more from))
  where
    zero_more : (n : ℕ) → n ≡ n + 0
    zero_more n = omega arith

    flip : (a b : ℕ) → a ≡ b → a + 0 ≡ 0 + b
    flip a b e = omega arith
sum_by-numbers_more f from (suc n) =
    let first : sum_by f (numbers from (suc (suc n))) ≡ f from + sum_by f (numbers (suc from) (suc n)) = sum_by-cons f from (numbers (suc from) (suc n)) in
    let rest : sum_by f (numbers (suc from) (suc n)) ≡ sum_by f (numbers (suc from) n) + f (suc from + n) = sum_by-numbers_more f (suc from) n in
    let again : sum_by f (numbers from (suc n)) ≡ f from + sum_by f (numbers (suc from) n) = sum_by-cons f from (numbers (suc from) n) in
    let shifted : f (suc from + n) ≡ f (from + suc n) = ap f (shift from n) in
    omega arith
  where
    shift : (a b : ℕ) → suc a + b ≡ a + suc b
    shift a b = omega arith

pub count-one_more : (p : ℕ → Bool) (n : ℕ) → count_by p (numbers 1 (suc n)) ≡ count_by p (numbers 1 n) + cond (p (suc n)) 1 0
count-one_more p n = sum_by-numbers_more (λ x. cond (p x) 1 0) 1 n ∙ ap (λ k. count_by p (numbers 1 n) + cond (p k) 1 0) (next n)
  where
    next : (n : ℕ) → 1 + n ≡ suc n
    next n = omega arith

pub count-same : (p q : ℕ → Bool) (n : ℕ) → ((t : ℕ) → 1 ≤ t → t ≤ n → p t ≡ q t) → count_by p (numbers 1 n) ≡ count_by q (numbers 1 n)
count-same p q zero h = refl
count-same p q (suc n) h =
    count-one_more p n ∙ (ap₂ ◌+◌ (count-same p q n (λ t a b. h t a (omega arith))) (ap (λ b. cond b 1 0) (h (suc n) (omega arith) (omega arith))) ∙ sym (count-one_more q n))

-- no week counts where the count is 0
pub none-count : (p : ℕ → Bool) (n : ℕ) → list_all (λ t. not (p t)) (numbers 1 n) ≡ (count_by p (numbers 1 n) == 0)
none-count p zero = refl
none-count p (suc n) = all-one_more (λ t. not (p t)) n ∙ (ap (λ t. t && not (p (suc n))) (none-count p n) ∙ (step (count_by p (numbers 1 n)) (p (suc n)) ∙ ap (λ t. t == 0) (sym (count-one_more p n))))
  where
    never : (k : ℕ) → ((k + 1) == 0) ≡ false
    never k = grind arith

    step : (k : ℕ) (b : Bool) → ((k == 0) && not b) ≡ ((k + cond b 1 0) == 0)
    step k true = and-false (k == 0) ∙ sym (never k)
    step k false = and-true (k == 0) ∙ ap (λ t. t == 0) (sym (add-zero k))

-- ---- a prefix and one rung more

pub length_more : (prefix : List ℕ) (rung : ℕ) → length (prefix ++ rung ∷ []) ≡ suc (length prefix)
length_more [] rung = refl
length_more (x ∷ prefix) rung = ap suc (length_more prefix rung)

get_more : (prefix : List ℕ) (rung i : ℕ) → i < length prefix → get_or (prefix ++ rung ∷ []) i 1 ≡ get_or prefix i 1
get_more prefix rung i p = get_or-append prefix (rung ∷ []) 1 i p

pub rung_at-more : (prefix : List ℕ) (rung t : ℕ) → t ≤ length prefix → rung_at (prefix ++ rung ∷ []) t ≡ rung_at prefix t
rung_at-more prefix rung zero p = refl
rung_at-more prefix rung (suc i) p = get_more prefix rung i p

pub rung_at-last : (prefix : List ℕ) (rung : ℕ) → rung_at (prefix ++ rung ∷ []) (suc (length prefix)) ≡ rung
rung_at-last [] rung = refl
rung_at-last (x ∷ prefix) rung = rung_at-last prefix rung

pub rung_before-more : (prefix : List ℕ) (rung t : ℕ) → t ≤ suc (length prefix) → rung_before (prefix ++ rung ∷ []) t ≡ rung_before prefix t
rung_before-more prefix rung zero p = refl
rung_before-more prefix rung (suc t) p = rung_at-more prefix rung t (le_of_suc-le-suc p)

pub is_markdown-more : (prefix : List ℕ) (rung t : ℕ) → t ≤ length prefix → is_markdown (prefix ++ rung ∷ []) t ≡ is_markdown prefix t
is_markdown-more prefix rung t p = ap₂ (λ a b. not (a == b)) (rung_at-more prefix rung t p) (rung_before-more prefix rung t (omega arith))

-- whether the rung differs from the last one
abbrev pub moves : List ℕ → ℕ → Bool
moves prefix rung = not (rung == rung_at prefix (length prefix))

pub is_markdown-last : (prefix : List ℕ) (rung : ℕ) → is_markdown (prefix ++ rung ∷ []) (suc (length prefix)) ≡ moves prefix rung
is_markdown-last prefix rung = ap₂ (λ a b. not (a == b)) (rung_at-last prefix rung) (rung_before-more prefix rung (suc (length prefix)) (le_refl (suc (length prefix))))

-- a test of each week, where the test of the earlier weeks stays the same
pub each_week-more : (prefix : List ℕ) (rung : ℕ) (test : List ℕ → ℕ → Bool) (last : Bool) →
    ((t : ℕ) → 1 ≤ t → t ≤ length prefix → test (prefix ++ rung ∷ []) t ≡ test prefix t) → test (prefix ++ rung ∷ []) (suc (length prefix)) ≡ last →
    each_week (prefix ++ rung ∷ []) (test (prefix ++ rung ∷ [])) ≡ (each_week prefix (test prefix) && last)
each_week-more prefix rung test last same here =
    ap (λ n. list_all (test (prefix ++ rung ∷ [])) (numbers 1 n)) (length_more prefix rung)
    ∙ (all-one_more (test (prefix ++ rung ∷ [])) (length prefix)
    ∙ ap₂ ◌&&◌ (all-same (test (prefix ++ rung ∷ [])) (test prefix) (length prefix) same) here)
