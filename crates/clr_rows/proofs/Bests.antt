-- The first best of a list with one item more.
use Rattle.std.proofs.Common.{◌≡◌, ℕ, ℤ, pos, neg_ℤ, ◌+ℤ◌, ◌≤ℤ◌, ◌<ℤ◌, Bool, true, false, cond, int_lt, refl, sym, ap, ◌∙◌, arith, List, [], ◌∷◌, ◌++◌}
use Rattle.std.proofs.lemmas.Int.{ints}
use Rattle.clr_num.specs.Sums.{first_best}
use Rattle.clr_average.specs.Average.{IsWithin}
use Rattle.clr_rows.specs.Leads.{best_value, lowest}

pub is_less : (a b : ℤ) → a <ℤ b → int_lt a b ≡ true
is_less a b h = by_test (int_lt a b) refl
  where
    by_test : (t : Bool) → int_lt a b ≡ t → t ≡ true
    by_test true e = refl
    by_test false e = absurd (omega (arith, ints))

not_less : (a b : ℤ) → b ≤ℤ a → int_lt a b ≡ false
not_less a b h = by_test (int_lt a b) refl
  where
    by_test : (t : Bool) → int_lt a b ≡ t → t ≡ false
    by_test false e = refl
    by_test true e = absurd (omega (arith, ints))

from_less : (a b : ℤ) → int_lt a b ≡ true → a <ℤ b
from_less a b h = omega (arith, ints)

from_not_less : (a b : ℤ) → int_lt a b ≡ false → b ≤ℤ a
from_not_less a b h = omega (arith, ints)

chain_lt : (a b c : ℤ) → a <ℤ b → b <ℤ c → a <ℤ c
chain_lt a b c p q = omega (arith, ints)

chain_le : (a b c : ℤ) → a ≤ℤ b → b ≤ℤ c → a ≤ℤ c
chain_le a b c p q = omega (arith, ints)

-- of three the first best is found from either side
pick_three : (f : ℕ → ℤ) (y b x : ℕ) (p q : Bool) → int_lt (f b) (f x) ≡ p → int_lt (f y) (f b) ≡ q →
    cond (int_lt (f y) (f (cond p x b))) (cond p x b) y ≡ cond (int_lt (f (cond q b y)) (f x)) x (cond q b y)
pick_three f y b x true true h g = ap (λ t. cond t x y) (is_less (f y) (f x) (chain_lt (f y) (f b) (f x) (from_less (f y) (f b) g) (from_less (f b) (f x) h))) ∙ ap (λ t. cond t x b) (sym h)
pick_three f y b x true false h g = refl
pick_three f y b x false true h g = ap (λ t. cond t b y) g ∙ ap (λ t. cond t x b) (sym h)
pick_three f y b x false false h g = ap (λ t. cond t b y) g ∙ ap (λ t. cond t x y) (sym (not_less (f y) (f x) (chain_le (f x) (f b) (f y) (from_not_less (f b) (f x) h) (from_not_less (f y) (f b) g))))

some_more : (f : ℕ → ℤ) (y : ℕ) (ys : List ℕ) (x : ℕ) → first_best f 1 ((y ∷ ys) ++ x ∷ []) ≡ cond (int_lt (f (first_best f 1 (y ∷ ys))) (f x)) x (first_best f 1 (y ∷ ys))
some_more f y [] x = refl
some_more f y (z ∷ zs) x =
    let b = first_best f 1 (z ∷ zs) in
    ap (λ t. cond (int_lt (f y) (f t)) t y) (some_more f z zs x) ∙ pick_three f y b x (int_lt (f b) (f x)) (int_lt (f y) (f b)) refl refl

pub best_more : (f : ℕ → ℤ) (xs : List ℕ) (x : ℕ) → lowest <ℤ f x → first_best f 1 (xs ++ x ∷ []) ≡ cond (int_lt (best_value f xs) (f x)) x (first_best f 1 xs)
best_more f [] x h = ap (λ t. cond t x 1) (sym (is_less lowest (f x) h))
best_more f (y ∷ ys) x h = some_more f y ys x

apply_cond : (f : ℕ → ℤ) (b : Bool) (x y : ℕ) → f (cond b x y) ≡ cond b (f x) (f y)
apply_cond f true x y = refl
apply_cond f false x y = refl

pub best_value_more : (f : ℕ → ℤ) (xs : List ℕ) (x : ℕ) → lowest <ℤ f x → best_value f (xs ++ x ∷ []) ≡ cond (int_lt (best_value f xs) (f x)) (f x) (best_value f xs)
best_value_more f [] x h = ap (λ t. cond t (f x) lowest) (sym (is_less lowest (f x) h))
best_value_more f (y ∷ ys) x h = ap f (some_more f y ys x) ∙ apply_cond f (int_lt (f (first_best f 1 (y ∷ ys))) (f x)) x (first_best f 1 (y ∷ ys))

pub best_some : (f : ℕ → ℤ) (xs : List ℕ) → (xs ≡ [] → ⊥) → f (first_best f 1 xs) ≡ best_value f xs
best_some f [] some = absurd (some refl)
best_some f (x ∷ xs) some = refl

-- an average with what is added is more than the lowest number
pub above_lowest : (a b : ℤ) → IsWithin 2000000000000000000 a → IsWithin 1000000000000000000 b → lowest <ℤ (a +ℤ b)
above_lowest a b h k =
    let p : neg_ℤ (pos 2000000000000000000) ≤ℤ a = h.low in
    let q : neg_ℤ (pos 1000000000000000000) ≤ℤ b = k.low in
    omega (arith, ints)
