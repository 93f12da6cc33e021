-- The first item at which a function is greatest.
use Rattle.std.proofs.Common.{◌≡◌, ℤ, ◌≤ℤ◌, Bool, true, false, cond, refl, ap, ap₂, ◌∙◌, arith, ◌⊎◌, inl, inr, List, [], ◌∷◌, int_lt}
use Rattle.std.proofs.lemmas.Int.{ints}
use Rattle.std.specs.List.{AllByRecursion}
use Rattle.clr_num.specs.Sums.{first_best}
use Rattle.clr_model.proofs.Sums.{All-imply}

-- it is at least as great at the winner of two
pick_le : {X : Type 0} (f : X → ℤ) (x y : X) (b : Bool) → int_lt (f x) (f y) ≡ b → (f x ≤ℤ f (cond b y x)) × (f y ≤ℤ f (cond b y x))
pick_le f x y true e = (omega (arith, ints), omega (arith, ints))
pick_le f x y false e = (omega (arith, ints), omega (arith, ints))

pub first_best-greatest : {X : Type 0} (f : X → ℤ) (default : X) (xs : List X) → AllByRecursion (λ x. f x ≤ℤ f (first_best f default xs)) xs
first_best-greatest f default [] = tt
first_best-greatest f default (x ∷ []) = (omega (arith, ints), tt)
first_best-greatest f default (x ∷ (y ∷ ys)) =
    let best = first_best f default (y ∷ ys) in
    let both = pick_le f x best (int_lt (f x) (f best)) refl in
    (both.0, All-imply (λ z. f z ≤ℤ f best) (λ z. f z ≤ℤ f (cond (int_lt (f x) (f best)) best x)) (y ∷ ys) (λ z h. chain (f z) (f best) (f (cond (int_lt (f x) (f best)) best x)) h both.1) (first_best-greatest f default (y ∷ ys)))
  where
    chain : (a b c : ℤ) → a ≤ℤ b → b ≤ℤ c → a ≤ℤ c
    chain a b c p q = omega (arith, ints)

pick_P : {X : Type 0} (P : X → Type 0) (x y : X) (b : Bool) → P x → P y → P (cond b y x)
pick_P P x y true p q = q
pick_P P x y false p q = p

pub first_best-among : {X : Type 0} (P : X → Type 0) (f : X → ℤ) (default : X) (x : X) (xs : List X) → AllByRecursion P (x ∷ xs) → P (first_best f default (x ∷ xs))
first_best-among P f default x [] h = h.0
first_best-among P f default x (y ∷ ys) h = pick_P P x (first_best f default (y ∷ ys)) (int_lt (f x) (f (first_best f default (y ∷ ys)))) h.0 (first_best-among P f default y ys h.1)

-- ---- two functions that agree on the list

pub first_best-same : {X : Type 0} (f g : X → ℤ) (default : X) (xs : List X) → AllByRecursion (λ x. f x ≡ g x) xs → (first_best f default xs ≡ first_best g default xs) × (f (first_best f default xs) ≡ g (first_best f default xs) ⊎ (xs ≡ []))
first_best-same f g default [] h = (refl, inr refl)
first_best-same f g default (x ∷ []) h = (refl, inl h.0)
first_best-same f g default (x ∷ (y ∷ ys)) h =
    let rest = first_best-same f g default (y ∷ ys) h.1 in
    let best = first_best f default (y ∷ ys) in
    let agree : f best ≡ g best = first_best-among (λ z. f z ≡ g z) f default y ys h.1 in (
      ap₂ (λ b z. cond b z x) (ap₂ int_lt h.0 (agree ∙ ap g rest.0)) rest.0,
      inl (pick_P (λ z. f z ≡ g z) x best (int_lt (f x) (f best)) h.0 agree),
    )

pub best_value-same : {X : Type 0} (f g : X → ℤ) (default : X) (xs : List X) → (xs ≡ [] → ⊥) → AllByRecursion (λ x. f x ≡ g x) xs → f (first_best f default xs) ≡ g (first_best g default xs)
best_value-same f g default xs some h =
    let r = first_best-same f g default xs h in
    elim r.1 [ inl e ↦ e ∙ ap g r.0 | inr none ↦ absurd (some none) ]
