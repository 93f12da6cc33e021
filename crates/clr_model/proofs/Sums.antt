-- Laws of sums and products.
use Rattle.std.proofs.Common.{◌≡◌, ℕ, ◌^◌, ◌<◌, ℤ, pos, ◌+ℤ◌, ◌*ℤ◌, ◌≤ℤ◌, refl, sym, ap, ap₂, ◌∙◌, arith, suc, zero, List, [], ◌∷◌, ◌++◌, map, get_or, mul_comm, pow-suc}
use native.Mathlib.Nat.{pow-zero}
use Rattle.std.specs.List.{AllByRecursion, flat_map}
use lib.IntN.{*ℤ_comm, *ℤ-zero}
use Rattle.clr_num.specs.Lists.{all_lists}
use Rattle.clr_num.specs.Sums.{sum_over, sum_of, product_of}
use Rattle.clr_average.proofs.Ring.{linear, mul_add, mul_assoc}
use Rattle.clr_average.proofs.Sums.{sum_over-same, sum_over-add, sum_over-scale, sum_over-scale_right}

-- ---- over a list

pub sum_over-same_among : {X : Type 0} (xs : List X) (f g : X → ℤ) → AllByRecursion (λ x. f x ≡ g x) xs → sum_over xs f ≡ sum_over xs g
sum_over-same_among [] f g h = refl
sum_over-same_among (x ∷ xs) f g h =
    let here : f x ≡ g x = h.0 in
    let rest : sum_over xs f ≡ sum_over xs g = sum_over-same_among xs f g h.1 in
    omega (arith, linear)

pub sum_over-le : {X : Type 0} (xs : List X) (f g : X → ℤ) → AllByRecursion (λ x. f x ≤ℤ g x) xs → sum_over xs f ≤ℤ sum_over xs g
sum_over-le [] f g h = omega (arith, linear)
sum_over-le (x ∷ xs) f g h =
    let here : f x ≤ℤ g x = h.0 in
    let rest : sum_over xs f ≤ℤ sum_over xs g = sum_over-le xs f g h.1 in
    omega (arith, linear)

pub sum_over-append : {X : Type 0} (xs ys : List X) (f : X → ℤ) → sum_over (xs ++ ys) f ≡ sum_over xs f +ℤ sum_over ys f
sum_over-append [] ys f = omega (arith, linear)
sum_over-append (x ∷ xs) ys f =
    let rest : sum_over (xs ++ ys) f ≡ sum_over xs f +ℤ sum_over ys f = sum_over-append xs ys f in
    omega (arith, linear)

pub sum_over-map : {X Y : Type 0} (h : X → Y) (xs : List X) (f : Y → ℤ) → sum_over (map h xs) f ≡ sum_over xs (λ x. f (h x))
sum_over-map h [] f = refl
sum_over-map h (x ∷ xs) f = ap (λ t. f (h x) +ℤ t) (sum_over-map h xs f)

pub sum_over-flat_map : {X Y : Type 0} (h : X → List Y) (xs : List X) (f : Y → ℤ) → sum_over (flat_map h xs) f ≡ sum_over xs (λ x. sum_over (h x) f)
sum_over-flat_map h [] f = refl
sum_over-flat_map h (x ∷ xs) f = sum_over-append (h x) (flat_map h xs) f ∙ ap (λ t. sum_over (h x) f +ℤ t) (sum_over-flat_map h xs f)

-- a sum over all lists is a sum over their first items and over the rest
pub sum_over-all_lists : {X : Type 0} (xs : List X) (n : ℕ) (f : List X → ℤ) → sum_over (all_lists xs (suc n)) f ≡ sum_over xs (λ x. sum_over (all_lists xs n) (λ rest. f (x ∷ rest)))
sum_over-all_lists xs n f =
    sum_over-flat_map (λ x. map (λ rest. x ∷ rest) (all_lists xs n)) xs f
    ∙ sum_over-same xs (λ x. sum_over (map (λ rest. x ∷ rest) (all_lists xs n)) f) (λ x. sum_over (all_lists xs n) (λ rest. f (x ∷ rest))) (λ x. sum_over-map (λ rest. x ∷ rest) (all_lists xs n) f)

-- ---- what holds of all lists

pub All-append : {X : Type 0} (P : X → Type 0) (xs ys : List X) → AllByRecursion P (xs ++ ys) → AllByRecursion P xs × AllByRecursion P ys
All-append P [] ys h = (tt, h)
All-append P (x ∷ xs) ys h = let r = All-append P xs ys h.1 in ((h.0, r.0), r.1)

pub All-map : {X Y : Type 0} (P : Y → Type 0) (h : X → Y) (xs : List X) → AllByRecursion P (map h xs) → AllByRecursion (λ x. P (h x)) xs
All-map P h [] a = tt
All-map P h (x ∷ xs) a = (a.0, All-map P h xs a.1)

pub All-flat_map : {X Y : Type 0} (P : Y → Type 0) (h : X → List Y) (xs : List X) → AllByRecursion P (flat_map h xs) → AllByRecursion (λ x. AllByRecursion P (h x)) xs
All-flat_map P h [] a = tt
All-flat_map P h (x ∷ xs) a = let r = All-append P (h x) (flat_map h xs) a in (r.0, All-flat_map P h xs r.1)

pub All-imply : {X : Type 0} (P Q : X → Type 0) (xs : List X) → ((x : X) → P x → Q x) → AllByRecursion P xs → AllByRecursion Q xs
All-imply P Q [] f a = tt
All-imply P Q (x ∷ xs) f a = (f x a.0, All-imply P Q xs f a.1)

pub All-both : {X : Type 0} (P Q : X → Type 0) (xs : List X) → AllByRecursion P xs → AllByRecursion Q xs → AllByRecursion (λ x. P x × Q x) xs
All-both P Q [] a b = tt
All-both P Q (x ∷ xs) a b = ((a.0, b.0), All-both P Q xs a.1 b.1)

pub All-every : {X : Type 0} (P : X → Type 0) (xs : List X) → ((x : X) → P x) → AllByRecursion P xs
All-every P [] f = tt
All-every P (x ∷ xs) f = (f x, All-every P xs f)

pub All-all_lists : {X : Type 0} (P : List X → Type 0) (xs : List X) (n : ℕ) → AllByRecursion P (all_lists xs (suc n)) → AllByRecursion (λ x. AllByRecursion (λ rest. P (x ∷ rest)) (all_lists xs n)) xs
All-all_lists P xs n a =
    All-imply (λ x. AllByRecursion P (map (λ rest. x ∷ rest) (all_lists xs n))) (λ x. AllByRecursion (λ rest. P (x ∷ rest)) (all_lists xs n)) xs
    (λ x h. All-map P (λ rest. x ∷ rest) (all_lists xs n) h)
    (All-flat_map P (λ x. map (λ rest. x ∷ rest) (all_lists xs n)) xs a)

-- ---- by number

pub sum_of-same : (n : ℕ) (f g : ℕ → ℤ) → ((i : ℕ) → i < n → f i ≡ g i) → sum_of n f ≡ sum_of n g
sum_of-same zero f g h = refl
sum_of-same (suc n) f g h =
    let here : f 0 ≡ g 0 = h 0 (omega arith) in
    let rest : sum_of n (λ i. f (suc i)) ≡ sum_of n (λ i. g (suc i)) = sum_of-same n (λ i. f (suc i)) (λ i. g (suc i)) (λ i p. h (suc i) (omega arith)) in
    omega (arith, linear)

pub sum_of-le : (n : ℕ) (f g : ℕ → ℤ) → ((i : ℕ) → i < n → f i ≤ℤ g i) → sum_of n f ≤ℤ sum_of n g
sum_of-le zero f g h = omega (arith, linear)
sum_of-le (suc n) f g h =
    let here : f 0 ≤ℤ g 0 = h 0 (omega arith) in
    let rest : sum_of n (λ i. f (suc i)) ≤ℤ sum_of n (λ i. g (suc i)) = sum_of-le n (λ i. f (suc i)) (λ i. g (suc i)) (λ i p. h (suc i) (omega arith)) in
    omega (arith, linear)

pub sum_of-add : (n : ℕ) (f g : ℕ → ℤ) → sum_of n (λ i. f i +ℤ g i) ≡ sum_of n f +ℤ sum_of n g
sum_of-add zero f g = refl
sum_of-add (suc n) f g =
    let rest : sum_of n (λ i. f (suc i) +ℤ g (suc i)) ≡ sum_of n (λ i. f (suc i)) +ℤ sum_of n (λ i. g (suc i)) = sum_of-add n (λ i. f (suc i)) (λ i. g (suc i)) in
    omega (arith, linear)

pub sum_of-scale : (n : ℕ) (c : ℤ) (f : ℕ → ℤ) → sum_of n (λ i. c *ℤ f i) ≡ c *ℤ sum_of n f
sum_of-scale zero c f = sym (*ℤ-zero c)
sum_of-scale (suc n) c f = ap (λ t. c *ℤ f 0 +ℤ t) (sum_of-scale n c (λ i. f (suc i))) ∙ sym (mul_add c (f 0) (sum_of n (λ i. f (suc i))))

-- ---- joint sums of products

two_parts : (a b c d : ℤ) → (a *ℤ b) *ℤ (c +ℤ d) ≡ (a *ℤ c) *ℤ b +ℤ a *ℤ (b *ℤ d)
two_parts a b c d =
    mul_add (a *ℤ b) c d
    ∙ ap₂ ◌+ℤ◌ (mul_assoc a b c ∙ (ap (λ t. a *ℤ t) (*ℤ_comm b c) ∙ sym (mul_assoc a c b))) (mul_assoc a b d)

split_step : (base power here rest sums joint longer : ℤ) → joint ≡ here *ℤ power +ℤ base *ℤ rest → base *ℤ rest ≡ power *ℤ sums → longer ≡ base *ℤ power → base *ℤ joint ≡ longer *ℤ (here +ℤ sums)
split_step base power here rest sums joint longer first ih longer-is =
    ap (λ t. base *ℤ t) (first ∙ ap (λ t. here *ℤ power +ℤ t) ih ∙ ap (λ t. t +ℤ power *ℤ sums) (*ℤ_comm here power) ∙ sym (mul_add power here sums))
    ∙ (sym (mul_assoc base power (here +ℤ sums)) ∙ ap (λ t. t *ℤ (here +ℤ sums)) (sym longer-is))

-- a joint sum of the product of weights
pub joint_mass : (xs : List ℕ) (n : ℕ) (w : ℕ → ℕ → ℤ) (base : ℕ) → ((i : ℕ) → i < n → sum_over xs (w i) ≡ pos base) →
    sum_over (all_lists xs n) (λ asked. product_of n (λ i. w i (get_or asked i 0))) ≡ pos (base ^ n)
joint_mass xs zero w base h = ap pos (sym (pow-zero base))
joint_mass xs (suc n) w base h =
    let rest : sum_over (all_lists xs n) (λ asked. product_of n (λ i. w (suc i) (get_or asked i 0))) ≡ pos (base ^ n) = joint_mass xs n (λ i. w (suc i)) base (λ i p. h (suc i) (omega arith)) in
    sum_over-all_lists xs n (λ asked. product_of (suc n) (λ i. w i (get_or asked i 0)))
    ∙ (sum_over-same xs (λ x. sum_over (all_lists xs n) (λ asked. w 0 x *ℤ product_of n (λ i. w (suc i) (get_or asked i 0)))) (λ x. w 0 x *ℤ pos (base ^ n))
    (λ x. sum_over-scale (all_lists xs n) (w 0 x) (λ asked. product_of n (λ i. w (suc i) (get_or asked i 0))) ∙ ap (λ t. w 0 x *ℤ t) rest)
    ∙ (sum_over-scale_right xs (pos (base ^ n)) (w 0)
    ∙ (ap (λ t. t *ℤ pos (base ^ n)) (h 0 (omega arith))
    ∙ ap pos (mul_comm base (base ^ n) ∙ sym (pow-suc base n)))))

-- the first store split off
joint_split_first : (xs : List ℕ) (n : ℕ) (w f : ℕ → ℕ → ℤ) (base : ℕ) → ((i : ℕ) → i < suc n → sum_over xs (w i) ≡ pos base) →
    sum_over (all_lists xs (suc n)) (λ asked. product_of (suc n) (λ i. w i (get_or asked i 0)) *ℤ sum_of (suc n) (λ i. f i (get_or asked i 0)))
    ≡ sum_over xs (λ x. w 0 x *ℤ f 0 x) *ℤ pos (base ^ n) +ℤ pos base *ℤ sum_over (all_lists xs n) (λ asked. product_of n (λ i. w (suc i) (get_or asked i 0)) *ℤ sum_of n (λ i. f (suc i) (get_or asked i 0)))
joint_split_first xs n w f base h =
    let rest_w : List ℕ → ℤ = λ asked. product_of n (λ i. w (suc i) (get_or asked i 0)) in
    let rest_f : List ℕ → ℤ = λ asked. sum_of n (λ i. f (suc i) (get_or asked i 0)) in
    let mass : sum_over (all_lists xs n) rest_w ≡ pos (base ^ n) = joint_mass xs n (λ i. w (suc i)) base (λ i p. h (suc i) (omega arith)) in
    let inner : (x : ℕ) → sum_over (all_lists xs n) (λ asked. (w 0 x *ℤ rest_w asked) *ℤ (f 0 x +ℤ rest_f asked)) ≡ (w 0 x *ℤ f 0 x) *ℤ pos (base ^ n) +ℤ w 0 x *ℤ sum_over (all_lists xs n) (λ asked. rest_w asked *ℤ rest_f asked)
    = λ x.
    sum_over-same (all_lists xs n) (λ asked. (w 0 x *ℤ rest_w asked) *ℤ (f 0 x +ℤ rest_f asked)) (λ asked. (w 0 x *ℤ f 0 x) *ℤ rest_w asked +ℤ w 0 x *ℤ (rest_w asked *ℤ rest_f asked)) (λ asked. two_parts (w 0 x) (rest_w asked) (f 0 x) (rest_f asked))
    ∙ (sum_over-add (all_lists xs n) (λ asked. (w 0 x *ℤ f 0 x) *ℤ rest_w asked) (λ asked. w 0 x *ℤ (rest_w asked *ℤ rest_f asked))
    ∙ ap₂ ◌+ℤ◌ (sum_over-scale (all_lists xs n) (w 0 x *ℤ f 0 x) rest_w ∙ ap (λ t. (w 0 x *ℤ f 0 x) *ℤ t) mass)
    (sum_over-scale (all_lists xs n) (w 0 x) (λ asked. rest_w asked *ℤ rest_f asked))) in
    sum_over-all_lists xs n (λ asked. product_of (suc n) (λ i. w i (get_or asked i 0)) *ℤ sum_of (suc n) (λ i. f i (get_or asked i 0)))
    ∙ (sum_over-same xs (λ x. sum_over (all_lists xs n) (λ asked. (w 0 x *ℤ rest_w asked) *ℤ (f 0 x +ℤ rest_f asked))) (λ x. (w 0 x *ℤ f 0 x) *ℤ pos (base ^ n) +ℤ w 0 x *ℤ sum_over (all_lists xs n) (λ asked. rest_w asked *ℤ rest_f asked)) inner
    ∙ (sum_over-add xs (λ x. (w 0 x *ℤ f 0 x) *ℤ pos (base ^ n)) (λ x. w 0 x *ℤ sum_over (all_lists xs n) (λ asked. rest_w asked *ℤ rest_f asked))
    ∙ ap₂ ◌+ℤ◌ (sum_over-scale_right xs (pos (base ^ n)) (λ x. w 0 x *ℤ f 0 x))
    (sum_over-scale_right xs (sum_over (all_lists xs n) (λ asked. rest_w asked *ℤ rest_f asked)) (w 0) ∙ ap (λ t. t *ℤ sum_over (all_lists xs n) (λ asked. rest_w asked *ℤ rest_f asked)) (h 0 (omega arith)))))

-- a joint sum of a sum over stores, times the base, is a sum of single sums, times a power of the base
pub joint_split : (xs : List ℕ) (n : ℕ) (w f : ℕ → ℕ → ℤ) (base : ℕ) → ((i : ℕ) → i < n → sum_over xs (w i) ≡ pos base) →
    pos base *ℤ sum_over (all_lists xs n) (λ asked. product_of n (λ i. w i (get_or asked i 0)) *ℤ sum_of n (λ i. f i (get_or asked i 0)))
    ≡ pos (base ^ n) *ℤ sum_of n (λ i. sum_over xs (λ x. w i x *ℤ f i x))
joint_split xs zero w f base h = *ℤ-zero (pos base) ∙ sym (*ℤ-zero (pos (base ^ 0)))
joint_split xs (suc n) w f base h =
    split_step (pos base) (pos (base ^ n)) (sum_over xs (λ x. w 0 x *ℤ f 0 x))
    (sum_over (all_lists xs n) (λ asked. product_of n (λ i. w (suc i) (get_or asked i 0)) *ℤ sum_of n (λ i. f (suc i) (get_or asked i 0))))
    (sum_of n (λ i. sum_over xs (λ x. w (suc i) x *ℤ f (suc i) x)))
    _ (pos (base ^ suc n))
    (joint_split_first xs n w f base h)
    (joint_split xs n (λ i. w (suc i)) (λ i. f (suc i)) base (λ i p. h (suc i) (omega arith)))
    (ap pos (pow-suc base n ∙ mul_comm (base ^ n) base))

-- the same for at least one store, and without the base
pub joint_split_some : (xs : List ℕ) (n : ℕ) (w f : ℕ → ℕ → ℤ) (base : ℕ) → ((i : ℕ) → i < suc n → sum_over xs (w i) ≡ pos base) →
    sum_over (all_lists xs (suc n)) (λ asked. product_of (suc n) (λ i. w i (get_or asked i 0)) *ℤ sum_of (suc n) (λ i. f i (get_or asked i 0)))
    ≡ pos (base ^ n) *ℤ sum_of (suc n) (λ i. sum_over xs (λ x. w i x *ℤ f i x))
joint_split_some xs n w f base h =
    joint_split_first xs n w f base h
    ∙ (ap (λ t. sum_over xs (λ x. w 0 x *ℤ f 0 x) *ℤ pos (base ^ n) +ℤ t) (joint_split xs n (λ i. w (suc i)) (λ i. f (suc i)) base (λ i p. h (suc i) (omega arith)))
    ∙ (ap (λ t. t +ℤ pos (base ^ n) *ℤ sum_of n (λ i. sum_over xs (λ x. w (suc i) x *ℤ f (suc i) x))) (*ℤ_comm (sum_over xs (λ x. w 0 x *ℤ f 0 x)) (pos (base ^ n)))
    ∙ sym (mul_add (pos (base ^ n)) (sum_over xs (λ x. w 0 x *ℤ f 0 x)) (sum_of n (λ i. sum_over xs (λ x. w (suc i) x *ℤ f (suc i) x))))))
