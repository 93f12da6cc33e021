-- Writes at one place, and rows cut out of a list.
use Rattle.std.proofs.Common.{◌≡◌, ◌≢◌, ℕ, suc, zero, ◌+◌, ◌-◌, ◌*◌, ◌<◌, ◌≤◌, List, [], ◌∷◌, ◌++◌, length, get_or, slice_get, Some, take, drop, arith, sym, ap, ◌∙◌, subst, below_more, length-drop, length-append, add-mul, mul-le-mul_right, le_refl, append-nil}
use Rattle.std.proofs.Math.ListN.{get_or-append, set}
use Rattle.std.proofs.lemmas.List.{drop_all, take_all, get_or-append-add, get_or-drop, get_or-set_other, get_or-set_same, get_or-take, length-take-le}
use Rattle.clr_rows.specs.Rows.{row_at}

pub set_more : {X : Type 0} (out : List X) (at : ℕ) (value d : X) (f : ℕ → X) → at < length out → value ≡ f at → ((k : ℕ) → k < at → get_or out k d ≡ f k) → (k : ℕ) → k < at + 1 → get_or (set out at value) k d ≡ f k
set_more out at value d f lt here before =
    below_more _ _
    (λ k h. let ne : k ≢ at = omega arith in rw get_or-set_other (before k h))
    (rw get_or-set_same here)

pub set_ahead : {X : Type 0} (out first : List X) (at : ℕ) (value d : X) → ((k : ℕ) → at ≤ k → get_or out k d ≡ get_or first k d) → (k : ℕ) → at + 1 ≤ k → get_or (set out at value) k d ≡ get_or first k d
set_ahead out first at value d ahead k h = let ne : k ≢ at = omega arith in rw get_or-set_other (ahead k (omega arith))

pub get_or-row_at : {X : Type 0} (width place stock : ℕ) (items : List X) (d : X) → stock < width → get_or (row_at width items place) stock d ≡ get_or items (place * width + stock) d
get_or-row_at width place stock items d lt = get_or-take width (drop (place * width) items) stock d lt ∙ get_or-drop (place * width) items stock d

pub row_end : (width count place : ℕ) → place < count → (place + 1) * width ≤ count * width
row_end width count place lt = mul-le-mul_right width (omega arith)

pub in_rows : (width count place stock : ℕ) → place < count → stock < width → place * width + stock < count * width
in_rows width count place stock lt low =
    let end : (place + 1) * width ≤ count * width = row_end width count place lt in
    let split : (place + 1) * width ≡ place * width + 1 * width = add-mul place 1 width in
    omega arith

pub length-row_at : {X : Type 0} (width count place : ℕ) (items : List X) → length items ≡ count * width → place < count → length (row_at width items place) ≡ width
length-row_at width count place items size lt =
    let part : length (drop (place * width) items) ≡ length items - place * width = length-drop (place * width) items in
    let end : (place + 1) * width ≤ count * width = row_end width count place lt in
    let split : (place + 1) * width ≡ place * width + 1 * width = add-mul place 1 width in
    length-take-le width (drop (place * width) items) (omega (arith, part, size, end, split))

pub got_inside : {X : Type 0} (xs : List X) (k : ℕ) (x : X) → slice_get xs k ≡ Some x → k < length xs
got_inside [] k x h = cc
got_inside (y ∷ ys) zero x h = omega arith
got_inside (y ∷ ys) (suc k) x h = let rest : k < length ys = got_inside ys k x h in omega arith

-- ---- one row more

-- what holds of the rows so far and of the row that is added holds of all
pub rows_more : {X : Type 0} (width count : ℕ) (items row : List X) (d : X) (P : ℕ → ℕ → X → Type 0) → length items ≡ count * width → length row ≡ width →
    ((place stock : ℕ) → place < count → stock < width → P place stock (get_or items (place * width + stock) d)) → ((stock : ℕ) → stock < width → P count stock (get_or row stock d)) →
    (place stock : ℕ) → place < count + 1 → stock < width → P place stock (get_or (items ++ row) (place * width + stock) d)
rows_more width count items row d P size row_size before here place stock lt low =
    below_more (λ p. P p stock (get_or (items ++ row) (p * width + stock) d)) count
    (λ p h. subst (P p stock) (sym (get_or-append items row d (p * width + stock) (subst (λ n. p * width + stock < n) (sym size) (in_rows width count p stock h low)))) (before p stock h low))
    (subst (P count stock) (sym (ap (λ n. get_or (items ++ row) (n + stock) d) (sym size) ∙ get_or-append-add items row stock d)) (here stock low))
    place lt

pub got : {X : Type 0} (xs : List X) (k : ℕ) (d x : X) → slice_get xs k ≡ Some x → get_or xs k d ≡ x
got [] k d x h = cc
got (y ∷ ys) zero d x h = cc
got (y ∷ ys) (suc k) d x h = got ys k d x h

pub size_more : {X : Type 0} (width count : ℕ) (items row : List X) → length items ≡ count * width → length row ≡ width → length (items ++ row) ≡ (count + 1) * width
size_more width count items row size row_size =
    let split : (count + 1) * width ≡ count * width + 1 * width = add-mul count 1 width in
    let both : length (items ++ row) ≡ length items + length row = length-append items row in
    omega arith

-- a written part of a list in its place
pub written_back : {X : Type 0} (items now : List X) (len : ℕ) → length now ≡ length items → len ≡ length items → take len (now ++ drop (length now) items) ≡ now
written_back items now len same size =
    ap (take len) (ap (λ t. now ++ t) (drop_all (length now) items (subst (λ n. length items ≤ n) (sym same) (le_refl (length items)))) ∙ append-nil now)
    ∙ take_all len now (subst (λ n. n ≤ len) (sym same) (subst (λ n. length items ≤ n) (sym size) (le_refl (length items))))

-- what holds of each item of a list and of one more holds of all
pub each_more : {X : Type 0} (P : ℕ → X → Type 0) (items : List X) (item d : X) (count : ℕ) → length items ≡ count → ((k : ℕ) → k < count → P k (get_or items k d)) → P count item → (k : ℕ) → k < count + 1 → P k (get_or (items ++ item ∷ []) k d)
each_more P items item d count size each here k lt =
    below_more (λ k. P k (get_or (items ++ item ∷ []) k d)) count
    (λ k h. subst (P k) (sym (get_or-append items (item ∷ []) d k (omega (arith, h, size)))) (each k h))
    (subst (P count) (sym at_end) here)
    k lt
  where
    at_end : get_or (items ++ item ∷ []) count d ≡ item
    at_end = let none : length items + 0 ≡ count = omega (arith, size) in ap (λ n. get_or (items ++ item ∷ []) n d) (sym none) ∙ get_or-append-add items (item ∷ []) 0 d
