-- Where the row of a summary stands, and what is in it.
use Rattle.std.proofs.Common.{◌≡◌, ℕ, zero, suc, ◌+◌, ◌*◌, ◌<◌, ◌≤◌, ◌==◌, ◌&&◌, ◌||◌, Bool, true, false, cond, ℤ, pos, List, [], ◌∷◌, length, map, get_or, slice_get, take, drop, Some, unwrap_or, refl, ap, sym, ◌∙◌, subst, arith, add-mul}
use Rattle.std.proofs.lemmas.List.{ext_get_or}
use Rattle.std.specs.List.{filter, list_any}
use Rattle.clr_num.specs.Lists.{numbers}
use Rattle.clr_rules.specs.declared.season_rules.Summary.{Summary}
use Rattle.clr_rules.specs.LiveSummaries.{IsAmong, IsIn, at_week, same_summary}
use Rattle.clr_rules.proofs.LiveLists.{same_is, same_self}
use Rattle.clr_average.specs.Average.{IsWithin}
use Rattle.clr_rows.specs.Rows.{AreRows, AreWithin, place_of, row_at}
use Rattle.clr_rows.proofs.Lists.{get_or-row_at, got_inside, length-row_at, row_end}

-- ---- numbers in a row

pub length-numbers : {X : Type 0} (f : ℕ → X) (from count : ℕ) → length (map f (numbers from count)) ≡ count
length-numbers f from zero = refl
length-numbers f from (suc count) = let rest : length (map f (numbers (suc from) count)) ≡ count = length-numbers f (suc from) count in omega arith

pub get_or-numbers : {X : Type 0} (f : ℕ → X) (from count i : ℕ) (d : X) → i < count → get_or (map f (numbers from count)) i d ≡ f (from + i)
get_or-numbers f from zero i d lt = absurd (omega arith)
get_or-numbers f from (suc count) zero d lt = let e : from + 0 ≡ from = omega arith in ap f (sym e)
get_or-numbers f from (suc count) (suc i) d lt = let e : suc from + i ≡ from + suc i = omega arith in get_or-numbers f (suc from) count i d (omega arith) ∙ ap f e

pub row_is : {X : Type 0} (d : X) (width : ℕ) (list : List Summary) (f : Summary → ℕ → X) (items : List X) (place : ℕ) (s : Summary) → AreRows d width list (length list) f items → slice_get list place ≡ Some s → row_at width items place ≡ map (f s) (numbers 0 width)
row_is d width list f items place s are at =
    let sized = length-row_at width (length list) place items are.size (got_inside list place s at) in
    ext_get_or d (row_at width items place) (map (f s) (numbers 0 width)) (sized ∙ sym (length-numbers (f s) 0 width))
    (λ x lt. one x (subst (λ n. x < n) sized lt))
  where
    one : (x : ℕ) → x < width → get_or (row_at width items place) x d ≡ get_or (map (f s) (numbers 0 width)) x d
    one x lt =
        let none : 0 + x ≡ x = omega arith in
        get_or-row_at width place x items d lt ∙ (are.each place x s (got_inside list place s at) at lt ∙ (ap (f s) (sym none) ∙ sym (get_or-numbers (f s) 0 width x d lt)))

-- ---- pairs

abbrev pub is_pair : ℕ → Summary → ℕ × Summary → Bool
is_pair done s p = (p.0 == done) && same_summary p.1 s

or_right : (a b : Bool) → b ≡ true → (a || b) ≡ true
or_right true b h = refl
or_right false b h = h

same_from : (t s : Summary) → Some t ≡ Some s → same_summary t s ≡ true
same_from t s e = subst (λ z. same_summary t z ≡ true) (ap (λ o. unwrap_or o t) e) (same_self t)

pub among_any : (xs : List (ℕ × Summary)) (done : ℕ) (s : Summary) → IsAmong xs done s → list_any (is_pair done s) xs ≡ true
among_any [] done s (k, at) = cc
among_any ((d, t) ∷ xs) done s (k, at) = by_test (d == done) k at (λ k at. among_any xs done s (k, at))
  where
    by_test : (b : Bool) (k : ℕ) → slice_get (map (λ p. p.1) (cond b ((d, t) ∷ filter (λ p. p.0 == done) xs) (filter (λ p. p.0 == done) xs))) k ≡ Some s → ((k : ℕ) → slice_get (at_week done xs) k ≡ Some s → list_any (is_pair done s) xs ≡ true) →
        ((b && same_summary t s) || list_any (is_pair done s) xs) ≡ true
    by_test true zero at rest = ap (λ b. b || list_any (is_pair done s) xs) (same_from t s at)
    by_test true (suc k) at rest = or_right (same_summary t s) (list_any (is_pair done s) xs) (rest k at)
    by_test false k at rest = rest k at

-- ---- places

pub place_found : (list : List Summary) (s : Summary) → IsIn list s → slice_get list (place_of list s) ≡ Some s
place_found [] s (k, at) = cc
place_found (t ∷ list) s (k, at) = by_test (same_summary t s) refl k at (λ k at. place_found list s (k, at))
  where
    by_test : (b : Bool) → same_summary t s ≡ b → (k : ℕ) → slice_get (t ∷ list) k ≡ Some s → ((k : ℕ) → slice_get list k ≡ Some s → slice_get list (place_of list s) ≡ Some s) → slice_get (t ∷ list) (cond b 0 (suc (place_of list s))) ≡ Some s
    by_test true e k at rest = ap Some (same_is t s e)
    by_test false e zero at rest = let clash : true ≡ false = sym (same_from t s at) ∙ e in cc
    by_test false e (suc k) at rest = rest k at

-- the row at a pair lies within the rows of its week
pub row_inside : (pairs : List (ℕ × Summary)) (width place size done : ℕ) (s : Summary) → IsAmong pairs done s → place ≡ place_of (at_week done pairs) s → size ≡ length (at_week done pairs) * width → (place + 1) * width ≤ size
row_inside pairs width place size done s among is_place is_size =
    subst (λ n. (place + 1) * width ≤ n) (sym is_size) (row_end width (length (at_week done pairs)) place
    (subst (λ n. n < length (at_week done pairs)) (sym is_place) (got_inside (at_week done pairs) (place_of (at_week done pairs) s) s (place_found (at_week done pairs) s among))))

abbrev pub nothing : List ℕ
nothing = []

pub row_none : (width start : ℕ) → take width (drop start nothing) ≡ []
row_none zero zero = refl
row_none zero (suc start) = refl
row_none (suc width) zero = refl
row_none (suc width) (suc start) = refl

pub row_small : (limit width place : ℕ) (items row : List ℤ) → AreWithin limit items → (place + 1) * width ≤ length items → row ≡ row_at width items place → length row ≡ width → AreWithin limit row
row_small limit width place items row small inside is size k lt =
    let low : k < width = omega (arith, lt, size) in
    let split : (place + 1) * width ≡ place * width + 1 * width = add-mul place 1 width in
    subst (IsWithin limit) (sym (ap (λ r. get_or r k (pos 0)) is ∙ get_or-row_at width place k items (pos 0) low)) (small (place * width + k) (omega (arith, low, split, inside)))
