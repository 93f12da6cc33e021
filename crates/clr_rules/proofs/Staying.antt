-- The path that stays on the first rung.
use Rattle.std.proofs.lemmas.Bool.{eq-eqb, le-leb}
use Rattle.std.proofs.lemmas.List.{length-replicate}
use Rattle.std.proofs.Common.{◌≡◌, ℕ, zero, suc, ◌+◌, ◌-◌, ◌*◌, refl, arith, Bool, true, false, List, [], ◌∷◌, length}
use Rattle.std.specs.Prelude.{get_or, replicate, not, ◌==◌, ◌&&◌, ◌||◌, nat_le, nat_lt}
use Rattle.std.specs.List.{list_all, count_by}
use Rattle.clr_num.specs.Lists.{numbers}
use Rattle.clr_rules.specs.Rules.{StayingObeys, are_rungs, each_week, free_weeks, is_markdown, is_first_markdown, keeps_rise, keeps_window, keeps_frozen, keeps_number, keeps_spacing, keeps_first_cut, price, rung_at, rung_before, window, window_of}

-- a list of one item read at any place, where the default is the item too
same-item : {X : Type 0} (x : X) (n i : ℕ) → get_or (replicate n x) i x ≡ x
same-item x zero i = refl
same-item x (suc n) zero = refl
same-item x (suc n) (suc i) = same-item x n i

rung-one : (n week : ℕ) → rung_at (replicate n 1) week ≡ 1
rung-one n zero = refl
rung-one n (suc i) = same-item 1 n i

before-one : (n week : ℕ) → rung_before (replicate n 1) week ≡ 1
before-one n zero = refl
before-one n (suc week) = rung-one n week

no-markdown : (n week : ℕ) → is_markdown (replicate n 1) week ≡ false
no-markdown n week = rw (rung-one n week, before-one n week) refl

all-pass : (f : ℕ → Bool) (xs : List ℕ) → ((x : ℕ) → f x ≡ true) → list_all f xs ≡ true
all-pass f [] h = refl
all-pass f (x ∷ xs) h = rw (h x) (all-pass f xs h)

none-count : (f : ℕ → Bool) (xs : List ℕ) → ((x : ℕ) → f x ≡ false) → count_by f xs ≡ 0
none-count f [] h = refl
none-count f (x ∷ xs) h = rw (h x) (none-count f xs h)

all-ones : (f : ℕ → Bool) (n : ℕ) → f 1 ≡ true → list_all f (replicate n 1) ≡ true
all-ones f zero h = refl
all-ones f (suc n) h = rw h (all-ones f n h)

and-true : (a b : Bool) → a ≡ true → b ≡ true → (a && b) ≡ true
and-true a b p q = rw (p, q) refl

-- a week without a calendar, or past its end, allows the first rung and is not frozen
open-weeks : (n i : ℕ) → (nat_le (get_or (free_weeks n) i (record { from = 1; to = 1; frozen = false })).from 1 && nat_le 1 (get_or (free_weeks n) i (record { from = 1; to = 1; frozen = false })).to) ≡ true
open-weeks zero i = refl
open-weeks (suc n) zero = refl
open-weeks (suc n) (suc i) = open-weeks n i

open-week : (n week : ℕ) → (nat_le (window_of (free_weeks n) week).from 1 && nat_le 1 (window_of (free_weeks n) week).to) ≡ true
open-week n zero = refl
open-week n (suc i) = open-weeks n i

spaced : (a b c d : Bool) → b ≡ false → (not (a && b && c) || d) ≡ true
spaced true b c d p = rw p refl
spaced false b c d p = refl

uncut : (a b c : Bool) → a ≡ false → (not (a && b) || c) ≡ true
uncut a b c p = rw p refl

thawed : (a b : Bool) → b ≡ false → not (a && b) ≡ true
thawed true b p = rw p refl
thawed false b p = refl

pub staying : StayingObeys
staying book is free =
    let n = book.weeks in
    let path : List ℕ = replicate n 1 in
    let whole : (length path == n) ≡ true = eq-eqb (length path) n (length-replicate n 1) in
    let ladder : are_rungs book path ≡ true = all-ones (λ rung. nat_le 1 rung && nat_le rung (length book.prices)) n (le-leb 1 (length book.prices) is.ladder.some) in
    let rise : keeps_rise path ≡ true = all-pass (λ week. nat_le (rung_before path week) (rung_at path week)) (numbers 1 (length path)) (λ week. rw (before-one n week, rung-one n week) refl) in
    let windows : keeps_window book path ≡ true = all-pass (λ week. nat_le (window book week).from (rung_at path week) && nat_le (rung_at path week) (window book week).to) (numbers 1 (length path)) (λ week. rw (rung-one n week, free) (open-week n week)) in
    let frozen : keeps_frozen book path ≡ true = all-pass (λ week. not ((window book week).frozen && is_markdown path week)) (numbers 1 (length path)) (λ week. thawed (window book week).frozen (is_markdown path week) (no-markdown n week)) in
    let number : keeps_number book path ≡ true = rw (none-count (is_markdown path) (numbers 1 (length path)) (no-markdown n)) (le-leb 0 book.markdowns (omega arith)) in
    let spacing : keeps_spacing book path ≡ true = all-pass (λ earlier. each_week path (λ later. not (nat_lt earlier later && is_markdown path earlier && is_markdown path later) || nat_le (earlier + book.spacing) later)) (numbers 1 (length path)) (λ earlier. all-pass (λ later. not (nat_lt earlier later && is_markdown path earlier && is_markdown path later) || nat_le (earlier + book.spacing) later) (numbers 1 (length path)) (λ later. spaced (nat_lt earlier later) (is_markdown path earlier) (is_markdown path later) _ (no-markdown n earlier))) in
    let cut : keeps_first_cut book path ≡ true = all-pass (λ week. not (is_first_markdown path week) || nat_le ((100 - book.first_cut) * price book 1) (100 * price book (rung_at path week))) (numbers 1 (length path)) (λ week. uncut (is_markdown path week) _ _ (no-markdown n week)) in
    and-true _ _ whole (and-true _ _ ladder (and-true _ _ rise (and-true _ _ windows (and-true _ _ frozen (and-true _ _ number (and-true _ _ spacing cut))))))
