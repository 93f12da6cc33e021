-- Where the numbers of a line are put.
use Rattle.std.proofs.Common.{◌≡◌, ℕ, ◌+◌, ◌-◌, ◌*◌, ◌<◌, ◌≤◌, Bool, true, ◌&&◌, refl, sym, ap, ◌∙◌, subst, subst₂, arith, suc, zero, ◌≢◌, List, [], ◌∷◌, length, set, get_or, slice_get, Some, ◌⊎◌, inl, inr, ℤ, pos, negsuc, ◌≤ℤ◌, IsTrue, mul-le-mul, leb→le}
use Rattle.std.specs.Bool.{passes}
use Rattle.std.specs.Prelude.{unsigned_abs}
use Rattle.clr_cert.specs.Reading.{is_within}
use Rattle.std.proofs.lemmas.Int.{ints}
use Rattle.std.specs.List.{list_all}
use Rattle.std.specs.Prelude.{nat_le, int_le}
use Rattle.std.proofs.lemmas.Bool.{and_from, and_parts}
use Rattle.std.proofs.Common.{drop, take}
use Rattle.std.proofs.lemmas.List.{drop_more, get_or-set_other, get_or-set_same, length-set}
use Rattle.clr_average.specs.Average.{IsWithin}
use Rattle.clr_rules.specs.declared.season_rules.Summary.{Summary}
use Rattle.clr_rules.specs.LiveSummaries.{IsIn, at_week, live_pairs, live_summaries}
use Rattle.clr_rules.specs.Rules.{IsPath, Rulebook}
use Rattle.clr_rules.proofs.LiveLaw.{week_is}
use Rattle.clr_season.specs.Season.{Season}
use Rattle.clr_cert.specs.Reading.{is_rung}
use Rattle.clr_check.specs.Rows.{AreSmall, IsPut, kept_at}
use Rattle.clr_check.specs.Standing.{AreMultsKept, live_place, mult_row}
use Rattle.clr_check.proofs.Apart.{order, put_after, put_before, put_else, put_there}
use Rattle.clr_check.proofs.Kept.{live_at}
use Rattle.clr_check.proofs.Rows.{live_once}
use Rattle.clr_check.proofs.Told.{at_most_is}

-- ---- live summaries

pub among_live : (season : Season) (live : List (ℕ × Summary)) (done : ℕ) (s : Summary) → live ≡ live_pairs season.rules → done ≤ season.rules.weeks → IsIn (live_summaries season.rules done) s → IsIn (at_week done live) s
among_live season live done s is early h = (h.0, ap (λ l. slice_get (at_week done l) h.0) is ∙ (ap (λ l. slice_get l h.0) (week_is season.rules done early) ∙ h.1))

pub live_here : (season : Season) (live : List (ℕ × Summary)) (done place : ℕ) (s : Summary) → live ≡ live_pairs season.rules → done ≤ season.rules.weeks → slice_get (at_week done live) place ≡ Some s → slice_get (live_summaries season.rules done) place ≡ Some s
live_here season live done place s is early h = sym (ap (λ l. slice_get (at_week done l) place) is ∙ ap (λ l. slice_get l place) (week_is season.rules done early)) ∙ h

pub place_is : (season : Season) (live : List (ℕ × Summary)) (done place : ℕ) (s : Summary) → live ≡ live_pairs season.rules → done ≤ season.rules.weeks → slice_get (at_week done live) place ≡ Some s → place ≡ live_place season done s
place_is season live done place s is early h =
    let here : slice_get (live_summaries season.rules done) place ≡ Some s = live_here season live done place s is early h in
    live_once season.rules done place (live_place season done s) s here (live_at season done s (place, here))

-- there is room for a segment
pub segment_room : (place many width n size : ℕ) → place < many → n ≡ width → many * width ≤ size → place * n + n ≤ size
segment_room place many width n size less is room =
    let p : suc place * width ≤ many * width = mul-le-mul (more less) (omega arith) in
    subst (λ n. place * n + n ≤ size) (sym is) (omega (arith, p, room))
  where
    more : place < many → suc place ≤ many
    more h = omega arith

pub number_room : (place many width index size : ℕ) → place < many → index < width → many * width ≤ size → place * width + index + 1 ≤ size
number_room place many width index size less inside room =
    let p : suc place * width ≤ many * width = mul-le-mul (more less) (omega arith) in omega (arith, p, inside, room)
  where
    more : place < many → suc place ≤ many
    more h = omega arith

-- ---- rungs

-- a rung as a natural number
pub rung_number : (most : ℕ) (number : ℤ) → pos 1 ≤ℤ number → number ≤ℤ pos most → (n : ℕ) × ((number ≡ pos n) × ((1 ≤ n) × (n ≤ most)))
rung_number most (pos n) low high = (n, (refl, (omega (arith, ints), omega (arith, ints))))
rung_number most (negsuc n) low high = absurd (omega (arith, ints))

pub rung_parts : (season : Season) (numbers : List ℤ) (k : ℕ) → IsTrue (list_all (is_rung season) numbers) → k < length numbers → (pos 1 ≤ℤ get_or numbers k (pos 0)) × (get_or numbers k (pos 0) ≤ℤ pos (length season.rules.prices))
rung_parts season [] k h less = absurd (omega arith)
rung_parts season (n ∷ numbers) zero h less = let one = and_parts (is_rung season n) (list_all (is_rung season) numbers) h in let two = and_parts (int_le (pos 1) n) (int_le n (pos (length season.rules.prices))) one.0 in (at_most_is (pos 1) n two.0, at_most_is n (pos (length season.rules.prices)) two.1)
rung_parts season (n ∷ numbers) (suc k) h less = rung_parts season numbers k (and_parts (is_rung season n) (list_all (is_rung season) numbers) h).1 (omega arith)

all_set : {X : Type 0} (test : X → Bool) (xs : List X) (i : ℕ) (x : X) → list_all test xs ≡ true → test x ≡ true → list_all test (set xs i x) ≡ true
all_set test [] i x h k = h
all_set test (y ∷ xs) zero x h k = and_from _ _ k (and_parts (test y) (list_all test xs) h).1
all_set test (y ∷ xs) (suc i) x h k = let parts = and_parts (test y) (list_all test xs) h in and_from _ _ parts.0 (all_set test xs i x parts.1 k)

pub path_set : (rules : Rulebook) (path : List ℕ) (i rung : ℕ) → IsPath rules path → 1 ≤ rung → rung ≤ length rules.prices → IsPath rules (set path i rung)
path_set rules path i rung is low high = record {
  weeks = length-set path i rung ∙ is.weeks;
  rungs = all_set (λ r. nat_le 1 r && nat_le r (length rules.prices)) path i rung is.rungs (both rung (length rules.prices) low high);
}
  where
    both : (r n : ℕ) → 1 ≤ r → r ≤ n → (nat_le 1 r && nat_le r n) ≡ true
    both r n a b = grind (arith, a, b)

-- one rung more
pub rungs_more : (path : List ℕ) (numbers : List ℤ) (index rung : ℕ) → index < length path → pos rung ≡ get_or numbers index (pos 0) → ((k : ℕ) → k < index → pos (get_or path k 0) ≡ get_or numbers k (pos 0)) →
    (k : ℕ) → k < index + 1 → pos (get_or (set path index rung) k 0) ≡ get_or numbers k (pos 0)
rungs_more path numbers index rung inside is so k less = elim (split k index less) [
  | inl l ↦ ap pos (get_or-set_other path index k rung 0 (λ e. absurd (omega (arith, e, l)))) ∙ so k l
  | inr e ↦ ap (λ n. pos (get_or (set path index rung) n 0)) e ∙ (ap pos (get_or-set_same path index rung 0 inside) ∙ (is ∙ ap (λ n. get_or numbers n (pos 0)) (sym e)))
]
  where
    split : (a b : ℕ) → a < b + 1 → (a < b) ⊎ (a ≡ b)
    split a b h = grind arith

-- ---- multipliers

pub mult_row_is : (season : Season) (index week row : ℕ) → row ≡ mult_row season (index + 1) week → row ≡ mult_row season (suc index) week
mult_row_is season index week row h = let e : index + 1 ≡ suc index = omega arith in h ∙ ap (λ n. mult_row season n week) e

-- the multiplier of one store more
pub mults_more : (season : Season) (week rung index : ℕ) (numbers one : List ℤ) (old now new : List (List ℤ)) → 1 ≤ week → week ≤ season.rules.weeks → AreMultsKept season week rung numbers index old now → IsPut now (mult_row season (suc index) week) (rung - 1) one new → length one ≡ 1 → get_or one 0 (pos 0) ≡ get_or numbers index (pos 0) →
    AreMultsKept season week rung numbers (index + 1) old new
mults_more season week rung index numbers one old now new first last so put size is = record {
  there = λ k less. elim (split k index less) [
    | inl l ↦ put_else now new (mult_row season (suc index) week) (rung - 1) (mult_row season (suc k) week) (rung - 1) one put (inl (rows_rise k l)) ∙ so.there k l
    | inr e ↦ subst (λ n. kept_at new (mult_row season (suc n) week) (rung - 1) ≡ get_or numbers n (pos 0)) (sym e) here
  ];
  others = λ row at apart. elim (order row (mult_row season (suc index) week)) [
    | inl l ↦ put_else now new (mult_row season (suc index) week) (rung - 1) row at one put (inl l) ∙ so.others row at (λ k less. apart k (omega (arith, less)))
    | inr m ↦ elim m [
      | inl g ↦ put_else now new (mult_row season (suc index) week) (rung - 1) row at one put (inr g) ∙ so.others row at (λ k less. apart k (omega (arith, less)))
      | inr e ↦ subst (λ r. kept_at new r at ≡ kept_at now r at) (sym e) (same_row at (apart index (omega arith) e)) ∙ so.others row at (λ k less. apart k (omega (arith, less)))
    ]
  ];
}
  where
    split : (a b : ℕ) → a < b + 1 → (a < b) ⊎ (a ≡ b)
    split a b h = grind arith

    rows_rise : (k : ℕ) → k < index → mult_row season (suc k) week < mult_row season (suc index) week
    rows_rise k l = let p : suc k * season.rules.weeks ≤ index * season.rules.weeks = mul-le-mul (more l) (omega arith) in let a : suc k - 1 ≡ k = omega arith in let b : suc index - 1 ≡ index = omega arith in subst₂ (λ x y. x * season.rules.weeks + (week - 1) < y * season.rules.weeks + (week - 1)) (sym a) (sym b) (omega (arith, p, first, last))
      where
        more : k < index → suc k ≤ index
        more h = omega arith

    here : kept_at new (mult_row season (suc index) week) (rung - 1) ≡ get_or numbers index (pos 0)
    here = let e : rung - 1 ≡ rung - 1 + 0 = omega arith in ap (kept_at new (mult_row season (suc index) week)) e ∙ (put_there now new (mult_row season (suc index) week) (rung - 1) 0 one put (omega (arith, size)) ∙ is)

    same_row : (at : ℕ) → at ≢ (rung - 1) → kept_at new (mult_row season (suc index) week) at ≡ kept_at now (mult_row season (suc index) week) at
    same_row at ne = elim (order at (rung - 1)) [
      | inl l ↦ put_before now new (mult_row season (suc index) week) (rung - 1) at one put l
      | inr m ↦ elim m [
        | inl g ↦ put_after now new (mult_row season (suc index) week) (rung - 1) at one put (omega (arith, g, size))
        | inr e ↦ absurd (ne e)
      ]
    ]

-- ---- ranges

pub all_small : (most : ℕ) (numbers : List ℤ) → IsTrue (list_all (is_within most) numbers) → AreSmall most numbers
all_small most [] h k less = absurd (omega arith)
all_small most (n ∷ numbers) h zero less = within n (leb→le _ _ (passes _ (and_parts (is_within most n) (list_all (is_within most) numbers) h).0))
  where
    within : (n : ℤ) → unsigned_abs n ≤ most → IsWithin most n
    within (pos a) h = record { low = omega (arith, ints, h); high = omega (arith, ints, h) }
    within (negsuc a) h = record { low = omega (arith, ints, h); high = omega (arith, ints, h) }
all_small most (n ∷ numbers) h (suc k) less = all_small most numbers (and_parts (is_within most n) (list_all (is_within most) numbers) h).1 k (omega arith)

-- one number of a list, as a list
pub one_number : (numbers : List ℤ) (index : ℕ) → index < length numbers →
    (length (take (index + 1 - index) (drop index numbers)) ≡ 1) × ((get_or (take (index + 1 - index) (drop index numbers)) 0 (pos 0) ≡ get_or numbers index (pos 0)) × ((most : ℕ) → IsWithin most (get_or numbers index (pos 0)) → AreSmall most (take (index + 1 - index) (drop index numbers))))
one_number numbers index less =
    let e : index + 1 - index ≡ 1 = omega arith in
    let is : take (index + 1 - index) (drop index numbers) ≡ get_or numbers index (pos 0) ∷ [] = ap (λ n. take n (drop index numbers)) e ∙ ap (take 1) (drop_more numbers index (pos 0) less) in
    (ap length is, (ap (λ (l : List ℤ). get_or l 0 (pos 0)) is, λ most h. subst (AreSmall most) (sym is) (single most (get_or numbers index (pos 0)) h)))
  where
    single : (most : ℕ) (n : ℤ) → IsWithin most n → AreSmall most (n ∷ [])
    single most n h zero less = h
    single most n h (suc k) less = absurd (omega arith)
