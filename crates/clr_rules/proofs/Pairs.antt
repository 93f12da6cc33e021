-- The pairs of a list of weeks, and the summaries at one of them.
use Rattle.std.proofs.Common.{◌≡◌, ℕ, ◌+◌, ◌<◌, cond, ◌==◌, refl, sym, ap, ap₂, ◌∙◌, arith, suc, zero, List, [], ◌∷◌, ◌++◌, length, map, get_or, append-nil, length-append, eq-eqb, Some, None, Option, Bor, unwrap_or, MatchOption}
use Rattle.std.proofs.lemmas.Bool.{ne_eqb}
use Rattle.std.proofs.lemmas.List.{map-append}
use Rattle.std.proofs.lemmas.List.Elements.{filter-append}
use Rattle.std.specs.List.{filter}
use Rattle.std.specs.Option.{option_map}
use Rattle.clr_rules.specs.declared.season_rules.Summary.{Summary}
use Rattle.clr_rules.specs.LiveSummaries.{pairs_from, at_week}

at_week-append : (n : ℕ) (xs ys : List (ℕ × Summary)) → at_week n (xs ++ ys) ≡ at_week n xs ++ at_week n ys
at_week-append n xs ys = ap (map (λ (p : ℕ × Summary). p.1)) (filter-append (λ (p : ℕ × Summary). p.0 == n) xs ys) ∙ map-append (λ (p : ℕ × Summary). p.1) (filter (λ (p : ℕ × Summary). p.0 == n) xs) (filter (λ (p : ℕ × Summary). p.0 == n) ys)

here : (n : ℕ) (week : List Summary) → at_week n (map (λ s. (n, s)) week) ≡ week
here n [] = refl
here n (s ∷ week) =
    ap (λ b. map (λ (p : ℕ × Summary). p.1) (cond b ((n, s) ∷ filter (λ (p : ℕ × Summary). p.0 == n) (map (λ s. (n, s)) week)) (filter (λ (p : ℕ × Summary). p.0 == n) (map (λ s. (n, s)) week)))) (eq-eqb n n refl)
    ∙ ap (λ t. s ∷ t) (here n week)

elsewhere : (d n : ℕ) (week : List Summary) → (d ≡ n → ⊥) → at_week n (map (λ s. (d, s)) week) ≡ []
elsewhere d n [] h = refl
elsewhere d n (s ∷ week) h =
    ap (λ b. map (λ (p : ℕ × Summary). p.1) (cond b ((d, s) ∷ filter (λ (p : ℕ × Summary). p.0 == n) (map (λ s. (d, s)) week)) (filter (λ (p : ℕ × Summary). p.0 == n) (map (λ s. (d, s)) week)))) (ne_eqb d n h)
    ∙ elsewhere d n week h

later : (d n : ℕ) (weeks : List (List Summary)) → n < d → at_week n (pairs_from d weeks) ≡ []
later d n [] h = refl
later d n (week ∷ weeks) h =
    at_week-append n (map (λ s. (d, s)) week) (pairs_from (suc d) weeks)
    ∙ ap₂ ◌++◌ (elsewhere d n week (λ e. omega arith)) (later (suc d) n weeks (omega arith))

pub at_week-from : (d : ℕ) (weeks : List (List Summary)) (i : ℕ) → at_week (d + i) (pairs_from d weeks) ≡ get_or weeks i []
at_week-from d [] i = refl
at_week-from d (week ∷ weeks) zero =
    ap (λ n. at_week n (pairs_from d (week ∷ weeks))) (same d)
    ∙ (at_week-append d (map (λ s. (d, s)) week) (pairs_from (suc d) weeks)
    ∙ (ap₂ ◌++◌ (here d week) (later (suc d) d weeks (omega arith)) ∙ append-nil week))
  where
    same : (n : ℕ) → n + 0 ≡ n
    same n = omega arith
at_week-from d (week ∷ weeks) (suc i) =
    at_week-append (d + suc i) (map (λ s. (d, s)) week) (pairs_from (suc d) weeks)
    ∙ (ap₂ ◌++◌ (elsewhere d (d + suc i) week (λ e. omega arith)) (ap (λ n. at_week n (pairs_from (suc d) weeks)) (shift d i) ∙ at_week-from (suc d) weeks i))
  where
    shift : (a b : ℕ) → a + suc b ≡ suc a + b
    shift a b = omega arith

pub at_week-of : (weeks : List (List Summary)) (done : ℕ) → at_week done (pairs_from 0 weeks) ≡ get_or weeks done []
at_week-of weeks done = ap (λ n. at_week n (pairs_from 0 weeks)) (none done) ∙ at_week-from 0 weeks done
  where
    none : (n : ℕ) → n ≡ 0 + n
    none n = omega arith

-- what is read of the weeks at a length, or the end of the weeks, are the summaries of that length
pub week_read : (pairs : List (ℕ × Summary)) (weeks list : List (List Summary)) (done : ℕ) (r : Option (Bor (List Summary))) → pairs_from 0 weeks ≡ pairs → list ≡ weeks → unwrap_or (option_map (λ (week : Bor (List Summary)). week.now) r) [] ≡ get_or list done [] →
    MatchOption r (at_week done pairs ≡ []) (λ week. at_week done pairs ≡ week.now)
week_read pairs weeks list done (Some week) view same read = ap (at_week done) (sym view) ∙ (at_week-of weeks done ∙ (ap (λ (ws : List (List Summary)). get_or ws done []) (sym same) ∙ sym read))
week_read pairs weeks list done None view same read = ap (at_week done) (sym view) ∙ (at_week-of weeks done ∙ (ap (λ (ws : List (List Summary)). get_or ws done []) (sym same) ∙ sym read))

-- ---- whether there is a pair

abbrev pub tagged : ℕ → List Summary → List (ℕ × Summary)
tagged d week = map (λ s. (d, s)) week

length-tagged : (d : ℕ) (week : List Summary) → length (tagged d week) ≡ length week
length-tagged d [] = refl
length-tagged d (s ∷ week) = ap suc (length-tagged d week)

pub no_pair : (d : ℕ) (weeks : List (List Summary)) → ((i : ℕ) → i < length weeks → get_or weeks i [] ≡ []) → length (pairs_from d weeks) ≡ 0
no_pair d [] h = refl
no_pair d (week ∷ weeks) h =
    sum (length (tagged d week)) (length (pairs_from (suc d) weeks)) (length-append (tagged d week) (pairs_from (suc d) weeks))
    (length-tagged d week ∙ ap length (h 0 (omega arith))) (no_pair (suc d) weeks (λ i low. h (suc i) (omega arith)))
  where
    sum : (a b : ℕ) → length (tagged d week ++ pairs_from (suc d) weeks) ≡ a + b → a ≡ 0 → b ≡ 0 → length (tagged d week ++ pairs_from (suc d) weeks) ≡ 0
    sum a b p q r = omega arith

pub some_pair : (d : ℕ) (weeks : List (List Summary)) (i : ℕ) → (get_or weeks i [] ≡ [] → ⊥) → 0 < length (pairs_from d weeks)
some_pair d [] i h = absurd (h refl)
some_pair d ([] ∷ weeks) zero h = absurd (h refl)
some_pair d ((s ∷ week) ∷ weeks) zero h = omega arith
some_pair d (week ∷ weeks) (suc i) h = more (length (tagged d week)) (length (pairs_from (suc d) weeks)) (length-append (tagged d week) (pairs_from (suc d) weeks)) (some_pair (suc d) weeks i h)
  where
    more : (a b : ℕ) → length (tagged d week ++ pairs_from (suc d) weeks) ≡ a + b → 0 < b → 0 < length (tagged d week ++ pairs_from (suc d) weeks)
    more a b p q = omega arith
