-- The rungs that lead to a live summary, one by one.
use Rattle.std.proofs.Common.{◌≡◌, ℕ, ◌+◌, ◌-◌, ◌<◌, ◌≤◌, ℤ, ◌<ℤ◌, Bool, true, false, cond, int_lt, refl, ap, ◌∙◌, arith, suc, zero, List, [], ◌∷◌, ◌++◌, slice_get, Option, Some, None, MatchOption}
use Rattle.std.specs.List.{filter}
use Rattle.clr_num.specs.Lists.{numbers}
use Rattle.clr_num.specs.Sums.{first_best}
use Rattle.clr_rules.specs.declared.season_rules.Summary.{Summary}
use Rattle.clr_rules.specs.Rules.{Rulebook, IsRulebook, next_if_kept, next_summary}
use Rattle.clr_rules.specs.LiveSummaries.{at_week, leads_at, live_pairs}
use Rattle.clr_rules.proofs.LiveLaw.{week_is}
use Rattle.clr_rules.proofs.Sweeps.{kept_some, not_live_no_lead, rung_leads}
use Rattle.clr_rows.specs.Leads.{best_value, leads, lowest}
use Rattle.clr_rows.proofs.Bests.{best_more, best_value_more}

-- ---- one rung more

pub numbers_last : (from count : ℕ) → numbers from (suc count) ≡ numbers from count ++ (from + count) ∷ []
numbers_last from zero = ap (λ n. n ∷ []) (omega arith)
numbers_last from (suc count) =
    let same : suc from + count ≡ from + suc count = omega arith in
    ap (λ t. from ∷ t) (numbers_last (suc from) count ∙ ap (λ n. numbers (suc from) count ++ n ∷ []) same)

filter_last : (test : ℕ → Bool) (xs : List ℕ) (x : ℕ) → filter test (xs ++ x ∷ []) ≡ cond (test x) (filter test xs ++ x ∷ []) (filter test xs)
filter_last test [] x = by_test (test x)
  where
    by_test : (b : Bool) → cond b (x ∷ []) [] ≡ cond b (x ∷ []) []
    by_test b = refl
filter_last test (y ∷ ys) x = by_test (test y) (test x) (filter test ys) (filter test (ys ++ x ∷ [])) (filter_last test ys x)
  where
    by_test : (b c : Bool) (zs now : List ℕ) → now ≡ cond c (zs ++ x ∷ []) zs → cond b (y ∷ now) now ≡ cond c (cond b (y ∷ zs) zs ++ x ∷ []) (cond b (y ∷ zs) zs)
    by_test true true zs now h = ap (λ t. y ∷ t) h
    by_test true false zs now h = ap (λ t. y ∷ t) h
    by_test false true zs now h = h
    by_test false false zs now h = h

pub leads_more : (rules : Rulebook) (done : ℕ) (s : Summary) (n : ℕ) → leads rules done s (suc n) ≡ cond (leads_at rules done s (suc n)) (leads rules done s n ++ suc n ∷ []) (leads rules done s n)
leads_more rules done s n =
    let one : 1 + n ≡ suc n = omega arith in
    ap (filter (leads_at rules done s)) (numbers_last 1 n ∙ ap (λ k. numbers 1 n ++ k ∷ []) one) ∙ filter_last (leads_at rules done s) (numbers 1 n) (suc n)

module _ (rules : Rulebook) (done : ℕ) (s : Summary) where
  led : (n : ℕ) → leads_at rules done s (suc n) ≡ true → leads rules done s (suc n) ≡ leads rules done s n ++ suc n ∷ []
  led n h = leads_more rules done s n ∙ ap (λ b. cond b (leads rules done s n ++ suc n ∷ []) (leads rules done s n)) h

  unled : (n : ℕ) → leads_at rules done s (suc n) ≡ false → leads rules done s (suc n) ≡ leads rules done s n
  unled n h = leads_more rules done s n ∙ ap (λ b. cond b (leads rules done s n ++ suc n ∷ []) (leads rules done s n)) h

  pub best_led : (f : ℕ → ℤ) (rung : ℕ) → 1 ≤ rung → leads_at rules done s rung ≡ true → lowest <ℤ f rung → best_value f (leads rules done s rung) ≡ cond (int_lt (best_value f (leads rules done s (rung - 1))) (f rung)) (f rung) (best_value f (leads rules done s (rung - 1)))
  best_led f zero low h above = absurd (omega arith)
  best_led f (suc n) low h above = let back : suc n - 1 ≡ n = omega arith in rw back (ap (best_value f) (led n h) ∙ best_value_more f (leads rules done s n) (suc n) above)

  pub first_led : (f : ℕ → ℤ) (rung : ℕ) → 1 ≤ rung → leads_at rules done s rung ≡ true → lowest <ℤ f rung → first_best f 1 (leads rules done s rung) ≡ cond (int_lt (best_value f (leads rules done s (rung - 1))) (f rung)) rung (first_best f 1 (leads rules done s (rung - 1)))
  first_led f zero low h above = absurd (omega arith)
  first_led f (suc n) low h above = let back : suc n - 1 ≡ n = omega arith in rw back (ap (λ xs. first_best f 1 xs) (led n h) ∙ best_more f (leads rules done s n) (suc n) above)

  pub none_led : (rung : ℕ) → 1 ≤ rung → leads_at rules done s rung ≡ false → leads rules done s rung ≡ leads rules done s (rung - 1)
  none_led zero low h = absurd (omega arith)
  none_led (suc n) low h = let back : suc n - 1 ≡ n = omega arith in rw back (unled n h)

-- ---- where a rung leads

pub lead_found : (rules : Rulebook) (done : ℕ) (s next : Summary) (rung : ℕ) (pairs : List (ℕ × Summary)) (place : Option ℕ) → IsRulebook rules → pairs ≡ live_pairs rules → done < rules.weeks → Some next ≡ next_if_kept rules done s rung →
    ((k : ℕ) → place ≡ Some k → slice_get (at_week (suc done) pairs) k ≡ Some next) → ((k : ℕ) → slice_get (at_week (suc done) pairs) k ≡ Some next → place ≡ Some k) →
    MatchOption place (leads_at rules done s rung ≡ false) (λ k. (leads_at rules done s rung ≡ true) × (slice_get (at_week (suc done) pairs) k ≡ Some (next_summary rules s rung)))
lead_found rules done s next rung pairs None book is early kept found listed =
    not_live_no_lead rules done s next rung (at_week (suc done) pairs) book early kept (ap (at_week (suc done)) is ∙ week_is rules (suc done) (omega arith)) (λ (k, there). let clash : None ≡ Some k = listed k there in cc)
lead_found rules done s next rung pairs (Some k) book is early kept found listed =
    (rung_leads rules done s next rung (at_week (suc done) pairs) kept (ap (at_week (suc done)) is ∙ week_is rules (suc done) (omega arith)) (k, found k refl), found k refl ∙ ap Some (kept_some rules done s next rung kept).1)
