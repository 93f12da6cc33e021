-- The prefix through which a summary's values are said.
use Rattle.std.proofs.Common.{◌≡◌, ℕ, ◌-◌, ◌≤◌, ◌<◌, subst, arith, Bool, true, false, cond, refl, sym, ap, ◌∙◌, suc, zero, List, [], ◌∷◌, ◌++◌, length, map, unwrap_or, ◌&&◌, ◌||◌, Some}
use mathlib.Core.Path.{fun_ext}
use Rattle.std.proofs.lemmas.Bool.{and_parts}
use Rattle.std.specs.List.{AllByRecursion, filter, find, flat_map, list_any}
use Rattle.clr_num.specs.Lists.{all_lists}
use Rattle.clr_rules.specs.declared.season_rules.Summary.{Summary}
use Rattle.clr_rules.specs.Rules.{Rulebook, is_live, live_rungs, rungs, summary}
use Rattle.clr_rules.specs.LiveSummaries.{is_live_summary, leads_at, same_summary}
use Rattle.clr_rules.proofs.LiveLemmas.{All-live_rungs, live-next}
use Rattle.clr_rules.proofs.LiveLists.{leads-live, live-by, same_is}
use Rattle.clr_rules.proofs.SummaryLemmas.{live-keeps}
use Rattle.clr_rows.specs.Leads.{leads}
use Rattle.clr_rows.specs.Summaries.{summary_prefix}

-- ---- all lists have their length

All-append_in : {X : Type 0} (P : X → Type 0) (xs ys : List X) → AllByRecursion P xs → AllByRecursion P ys → AllByRecursion P (xs ++ ys)
All-append_in P [] ys a b = b
All-append_in P (x ∷ xs) ys a b = (a.0, All-append_in P xs ys a.1 b)

longer : (x n : ℕ) (lists : List (List ℕ)) → AllByRecursion (λ list. length list ≡ n) lists → AllByRecursion (λ list. length list ≡ suc n) (map (λ rest. x ∷ rest) lists)
longer x n [] all = tt
longer x n (list ∷ lists) all = (ap suc all.0, longer x n lists all.1)

all_longer : (xs : List ℕ) (n : ℕ) (lists : List (List ℕ)) → AllByRecursion (λ list. length list ≡ n) lists → AllByRecursion (λ list. length list ≡ suc n) (flat_map (λ x. map (λ rest. x ∷ rest) lists) xs)
all_longer [] n lists all = tt
all_longer (x ∷ xs) n lists all = All-append_in (λ list. length list ≡ suc n) (map (λ rest. x ∷ rest) lists) (flat_map (λ x. map (λ rest. x ∷ rest) lists) xs) (longer x n lists all) (all_longer xs n lists all)

all_long : (xs : List ℕ) (n : ℕ) → AllByRecursion (λ list. length list ≡ n) (all_lists xs n)
all_long xs zero = (refl, tt)
all_long xs (suc n) = all_longer xs n (all_lists xs n) (all_long xs n)

-- ---- what is found

found : {X : Type 0} (P : X → Type 0) (test : X → Bool) (d : X) (xs : List X) → AllByRecursion P xs → list_any test xs ≡ true → P (unwrap_or (find test xs) d) × (test (unwrap_or (find test xs) d) ≡ true)
found P test d [] all some = cc
found P test d (x ∷ xs) all some = by_test (test x) refl (found P test d xs all.1)
  where
    by_test : (b : Bool) → test x ≡ b → (list_any test xs ≡ true → P (unwrap_or (find test xs) d) × (test (unwrap_or (find test xs) d) ≡ true)) → P (unwrap_or (cond b (Some x) (find test xs)) d) × (test (unwrap_or (cond b (Some x) (find test xs)) d) ≡ true)
    by_test true e later = (all.0, e)
    by_test false e later = later (ap (λ b. b || list_any test xs) (sym e) ∙ some)

-- it is a live prefix of the length, with the summary
pub record IsPrefixOf (rules : Rulebook) (done : ℕ) (s : Summary) (prefix : List ℕ) : Type 0 where
  pub long : length prefix ≡ done
  pub live : is_live rules prefix ≡ true
  pub same : summary rules prefix ≡ s

pub prefix_is : (rules : Rulebook) (done : ℕ) (s : Summary) → is_live_summary rules done s ≡ true → IsPrefixOf rules done s (summary_prefix rules done s)
prefix_is rules done s h =
    let test : List ℕ → Bool = λ prefix. is_live rules prefix && same_summary s (summary rules prefix) in
    let (long, good) = found (λ list. length list ≡ done) test [] (all_lists (rungs rules) done) (all_long (rungs rules) done) h in
    let parts = and_parts (is_live rules (summary_prefix rules done s)) (same_summary s (summary rules (summary_prefix rules done s))) good in
    record { long = long; live = parts.0; same = sym (same_is s (summary rules (summary_prefix rules done s)) parts.1) }

pub live_summary_of : (rules : Rulebook) (prefix : List ℕ) → is_live rules prefix ≡ true → is_live_summary rules (length prefix) (summary rules prefix) ≡ true
live_summary_of rules prefix live = live-by rules (length prefix) (summary rules prefix) (prefix, refl, live, refl)

-- ---- the rungs that lead on from it

filter-same : (p q : ℕ → Bool) (xs : List ℕ) → ((x : ℕ) → p x ≡ q x) → filter p xs ≡ filter q xs
filter-same p q xs h = ap (λ f. filter f xs) (fun_ext h)

module _ (rules : Rulebook) (done : ℕ) (s : Summary) (prefix : List ℕ) (of : IsPrefixOf rules done s prefix) where
  -- they are those after which the prefix is live
  pub rungs_lead : live_rungs rules prefix ≡ leads rules done s (length rules.prices)
  rungs_lead =
      filter-same (λ rung. is_live rules (prefix ++ rung ∷ [])) (leads_at rules done s) (rungs rules)
      (λ rung. sym (leads-live rules done s prefix rung (record { weeks = of.long; keeps = live-keeps rules prefix of.live; same = of.same })))

  -- there is one where a week is to come
  pub some_leads : done < rules.weeks → live_rungs rules prefix ≡ [] → ⊥
  some_leads early e =
      let (rung, next) = live-next rules prefix of.live (subst (λ n. n < rules.weeks) (sym of.long) early) in
      All-live_rungs rules prefix (λ _. ⊥) rung next (subst (AllByRecursion (λ _. ⊥)) (sym e) tt)

-- the weeks to go, one by one
pub one_more : (weeks done : ℕ) → suc done ≤ weeks → weeks - done ≡ suc (weeks - suc done)
one_more weeks done h = omega arith
