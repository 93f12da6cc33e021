-- The pairs of length and live summary: whose they are, and whether there are any.
use Rattle.std.proofs.Common.{◌≡◌, ◌↔◌, IsTrue, ℕ, ◌<◌, ◌≤◌, Bool, true, false, refl, sym, ap, ◌∙◌, subst, arith, suc, List, [], ◌∷◌, ◌++◌, length, map, Some, slice_get, ◌⊎◌, inl, inr}
use Rattle.std.proofs.lemmas.Bool.{cases_lt}
use Rattle.std.proofs.lemmas.List.{get_or_past}
use Rattle.clr_rules.specs.declared.season_rules.Summary.{Summary}
use Rattle.clr_num.specs.Lists.{numbers}
use Rattle.clr_rules.specs.Rules.{Rulebook, IsLiveSummary, is_live, summary}
use Rattle.clr_rules.specs.LiveSummaries.{is_live_summary, live_summaries, live_pairs, at_week, summaries, IsIn, LivePairsAreLive}
use Rattle.clr_rules.proofs.LiveLemmas.{live_witness, live_from}
use Rattle.clr_rules.proofs.LiveLists.{live-prefix, live-by}
use Rattle.clr_rules.proofs.Pairs.{at_week-of, some_pair, no_pair}
use Rattle.clr_rules.proofs.Sweeps.{get_week, length-weeks, in_filter, live_in}

weeks_of : Rulebook → List (List Summary)
weeks_of rules = map (live_summaries rules) (numbers 0 (suc rules.weeks))

nothing_in : (s : Summary) (k : ℕ) → slice_get [] k ≡ Some s → ⊥
nothing_in s k h = cc

nil_if_none : (list : List Summary) → ((s : Summary) → IsIn list s → ⊥) → list ≡ []
nil_if_none [] h = refl
nil_if_none (s ∷ list) h = absurd (h s (0, refl))

pub week_is : (rules : Rulebook) (done : ℕ) → done ≤ rules.weeks → at_week done (live_pairs rules) ≡ live_summaries rules done
week_is rules done low = at_week-of (map (live_summaries rules) (numbers 0 (suc rules.weeks))) done ∙ get_week (live_summaries rules) (suc rules.weeks) done (omega arith)

past_is : (rules : Rulebook) (done : ℕ) → suc rules.weeks ≤ done → at_week done (live_pairs rules) ≡ []
past_is rules done high =
    at_week-of (map (live_summaries rules) (numbers 0 (suc rules.weeks))) done
    ∙ get_or_past (map (live_summaries rules) (numbers 0 (suc rules.weeks))) done [] (subst (λ n. n ≤ done) (sym (length-weeks (live_summaries rules) (suc rules.weeks))) high)

start_live : (rules : Rulebook) (done : ℕ) (s : Summary) → IsLiveSummary rules done s → is_live rules [] ≡ true
start_live rules done s (prefix, long, live, same) = let (rest, good) = live_witness rules prefix live in live_from rules [] (prefix ++ rest) good

pub live_pairs_lem : LivePairsAreLive
live_pairs_lem rules book = record { pairs = pairs; some = (some_back, some_there) }
  where
    of_week : (done : ℕ) (s : Summary) → IsIn (live_summaries rules done) s → IsLiveSummary rules done s
    of_week done s (k, h) = live-prefix rules done s (in_filter (is_live_summary rules done) (summaries rules) k s h).0

    forward : (done : ℕ) (s : Summary) → (rules.weeks < done) ⊎ (done ≤ rules.weeks) → IsIn (at_week done (live_pairs rules)) s → (done ≤ rules.weeks) × IsLiveSummary rules done s
    forward done s (inr low) h = (low, of_week done s (subst (λ list. IsIn list s) (week_is rules done low) h))
    forward done s (inl high) h = let (k, there) = subst (λ list. IsIn list s) (past_is rules done high) h in absurd (nothing_in s k there)

    pairs : (done : ℕ) (s : Summary) → IsIn (at_week done (live_pairs rules)) s ↔ ((done ≤ rules.weeks) × IsLiveSummary rules done s)
    pairs done s = (
      forward done s (cases_lt rules.weeks done),
      λ h. subst (λ list. IsIn list s) (sym (week_is rules done h.0)) (live_in rules done s book h.0 (live-by rules done s h.1)),
    )

    some_there : IsTrue (is_live rules []) → 0 < length (live_pairs rules)
    some_there live =
        let (k, there) = live_in rules 0 (summary rules []) book (omega arith) (live-by rules 0 (summary rules []) ([], refl, live, refl)) in
        some_pair 0 (map (live_summaries rules) (numbers 0 (suc rules.weeks))) 0
        (λ e. nothing_in (summary rules []) k (ap (λ (list : List Summary). slice_get list k) (sym e) ∙ there))

    decide : (b : Bool) → is_live rules [] ≡ b → 0 < length (live_pairs rules) → b ≡ true
    decide true e h = refl
    decide false e h =
        let none : length (live_pairs rules) ≡ 0 = no_pair 0 (map (live_summaries rules) (numbers 0 (suc rules.weeks)))
        (λ k low. let short : k < suc rules.weeks = subst (λ n. k < n) (length-weeks (live_summaries rules) (suc rules.weeks)) low in
        get_week (live_summaries rules) (suc rules.weeks) k short
        ∙ nil_if_none (live_summaries rules k) (λ s there. clash (sym e ∙ start_live rules k s (of_week k s there)))) in
        absurd (omega arith)
      where
        clash : false ≡ true → ⊥
        clash h = cc

    some_back : 0 < length (live_pairs rules) → IsTrue (is_live rules [])
    some_back h = decide (is_live rules []) refl h
