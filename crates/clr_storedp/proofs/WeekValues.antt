-- A summary's value from the values after the week, over the rungs that lead to a live summary.
use Rattle.std.proofs.Common.{◌≡◌, ℕ, ◌-◌, ◌<◌, ◌≤◌, ℤ, pos, ◌+ℤ◌, subst₂, true, refl, sym, ap, ap₂, ◌∙◌, subst, arith, suc, List, [], ◌∷◌, ◌++◌, length}
use mathlib.Core.Path.{fun_ext}
use Rattle.std.specs.List.{AllByRecursion}
use Rattle.clr_num.specs.Direction.{IsDirection}
use Rattle.clr_num.specs.Sums.{first_best}
use Rattle.clr_rules.specs.declared.season_rules.Summary.{Summary}
use Rattle.clr_rules.specs.Rules.{Rulebook, is_live, live_rungs, next_summary, rungs, summary}
use Rattle.clr_rules.specs.LiveSummaries.{is_live_summary}
use Rattle.clr_rules.proofs.ListTests.{All-filter}
use Rattle.clr_rules.proofs.LiveLemmas.{live-rung}
use Rattle.clr_rules.proofs.SummaryLemmas.{summary-more}
use Rattle.clr_season.specs.Season.{Season, IsPlace, IsSeason}
use Rattle.clr_model.specs.PathValue.{weighed}
use Rattle.clr_model.specs.StoreValue.{Multipliers, rung_value, store_value}
use Rattle.clr_model.proofs.Abiding.{length_more}
use Rattle.clr_model.proofs.Best.{best_value-same, first_best-same}
use Rattle.clr_model.proofs.Sums.{All-imply}
use Rattle.clr_rows.specs.Leads.{AreBestRows, best_value, choice_so_far, lead_value, value_so_far}
use Rattle.clr_rows.specs.Rows.{AreRows}
use Rattle.clr_rows.specs.Summaries.{live_week, summary_prefix}
use Rattle.clr_rows.proofs.Bests.{best_some}
use Rattle.clr_rows.proofs.Prefixes.{IsPrefixOf, one_more, prefix_is, rungs_lead, some_leads}
use Rattle.clr_rows.proofs.WeekRows.{choices_by, values_by}
use Rattle.clr_storedp.specs.BySummary.{added, average_into, summary_choice, summary_value}
use Rattle.clr_storedp.proofs.Fees.{average_apart}
use Rattle.clr_storedp.proofs.Prefixes.{value_at_prefix}

module _ (leans : ℤ → ℤ → Type 0) (div : ℤ → ℕ → ℤ) (laws : IsDirection leans div) (m : Multipliers) (season : Season) (store done stock : ℕ) (s : Summary) (is : IsSeason season) (first : 1 ≤ store) (last : store ≤ length season.stores) (early : done < season.rules.weeks)
    (live : is_live_summary season.rules done s ≡ true) where
  abbrev prefix : List ℕ
  prefix = summary_prefix season.rules done s

  of : IsPrefixOf season.rules done s prefix
  of = prefix_is season.rules done s live

  -- what a rung gives after the prefix, with so many weeks to go after the next
  abbrev gives : ℕ → ℤ
  gives rung = rung_value div m season store prefix rung stock (λ rest. store_value div m season store (season.rules.weeks - suc (length prefix)) (prefix ++ rung ∷ []) rest)

  given : (rung : ℕ) → is_live season.rules (prefix ++ rung ∷ []) ≡ true → gives rung ≡ lead_value season.rules (average_into div m season store done) (added m season store done) s stock rung
  given rung next =
      let range = live-rung season.rules prefix rung next in
      let long : length (prefix ++ rung ∷ []) ≡ suc done = length_more prefix rung ∙ ap suc of.long in
      let after : summary season.rules (prefix ++ rung ∷ []) ≡ next_summary season.rules s rung = summary-more season.rules prefix rung ∙ ap (λ t. next_summary season.rules t rung) of.same in
      let values : (rest : ℕ) → store_value div m season store (season.rules.weeks - suc (length prefix)) (prefix ++ rung ∷ []) rest ≡ summary_value div m season store (suc done) (next_summary season.rules s rung) rest
      = λ rest. ap (λ n. store_value div m season store (season.rules.weeks - n) (prefix ++ rung ∷ []) rest) (sym (length_more prefix rung))
      ∙ (sym (value_at_prefix div m season store (prefix ++ rung ∷ []) rest next) ∙ ap₂ (λ n t. summary_value div m season store n t rest) long after) in
      let place : IsPlace season store (suc done) rung = record { first_store = first; last_store = last; first_week = omega arith; last_week = early; first_rung = range.0; last_rung = range.1 } in
      ap (λ v. rung_value div m season store prefix rung stock v) (fun_ext values)
      ∙ (ap₂ (λ n k. div (weighed season store n k rung stock (summary_value div m season store (suc done) (next_summary season.rules s rung))) season.base +ℤ m store (suc n) rung) of.long (ap (λ t. t.last) of.same)
      ∙ average_apart leans div laws season store done s.last rung stock (summary_value div m season store (suc done) (next_summary season.rules s rung)) (m store (suc done) rung) is place)

  agree : AllByRecursion (λ rung. gives rung ≡ lead_value season.rules (average_into div m season store done) (added m season store done) s stock rung) (live_rungs season.rules prefix)
  agree = All-imply (λ rung. is_live season.rules (prefix ++ rung ∷ []) ≡ true) _ (live_rungs season.rules prefix) given (All-filter (λ rung. is_live season.rules (prefix ++ rung ∷ [])) (rungs season.rules))

  pub value_is : value_so_far season.rules done (average_into div m season store done) (added m season store done) s (length season.rules.prices) stock ≡ summary_value div m season store done s stock
  value_is =
      sym (ap (λ n. store_value div m season store n prefix stock) (one_more season.rules.weeks (length prefix) (subst (λ n. suc n ≤ season.rules.weeks) (sym of.long) early))
      ∙ (best_value-same gives (lead_value season.rules (average_into div m season store done) (added m season store done) s stock) 1 (live_rungs season.rules prefix) (some_leads season.rules done s prefix of early) agree
      ∙ (best_some (lead_value season.rules (average_into div m season store done) (added m season store done) s stock) (live_rungs season.rules prefix) (some_leads season.rules done s prefix of early)
      ∙ ap (best_value (lead_value season.rules (average_into div m season store done) (added m season store done) s stock)) (rungs_lead season.rules done s prefix of))))

  pub choice_is : choice_so_far season.rules done (average_into div m season store done) (added m season store done) s (length season.rules.prices) stock ≡ summary_choice div m season store done s stock
  choice_is =
      sym ((first_best-same gives (lead_value season.rules (average_into div m season store done) (added m season store done) s stock) 1 (live_rungs season.rules prefix) agree).0
      ∙ ap (first_best (lead_value season.rules (average_into div m season store done) (added m season store done) s stock) 1) (rungs_lead season.rules done s prefix of))

-- ---- the rows of a week

-- the best rows of the averages are the rows of the summaries' values and choices
module _ (leans : ℤ → ℤ → Type 0) (div : ℤ → ℕ → ℤ) (laws : IsDirection leans div) (m : Multipliers) (season : Season) (store done width : ℕ) (is : IsSeason season) (first : 1 ≤ store) (last : store ≤ length season.stores) (early : done < season.rules.weeks) (rules : Rulebook)
    (averages rows : List ℤ) (chosen : List ℕ) (count : ℕ) (rules_is : rules ≡ season.rules) (count_is : count ≡ length (live_week season.rules done))
    (are : AreRows (pos 0) width (live_week season.rules (suc done)) (length (live_week season.rules (suc done))) (average_into div m season store done) averages) (best : AreBestRows rules done width averages (added m season store done) count rows chosen) where
  pub values_are : AreRows (pos 0) width (live_week season.rules done) (length (live_week season.rules done)) (summary_value div m season store done) rows
  values_are =
      values_by rules season.rules done width count averages rows chosen (added m season store done) (average_into div m season store done) rules_is (omega (arith, early)) count_is are best (summary_value div m season store done)
      (λ s x live. value_is leans div laws m season store done x s is first last early live)

  pub choices_are : AreRows 0 width (live_week season.rules done) (length (live_week season.rules done)) (summary_choice div m season store done) chosen
  choices_are =
      choices_by rules season.rules done width count averages rows chosen (added m season store done) (average_into div m season store done) rules_is (omega (arith, early)) count_is are best (summary_choice div m season store done)
      (λ s x live. choice_is leans div laws m season store done x s is first last early live)
