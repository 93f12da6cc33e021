-- A summary's value from the values after the week, over the rungs that lead to a live summary.
use Rattle.std.proofs.Common.{◌≡◌, ℕ, ◌-◌, ◌^◌, ◌<◌, ◌≤◌, ℤ, pos, true, refl, sym, ap, ap₂, ◌∙◌, subst, subst₂, arith, suc, List, [], ◌∷◌, ◌++◌, length, le_trans}
use mathlib.Core.Path.{fun_ext}
use Rattle.std.proofs.Math.Nat.{pow-le-pow_right, pow-zero}
use Rattle.std.specs.List.{AllByRecursion}
use Rattle.clr_num.specs.Direction.{IsDirection}
use Rattle.clr_num.specs.Rounding.{floor}
use Rattle.clr_num.specs.Sums.{first_best}
use Rattle.clr_rules.specs.declared.season_rules.Summary.{Summary}
use Rattle.clr_rules.specs.Rules.{Rulebook, is_live, live_rungs, next_summary, rungs, summary}
use Rattle.clr_rules.specs.LiveSummaries.{is_live_summary}
use Rattle.clr_rules.proofs.ListTests.{All-filter}
use Rattle.clr_rules.proofs.LiveLemmas.{live-rung}
use Rattle.clr_rules.proofs.SummaryLemmas.{summary-more}
use Rattle.clr_season.specs.Season.{Season, IsSeason}
use Rattle.clr_model.specs.JointLaws.{SameJointValue}
use Rattle.clr_model.specs.JointValue.{joint_rung_at, joint_rung_value, joint_value, joint_value_at}
use Rattle.clr_model.specs.JointWeek.{joint_base, joint_weighed}
use Rattle.clr_model.specs.Revenue.{full_stocks}
use Rattle.clr_model.specs.Stocks.{stocks_at}
use Rattle.clr_model.proofs.Abiding.{length_more}
use Rattle.clr_model.proofs.Best.{best_value-same, first_best-same}
use Rattle.clr_model.proofs.JointBySummary.{joint_value_by_summary_lem}
use Rattle.clr_model.proofs.Sums.{All-imply}
use Rattle.clr_rows.specs.Leads.{AreBestRows, best_value, choice_so_far, lead_value, value_so_far}
use Rattle.clr_rows.specs.Rows.{AreRows}
use Rattle.clr_rows.specs.Summaries.{live_week, summary_prefix}
use Rattle.clr_rows.proofs.Bests.{best_some}
use Rattle.clr_rows.proofs.Prefixes.{IsPrefixOf, live_summary_of, one_more, prefix_is, rungs_lead, some_leads}
use Rattle.clr_rows.proofs.WeekRows.{choices_by, values_by}
use Rattle.clr_joint.specs.BySummary.{average_into, by_place, less_costs, summary_choice, summary_value}
use Rattle.clr_joint.proofs.Costs.{average_apart}

-- ---- a summary's value is that of each live prefix that has it

both_values : (div : ℤ → ℕ → ℤ) (season : Season) (prefix stocks : List ℕ) → is_live season.rules prefix ≡ true → SameJointValue div season (summary_prefix season.rules (length prefix) (summary season.rules prefix)) prefix stocks
both_values div season prefix stocks live =
    let is = prefix_is season.rules (length prefix) (summary season.rules prefix) (live_summary_of season.rules prefix live) in
    joint_value_by_summary_lem div season (summary_prefix season.rules (length prefix) (summary season.rules prefix)) prefix stocks is.long is.live live is.same

pub value_at_prefix : (div : ℤ → ℕ → ℤ) (season : Season) (prefix stocks : List ℕ) → is_live season.rules prefix ≡ true → summary_value div season (length prefix) (summary season.rules prefix) stocks ≡ joint_value_at div season prefix stocks
value_at_prefix div season prefix stocks live = (both_values div season prefix stocks live).value

pub choice_at_prefix : (season : Season) (prefix stocks : List ℕ) → is_live season.rules prefix ≡ true → length prefix < season.rules.weeks → summary_choice floor season (length prefix) (summary season.rules prefix) stocks ≡ joint_rung_at season prefix stocks
choice_at_prefix season prefix stocks live early =
    let is = prefix_is season.rules (length prefix) (summary season.rules prefix) (live_summary_of season.rules prefix live) in
    (both_values floor season prefix stocks live).rung (subst (λ n. n < season.rules.weeks) (sym is.long) early)

-- ---- by the rungs that lead on

module _ (leans : ℤ → ℤ → Type 0) (div : ℤ → ℕ → ℤ) (laws : IsDirection leans div) (season : Season) (done : ℕ) (x : ℕ) (s : Summary) (is : IsSeason season) (early : done < season.rules.weeks) (live : is_live_summary season.rules done s ≡ true) where
  abbrev stocks : List ℕ
  stocks = stocks_at (full_stocks season) x

  abbrev prefix : List ℕ
  prefix = summary_prefix season.rules done s

  of : IsPrefixOf season.rules done s prefix
  of = prefix_is season.rules done s live

  base_some : 1 ≤ joint_base season
  base_some = let power : season.base ^ 0 ≡ 1 = pow-zero season.base in let none : 1 ≤ season.base ^ 0 = omega (arith, power) in let few : 0 ≤ length season.stores = omega arith in le_trans none (pow-le-pow_right is.least_base few)

  -- what a rung gives after the prefix, with so many weeks to go after the next
  abbrev gives : ℕ → ℤ
  gives rung = joint_rung_value div season prefix rung stocks (λ rest. joint_value div season (season.rules.weeks - suc (length prefix)) (prefix ++ rung ∷ []) rest)

  given : (rung : ℕ) → is_live season.rules (prefix ++ rung ∷ []) ≡ true → gives rung ≡ lead_value season.rules (by_place season (average_into div season done)) (less_costs season) s x rung
  given rung next =
      let range = live-rung season.rules prefix rung next in
      let long : length (prefix ++ rung ∷ []) ≡ suc done = length_more prefix rung ∙ ap suc of.long in
      let after : summary season.rules (prefix ++ rung ∷ []) ≡ next_summary season.rules s rung = summary-more season.rules prefix rung ∙ ap (λ t. next_summary season.rules t rung) of.same in
      let values : (rest : List ℕ) → joint_value div season (season.rules.weeks - suc (length prefix)) (prefix ++ rung ∷ []) rest ≡ summary_value div season (suc done) (next_summary season.rules s rung) rest
      = λ rest. ap (λ n. joint_value div season (season.rules.weeks - n) (prefix ++ rung ∷ []) rest) (sym (length_more prefix rung))
      ∙ (sym (value_at_prefix div season (prefix ++ rung ∷ []) rest next) ∙ ap₂ (λ n t. summary_value div season n t rest) long after) in
      ap (λ v. joint_rung_value div season prefix rung stocks v) (fun_ext values)
      ∙ (ap₂ (λ n k. div (joint_weighed season n k rung stocks (λ week rest. summary_value div season (suc done) (next_summary season.rules s rung) rest)) (joint_base season)) of.long (ap (λ t. t.last) of.same)
      ∙ average_apart leans div laws season done s.last rung stocks (summary_value div season (suc done) (next_summary season.rules s rung)) is base_some early range.0 range.1)

  agree : AllByRecursion (λ rung. gives rung ≡ lead_value season.rules (by_place season (average_into div season done)) (less_costs season) s x rung) (live_rungs season.rules prefix)
  agree = All-imply (λ rung. is_live season.rules (prefix ++ rung ∷ []) ≡ true) _ (live_rungs season.rules prefix) given (All-filter (λ rung. is_live season.rules (prefix ++ rung ∷ [])) (rungs season.rules))

  pub value_is : value_so_far season.rules done (by_place season (average_into div season done)) (less_costs season) s (length season.rules.prices) x ≡ summary_value div season done s stocks
  value_is =
      sym (ap (λ n. joint_value div season n prefix stocks) (one_more season.rules.weeks (length prefix) (subst (λ n. suc n ≤ season.rules.weeks) (sym of.long) early))
      ∙ (best_value-same gives (lead_value season.rules (by_place season (average_into div season done)) (less_costs season) s x) 1 (live_rungs season.rules prefix) (some_leads season.rules done s prefix of early) agree
      ∙ (best_some (lead_value season.rules (by_place season (average_into div season done)) (less_costs season) s x) (live_rungs season.rules prefix) (some_leads season.rules done s prefix of early)
      ∙ ap (best_value (lead_value season.rules (by_place season (average_into div season done)) (less_costs season) s x)) (rungs_lead season.rules done s prefix of))))

  pub choice_is : choice_so_far season.rules done (by_place season (average_into div season done)) (less_costs season) s (length season.rules.prices) x ≡ summary_choice div season done s stocks
  choice_is =
      sym ((first_best-same gives (lead_value season.rules (by_place season (average_into div season done)) (less_costs season) s x) 1 (live_rungs season.rules prefix) agree).0
      ∙ ap (first_best (lead_value season.rules (by_place season (average_into div season done)) (less_costs season) s x) 1) (rungs_lead season.rules done s prefix of))

-- ---- the rows of a week

-- the best rows of the averages are the rows of the summaries' values and choices
module _ (leans : ℤ → ℤ → Type 0) (div : ℤ → ℕ → ℤ) (laws : IsDirection leans div) (season : Season) (done width : ℕ) (is : IsSeason season) (early : done < season.rules.weeks) (rules : Rulebook)
    (averages rows : List ℤ) (chosen : List ℕ) (count : ℕ) (rules_is : rules ≡ season.rules) (count_is : count ≡ length (live_week season.rules done))
    (are : AreRows (pos 0) width (live_week season.rules (suc done)) (length (live_week season.rules (suc done))) (by_place season (average_into div season done)) averages) (best : AreBestRows rules done width averages (less_costs season) count rows chosen) where
  pub values_are : AreRows (pos 0) width (live_week season.rules done) (length (live_week season.rules done)) (by_place season (summary_value div season done)) rows
  values_are =
      values_by rules season.rules done width count averages rows chosen (less_costs season) (by_place season (average_into div season done)) rules_is (omega (arith, early)) count_is are best (by_place season (summary_value div season done))
      (λ s x live. value_is leans div laws season done x s is early live)

  pub choices_are : AreRows 0 width (live_week season.rules done) (length (live_week season.rules done)) (by_place season (summary_choice div season done)) chosen
  choices_are =
      choices_by rules season.rules done width count averages rows chosen (less_costs season) (by_place season (average_into div season done)) rules_is (omega (arith, early)) count_is are best (by_place season (summary_choice div season done))
      (λ s x live. choice_is leans div laws season done x s is early live)
