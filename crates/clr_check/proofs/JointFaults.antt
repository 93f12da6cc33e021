-- The conditions of all stores' numbers, one after another.
use Rattle.std.proofs.Common.{◌≡◌, ℕ, ◌<◌, ◌≤◌, true, false, cond, ◌==◌, refl, sym, ap, ap₂, ◌∙◌, arith, suc, List, [], ◌∷◌, ◌++◌, map, length, slice_get, Some, None, Option, ℤ, pos, ◌*ℤ◌, eq-eqb}
use Rattle.std.specs.Prelude.{is_some}
use Rattle.std.specs.List.{flat_map}
use Rattle.std.proofs.lemmas.Option.{slice_get_within}
use Rattle.clr_num.specs.Lists.{numbers}
use Rattle.clr_rules.specs.declared.season_rules.Summary.{Summary}
use Rattle.clr_rules.specs.LiveSummaries.{at_week, leads_at, live_pairs, live_summaries}
use Rattle.clr_rules.specs.Rules.{rungs}
use Rattle.clr_season.specs.Season.{Season}
use Rattle.clr_model.specs.JointValue.{end_value}
use Rattle.clr_model.specs.JointWeek.{joint_base}
use Rattle.clr_cert.specs.declared.no.NoKind.TheVariants as kind
use Rattle.clr_cert.specs.Conditions.{Condition, at_least, at_most, joint_conditions, joint_low_condition, joint_sum, joint_top_condition, leading_rungs, low_after, rung_condition, top_after}
use Rattle.clr_cert.specs.Entries.{CertEntries}
use Rattle.clr_check.specs.declared.faults.Fault.{Fault}
use Rattle.clr_check.specs.Faults.{first_fault}
use Rattle.clr_check.specs.JointRows.{top_conditions}
use Rattle.clr_check.proofs.Firsts.{filter_blocks, first_append, first_is, first_of, none_so_far}
use Rattle.clr_check.proofs.Holding.{live_here}

-- ---- the first of two

pub found_first : (a b : Option Fault) → is_some a ≡ true → a ≡ first_of a b
found_first None b h = cc
found_first (Some x) b h = refl

pub none_first : (a b : Option Fault) → is_some a ≡ false → b ≡ first_of a b
none_first None b h = refl
none_first (Some x) b h = cc

-- ---- the live summary after a rung

pub place_low : (season : Season) (done place : ℕ) (s : Summary) (pairs : List (ℕ × Summary)) → pairs ≡ live_pairs season.rules → done ≤ season.rules.weeks → slice_get (at_week done pairs) place ≡ Some s → place < length (live_summaries season.rules done)
place_low season done place s pairs is early there = slice_get_within (live_summaries season.rules done) place s (live_here season pairs done place s is early there)

-- ---- before a week

module _ (season : Season) (entries : CertEntries) (done : ℕ) (s : Summary) (stocks : List ℕ) where
  -- where a rung leads, what the code compares is the rung's condition
  pub top_on : (top left right : ℤ) (rung : ℕ) (found : Option Fault) → leads_at season.rules done s rung ≡ true → left ≡ top *ℤ pos (joint_base season) → right ≡ joint_sum season done s rung stocks (top_after season entries done s rung) →
      found ≡ first_fault (at_least kind.JointTop left right ∷ []) → found ≡ first_fault (top_conditions season entries done s stocks top rung)
  top_on top left right rung found leads left_is right_is is =
      is ∙ (ap₂ (λ a b. first_fault (at_least kind.JointTop a b ∷ [])) left_is right_is ∙ ap (λ b. first_fault (cond b (joint_top_condition season entries done s stocks top rung ∷ []) [])) (sym leads))

  pub top_off : (top : ℤ) (rung : ℕ) → leads_at season.rules done s rung ≡ false → None ≡ first_fault (top_conditions season entries done s stocks top rung)
  top_off top rung off = ap (λ b. first_fault (cond b (joint_top_condition season entries done s stocks top rung ∷ []) [])) (sym off)

  tops_are : (top : ℤ) → first_fault (map (joint_top_condition season entries done s stocks top) (leading_rungs season done s)) ≡ first_fault (flat_map (top_conditions season entries done s stocks top) (numbers 1 (length season.rules.prices)))
  tops_are top = ap first_fault (filter_blocks (joint_top_condition season entries done s stocks top) (leads_at season.rules done s) (rungs season.rules))

  pub top_found : (top : ℤ) (rung : ℕ) (found : Option Fault) → 1 ≤ rung → rung ≤ length season.rules.prices → ((k : ℕ) → 1 ≤ k → k < rung → first_fault (top_conditions season entries done s stocks top k) ≡ None) →
      found ≡ first_fault (top_conditions season entries done s stocks top rung) → is_some found ≡ true → found ≡ first_fault (map (joint_top_condition season entries done s stocks top) (leading_rungs season done s))
  top_found top rung found low high before is some = first_is (top_conditions season entries done s stocks top) 1 (length season.rules.prices) rung found low (omega arith) before is some ∙ sym (tops_are top)

  pub top_none : (top : ℤ) → ((k : ℕ) → 1 ≤ k → k < suc (length season.rules.prices) → first_fault (top_conditions season entries done s stocks top k) ≡ None) → None ≡ first_fault (map (joint_top_condition season entries done s stocks top) (leading_rungs season done s))
  top_none top each = sym (tops_are top ∙ none_so_far (top_conditions season entries done s stocks top) 1 (length season.rules.prices) (λ n low high. each n low (omega arith)))

  -- the rung and the low number
  pub low_on : (low top left right : ℤ) (rung : ℕ) (found : Option Fault) → leads_at season.rules done s rung ≡ true → left ≡ low *ℤ pos (joint_base season) → right ≡ joint_sum season done s rung stocks (low_after season entries done s rung) →
      found ≡ first_fault (at_most kind.JointLow left right ∷ []) → found ≡ first_fault (rung_condition season done s rung ∷ joint_low_condition season entries done s stocks (rung, low, top) ∷ [])
  low_on low top left right rung found leads left_is right_is is =
      is
      ∙ (ap₂ (λ a b. first_fault (at_most kind.JointLow a b ∷ [])) left_is right_is
      ∙ ap (λ b. first_fault (record { kind = kind.Rung; holds = b; left = pos (suc done); right = pos rung } ∷ joint_low_condition season entries done s stocks (rung, low, top) ∷ [])) (sym leads))

  pub low_off : (low top left right : ℤ) (rung : ℕ) → leads_at season.rules done s rung ≡ false → left ≡ pos (suc done) → right ≡ pos rung → Some (record { kind = kind.Rung; left = left; right = right }) ≡ first_fault (rung_condition season done s rung ∷ joint_low_condition season entries done s stocks (rung, low, top) ∷ [])
  low_off low top left right rung off left_is right_is =
      ap₂ (λ a b. first_fault (record { kind = kind.Rung; holds = false; left = a; right = b } ∷ joint_low_condition season entries done s stocks (rung, low, top) ∷ [])) left_is right_is
      ∙ ap (λ b. first_fault (record { kind = kind.Rung; holds = b; left = pos (suc done); right = pos rung } ∷ joint_low_condition season entries done s stocks (rung, low, top) ∷ [])) (sym off)

  -- all of them
  parts : (low top : ℤ) (rung : ℕ) → done < season.rules.weeks →
      first_fault (joint_conditions season entries done s stocks (rung, low, top))
      ≡ first_of (first_fault (rung_condition season done s rung ∷ joint_low_condition season entries done s stocks (rung, low, top) ∷ [])) (first_fault (map (joint_top_condition season entries done s stocks top) (leading_rungs season done s)))
  parts low top rung early =
      let other : (done == season.rules.weeks) ≡ false = grind arith in
      let first : List Condition = rung_condition season done s rung ∷ joint_low_condition season entries done s stocks (rung, low, top) ∷ [] in
      let rest : List Condition = map (joint_top_condition season entries done s stocks top) (leading_rungs season done s) in
      ap (λ b. first_fault (cond b (at_most kind.JointLow low (end_value season stocks) ∷ at_least kind.JointTop top (end_value season stocks) ∷ []) (first ++ rest))) other
      ∙ first_append first rest

  pub week_first : (low top : ℤ) (rung : ℕ) (found : Option Fault) → done < season.rules.weeks → found ≡ first_fault (rung_condition season done s rung ∷ joint_low_condition season entries done s stocks (rung, low, top) ∷ []) → is_some found ≡ true →
      found ≡ first_fault (joint_conditions season entries done s stocks (rung, low, top))
  week_first low top rung found early is some =
      found_first found (first_fault (map (joint_top_condition season entries done s stocks top) (leading_rungs season done s))) some
      ∙ (ap (λ o. first_of o (first_fault (map (joint_top_condition season entries done s stocks top) (leading_rungs season done s)))) is ∙ sym (parts low top rung early))

  pub week_later : (low top : ℤ) (rung : ℕ) (before found : Option Fault) → done < season.rules.weeks → before ≡ first_fault (rung_condition season done s rung ∷ joint_low_condition season entries done s stocks (rung, low, top) ∷ []) → is_some before ≡ false →
      found ≡ first_fault (map (joint_top_condition season entries done s stocks top) (leading_rungs season done s)) → found ≡ first_fault (joint_conditions season entries done s stocks (rung, low, top))
  week_later low top rung before found early is none found_is =
      none_first before found none ∙ (ap₂ first_of is found_is ∙ sym (parts low top rung early))

-- ---- at the end

module _ (season : Season) (entries : CertEntries) (s : Summary) (stocks : List ℕ) (rung : ℕ) (low top value : ℤ) (is : value ≡ end_value season stocks) where
  ends : first_fault (joint_conditions season entries season.rules.weeks s stocks (rung, low, top)) ≡ first_of (first_fault (at_most kind.JointLow low value ∷ [])) (first_fault (at_least kind.JointTop top value ∷ []))
  ends =
      ap (λ b. first_fault (cond b (at_most kind.JointLow low (end_value season stocks) ∷ at_least kind.JointTop top (end_value season stocks) ∷ [])
      (rung_condition season season.rules.weeks s rung ∷ joint_low_condition season entries season.rules.weeks s stocks (rung, low, top) ∷ map (joint_top_condition season entries season.rules.weeks s stocks top) (leading_rungs season season.rules.weeks s)))) (eq-eqb season.rules.weeks season.rules.weeks refl)
      ∙ (first_append (at_most kind.JointLow low (end_value season stocks) ∷ []) (at_least kind.JointTop top (end_value season stocks) ∷ [])
      ∙ ap (λ v. first_of (first_fault (at_most kind.JointLow low v ∷ [])) (first_fault (at_least kind.JointTop top v ∷ []))) (sym is))

  pub end_first : (found : Option Fault) → found ≡ first_fault (at_most kind.JointLow low value ∷ []) → is_some found ≡ true → found ≡ first_fault (joint_conditions season entries season.rules.weeks s stocks (rung, low, top))
  end_first found found_is some =
      found_first found (first_fault (at_least kind.JointTop top value ∷ [])) some ∙ (ap (λ o. first_of o (first_fault (at_least kind.JointTop top value ∷ []))) found_is ∙ sym ends)

  pub end_later : (before found : Option Fault) → before ≡ first_fault (at_most kind.JointLow low value ∷ []) → is_some before ≡ false → found ≡ first_fault (at_least kind.JointTop top value ∷ []) → found ≡ first_fault (joint_conditions season entries season.rules.weeks s stocks (rung, low, top))
  end_later before found before_is none found_is = none_first before found none ∙ (ap₂ first_of before_is found_is ∙ sym ends)
