-- The values of all stores together depend on the summary alone.
use Rattle.std.proofs.Common.{◌≡◌, ℕ, ◌+◌, ◌-◌, ◌<◌, ◌≤◌, ℤ, true, refl, sym, ap, ap₂, ◌∙◌, subst, arith, suc, zero, List, [], ◌∷◌, ◌++◌, length, IsTrue}
use Rattle.std.specs.List.{AllByRecursion}
use mathlib.Core.Path.{fun_ext}
use Rattle.clr_num.specs.Rounding.{floor}
use Rattle.clr_num.specs.Sums.{first_best}
use Rattle.clr_rules.specs.Rules.{is_live, live_rungs, summary, rungs}
use Rattle.clr_rules.proofs.ListTests.{All-filter}
use Rattle.clr_rules.proofs.LiveLemmas.{live-next, live-length, All-live_rungs}
use Rattle.clr_rules.proofs.SummaryLemmas.{live_rungs_same, live_same, live-keeps, summary_one_more}
use Rattle.clr_season.specs.Season.{Season}
use Rattle.clr_model.specs.JointWeek.{joint_weighed, joint_base}
use Rattle.clr_model.specs.JointValue.{joint_rung_value, joint_value, joint_rung}
use Rattle.clr_model.specs.JointLaws.{JointValueBySummary}
use Rattle.clr_model.proofs.Sums.{All-imply}
use Rattle.clr_model.proofs.Abiding.{length_more}
use Rattle.clr_model.proofs.Best.{first_best-same, best_value-same}
use Rattle.clr_model.proofs.JointNumbers.{weeks_after}

-- what each rung gives after a prefix, with so many weeks to go after the next
abbrev gives : (ℤ → ℕ → ℤ) → Season → ℕ → List ℕ → List ℕ → ℕ → ℤ
gives div season weeks prefix stocks rung = joint_rung_value div season prefix rung stocks (λ rest. joint_value div season weeks (prefix ++ rung ∷ []) rest)

-- two live prefixes of one length and summary
record AreAlike (season : Season) (prefix other : List ℕ) : Type 0 where
  long : length prefix ≡ length other
  live : IsTrue (is_live season.rules prefix)
  other_live : IsTrue (is_live season.rules other)
  same : summary season.rules prefix ≡ summary season.rules other

alike_more : (season : Season) (prefix other : List ℕ) (rung : ℕ) → AreAlike season prefix other → IsTrue (is_live season.rules (prefix ++ rung ∷ [])) → AreAlike season (prefix ++ rung ∷ []) (other ++ rung ∷ [])
alike_more season prefix other rung alike next = record {
  long = length_more prefix rung ∙ (ap suc alike.long ∙ sym (length_more other rung));
  live = next;
  other_live = sym (live_same season.rules prefix other rung alike.long (live-keeps season.rules prefix alike.live) (live-keeps season.rules other alike.other_live) alike.same) ∙ next;
  same = summary_one_more season.rules prefix other rung alike.same;
}

alike_rungs : (season : Season) (prefix other : List ℕ) → AreAlike season prefix other → live_rungs season.rules prefix ≡ live_rungs season.rules other
alike_rungs season prefix other alike = live_rungs_same season.rules prefix other alike.long (live-keeps season.rules prefix alike.live) (live-keeps season.rules other alike.other_live) alike.same

module _ (div : ℤ → ℕ → ℤ) (season : Season) where
  -- what a rung gives, where the values after it are the same
  rung_value-same : (prefix other : List ℕ) (rung : ℕ) (stocks : List ℕ) (f g : List ℕ → ℤ) → AreAlike season prefix other → ((rest : List ℕ) → f rest ≡ g rest) →
      joint_rung_value div season prefix rung stocks f ≡ joint_rung_value div season other rung stocks g
  rung_value-same prefix other rung stocks f g alike h =
      ap₂ (λ (n : ℕ) (k : ℕ). div (joint_weighed season n k rung stocks (λ week rest. f rest)) (joint_base season)) alike.long (ap (λ s. s.last) alike.same)
      ∙ ap (λ (v : List ℕ → ℤ). joint_rung_value div season other rung stocks v) (fun_ext h)

  -- the values of live rungs are the same after both prefixes
  rungs_same : (weeks : ℕ) (prefix other stocks : List ℕ) → AreAlike season prefix other →
      ((rung : ℕ) (rest : List ℕ) → IsTrue (is_live season.rules (prefix ++ rung ∷ [])) → joint_value div season weeks (prefix ++ rung ∷ []) rest ≡ joint_value div season weeks (other ++ rung ∷ []) rest) →
      AllByRecursion (λ rung. gives div season weeks prefix stocks rung ≡ gives div season weeks other stocks rung) (live_rungs season.rules prefix)
  rungs_same weeks prefix other stocks alike h =
      All-imply (λ rung. is_live season.rules (prefix ++ rung ∷ []) ≡ true) _ (live_rungs season.rules prefix)
      (λ rung next. rung_value-same prefix other rung stocks _ _ alike (λ rest. h rung rest next))
      (All-filter (λ rung. is_live season.rules (prefix ++ rung ∷ [])) (rungs season.rules))

  value_same : (weeks : ℕ) (prefix other stocks : List ℕ) → length prefix + weeks ≡ season.rules.weeks → AreAlike season prefix other → joint_value div season weeks prefix stocks ≡ joint_value div season weeks other stocks
  value_same zero prefix other stocks left alike = refl
  value_same (suc weeks) prefix other stocks left alike =
      let (some, next) = live-next season.rules prefix alike.live (omega arith) in
      best_value-same (gives div season weeks prefix stocks) (gives div season weeks other stocks) 1 (live_rungs season.rules prefix)
      (λ e. All-live_rungs season.rules prefix (λ _. ⊥) some next (subst (AllByRecursion (λ _. ⊥)) (sym e) tt))
      (rungs_same weeks prefix other stocks alike
      (λ rung rest h. value_same weeks (prefix ++ rung ∷ []) (other ++ rung ∷ []) rest (weeks_after (length prefix) (length (prefix ++ rung ∷ [])) weeks season.rules.weeks (length_more prefix rung) left) (alike_more season prefix other rung alike h)))
      ∙ ap (λ xs. gives div season weeks other stocks (first_best (gives div season weeks other stocks) 1 xs)) (alike_rungs season prefix other alike)

rung_same : (season : Season) (weeks : ℕ) (prefix other stocks : List ℕ) → length prefix + suc weeks ≡ season.rules.weeks → AreAlike season prefix other → joint_rung season weeks prefix stocks ≡ joint_rung season weeks other stocks
rung_same season weeks prefix other stocks left alike =
    (first_best-same (gives floor season weeks prefix stocks) (gives floor season weeks other stocks) 1 (live_rungs season.rules prefix)
    (rungs_same floor season weeks prefix other stocks alike
    (λ rung rest h. value_same floor season weeks (prefix ++ rung ∷ []) (other ++ rung ∷ []) rest (weeks_after (length prefix) (length (prefix ++ rung ∷ [])) weeks season.rules.weeks (length_more prefix rung) left) (alike_more season prefix other rung alike h)))).0
    ∙ ap (λ xs. first_best (gives floor season weeks other stocks) 1 xs) (alike_rungs season prefix other alike)

pub joint_value_by_summary_lem : JointValueBySummary
joint_value_by_summary_lem div season prefix other stocks long live live' same =
    let alike : AreAlike season prefix other = record { long = long; live = live; other_live = live'; same = same } in
    record {
      value = value_same div season (season.rules.weeks - length prefix) prefix other stocks (whole (live-length season.rules prefix live)) alike
          ∙ ap (λ n. joint_value div season (season.rules.weeks - n) other stocks) long;
      rung = λ short. rung_same season (season.rules.weeks - suc (length prefix)) prefix other stocks (rest short) alike
          ∙ ap (λ n. joint_rung season (season.rules.weeks - suc n) other stocks) long;
    }
  where
    whole : length prefix ≤ season.rules.weeks → length prefix + (season.rules.weeks - length prefix) ≡ season.rules.weeks
    whole h = omega arith

    rest : length prefix < season.rules.weeks → length prefix + suc (season.rules.weeks - suc (length prefix)) ≡ season.rules.weeks
    rest h = omega arith
