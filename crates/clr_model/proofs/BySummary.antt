-- A store's value depends on the summary alone.
use Rattle.std.proofs.Common.{◌≡◌, ℕ, ◌+◌, ◌-◌, ◌<◌, ◌≤◌, ℤ, ◌+ℤ◌, true, refl, sym, ap, ap₂, ◌∙◌, subst, arith, suc, zero, List, [], ◌∷◌, ◌++◌, length, IsTrue}
use Rattle.std.specs.List.{AllByRecursion}
use mathlib.Core.Path.{fun_ext}
use Rattle.clr_rules.specs.Rules.{is_live, live_rungs, summary, rungs}
use Rattle.clr_rules.proofs.ListTests.{All-filter}
use Rattle.clr_rules.proofs.LiveLemmas.{live-next, live-length, All-live_rungs}
use Rattle.clr_rules.proofs.SummaryLemmas.{live_rungs_same, live_same, live-keeps, summary_one_more}
use Rattle.clr_season.specs.Season.{Season}
use Rattle.clr_num.specs.Sums.{first_best}
use Rattle.clr_model.specs.PathValue.{weighed}
use Rattle.clr_model.specs.StoreValue.{Multipliers, last_rung, rung_value, store_value, store_rung}
use Rattle.clr_model.specs.StoreLaws.{ValueBySummary}
use Rattle.clr_model.proofs.Sums.{All-imply}
use Rattle.clr_model.proofs.Abiding.{length_more}
use Rattle.clr_model.proofs.Best.{first_best-same, best_value-same}

-- what a rung gives, where the values after it are the same
rung_value-same : (div : ℤ → ℕ → ℤ) (m : Multipliers) (season : Season) (store : ℕ) (prefix other : List ℕ) (rung stock : ℕ) (f g : ℕ → ℤ) → length prefix ≡ length other → summary season.rules prefix ≡ summary season.rules other → ((rest : ℕ) → f rest ≡ g rest) →
    rung_value div m season store prefix rung stock f ≡ rung_value div m season store other rung stock g
rung_value-same div m season store prefix other rung stock f g long same h =
    ap₂ ◌+ℤ◌
    (ap₂ (λ (n : ℕ) (k : ℕ). div (weighed season store n k rung stock f) season.base) long (ap (λ s. s.last) same) ∙ ap (λ (v : ℕ → ℤ). div (weighed season store (length other) (last_rung other) rung stock v) season.base) (fun_ext h))
    (ap (λ n. m store (suc n) rung) long)

module _ (div : ℤ → ℕ → ℤ) (m : Multipliers) (season : Season) (store : ℕ) where
  -- the values of live rungs are the same after both prefixes
  rungs_same : (weeks : ℕ) (prefix other : List ℕ) (stock : ℕ) → length prefix ≡ length other → IsTrue (is_live season.rules prefix) → IsTrue (is_live season.rules other) → summary season.rules prefix ≡ summary season.rules other →
      ((rung rest : ℕ) → IsTrue (is_live season.rules (prefix ++ rung ∷ [])) → store_value div m season store weeks (prefix ++ rung ∷ []) rest ≡ store_value div m season store weeks (other ++ rung ∷ []) rest) →
      AllByRecursion (λ rung. rung_value div m season store prefix rung stock (λ rest. store_value div m season store weeks (prefix ++ rung ∷ []) rest) ≡ rung_value div m season store other rung stock (λ rest. store_value div m season store weeks (other ++ rung ∷ []) rest)) (live_rungs season.rules prefix)
  rungs_same weeks prefix other stock long live live' same h =
      All-imply (λ rung. is_live season.rules (prefix ++ rung ∷ []) ≡ true) _ (live_rungs season.rules prefix)
      (λ rung next. rung_value-same div m season store prefix other rung stock _ _ long same (λ rest. h rung rest next))
      (All-filter (λ rung. is_live season.rules (prefix ++ rung ∷ [])) (rungs season.rules))

  pub value_same : (weeks : ℕ) (prefix other : List ℕ) (stock : ℕ) → length prefix + weeks ≡ season.rules.weeks → length prefix ≡ length other → IsTrue (is_live season.rules prefix) → IsTrue (is_live season.rules other) → summary season.rules prefix ≡ summary season.rules other →
      store_value div m season store weeks prefix stock ≡ store_value div m season store weeks other stock
  value_same zero prefix other stock left long live live' same = refl
  value_same (suc weeks) prefix other stock left long live live' same =
      let (some, next) = live-next season.rules prefix live (omega arith) in
      best_value-same
      (λ rung. rung_value div m season store prefix rung stock (λ rest. store_value div m season store weeks (prefix ++ rung ∷ []) rest))
      (λ rung. rung_value div m season store other rung stock (λ rest. store_value div m season store weeks (other ++ rung ∷ []) rest)) 1 (live_rungs season.rules prefix)
      (λ e. All-live_rungs season.rules prefix (λ _. ⊥) some next (subst (AllByRecursion (λ _. ⊥)) (sym e) tt))
      (rungs_same weeks prefix other stock long live live' same
      (λ rung rest h. value_same weeks (prefix ++ rung ∷ []) (other ++ rung ∷ []) rest (shift (length prefix) (length (prefix ++ rung ∷ [])) (length_more prefix rung) left)
      (length_more prefix rung ∙ (ap suc long ∙ sym (length_more other rung))) h
      (sym (live_same season.rules prefix other rung long (live-keeps season.rules prefix live) (live-keeps season.rules other live') same) ∙ h)
      (summary_one_more season.rules prefix other rung same)))
      ∙ ap (λ xs. let value_of : ℕ → ℤ = λ rung. rung_value div m season store other rung stock (λ rest. store_value div m season store weeks (other ++ rung ∷ []) rest) in value_of (first_best value_of 1 xs))
      (live_rungs_same season.rules prefix other long (live-keeps season.rules prefix live) (live-keeps season.rules other live') same)
    where
      shift : (n k : ℕ) → k ≡ suc n → n + suc weeks ≡ season.rules.weeks → k + weeks ≡ season.rules.weeks
      shift n k e l = omega arith

  pub choice_same : (weeks : ℕ) (prefix other : List ℕ) (stock : ℕ) → length prefix + suc weeks ≡ season.rules.weeks → length prefix ≡ length other → IsTrue (is_live season.rules prefix) → IsTrue (is_live season.rules other) → summary season.rules prefix ≡ summary season.rules other →
      store_rung div m season store weeks prefix stock ≡ store_rung div m season store weeks other stock
  choice_same weeks prefix other stock left long live live' same =
      (first_best-same
      (λ rung. rung_value div m season store prefix rung stock (λ rest. store_value div m season store weeks (prefix ++ rung ∷ []) rest))
      (λ rung. rung_value div m season store other rung stock (λ rest. store_value div m season store weeks (other ++ rung ∷ []) rest)) 1 (live_rungs season.rules prefix)
      (rungs_same weeks prefix other stock long live live' same
      (λ rung rest h. value_same weeks (prefix ++ rung ∷ []) (other ++ rung ∷ []) rest (shift (length prefix) (length (prefix ++ rung ∷ [])) (length_more prefix rung) left)
      (length_more prefix rung ∙ (ap suc long ∙ sym (length_more other rung))) h
      (sym (live_same season.rules prefix other rung long (live-keeps season.rules prefix live) (live-keeps season.rules other live') same) ∙ h)
      (summary_one_more season.rules prefix other rung same)))).0
      ∙ ap (λ xs. first_best (λ rung. rung_value div m season store other rung stock (λ rest. store_value div m season store weeks (other ++ rung ∷ []) rest)) 1 xs)
      (live_rungs_same season.rules prefix other long (live-keeps season.rules prefix live) (live-keeps season.rules other live') same)
    where
      shift : (n k : ℕ) → k ≡ suc n → n + suc weeks ≡ season.rules.weeks → k + weeks ≡ season.rules.weeks
      shift n k e l = omega arith

pub value_by_summary_lem : ValueBySummary
value_by_summary_lem div m season store prefix other stock long live live' same = record {
  value = value_same div m season store (season.rules.weeks - length prefix) prefix other stock (whole (live-length season.rules prefix live)) long live live' same
      ∙ ap (λ n. store_value div m season store (season.rules.weeks - n) other stock) long;
  choice = λ short. choice_same div m season store (season.rules.weeks - suc (length prefix)) prefix other stock (rest short) long live live' same
      ∙ ap (λ n. store_rung div m season store (season.rules.weeks - suc n) other stock) long;
}
  where
    whole : length prefix ≤ season.rules.weeks → length prefix + (season.rules.weeks - length prefix) ≡ season.rules.weeks
    whole h = omega arith

    rest : length prefix < season.rules.weeks → length prefix + suc (season.rules.weeks - suc (length prefix)) ≡ season.rules.weeks
    rest h = omega arith
