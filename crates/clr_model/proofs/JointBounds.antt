-- The values of all stores together: rounded up they cover, rounded down the table policy reaches them, and they lie close together.
use Rattle.std.proofs.Common.{◌≡◌, ℕ, ◌+◌, ◌-◌, ◌<◌, ◌≤◌, Bool, true, ℤ, pos, ◌+ℤ◌, ◌*ℤ◌, ◌≤ℤ◌, refl, sym, subst, arith, suc, zero, List, [], ◌∷◌, ◌++◌, length, IsTrue}
use native.Mathlib.Nat.{one-le-pow}
use Rattle.std.specs.List.{AllByRecursion}
use Rattle.clr_num.specs.Rounding.{floor, ceil}
use Rattle.clr_num.specs.DirectionLaws.{floor_is_direction, ceil_is_direction}
use Rattle.clr_num.specs.Sums.{first_best}
use Rattle.clr_rules.specs.Rules.{is_live, live_rungs, rungs}
use Rattle.clr_rules.proofs.ListTests.{All-filter}
use Rattle.clr_rules.proofs.LiveLemmas.{live-length, live-next, live-rung, All-live_rungs}
use Rattle.clr_season.specs.Season.{Season, IsSeason}
use Rattle.clr_model.specs.Policies.{joint_demands}
use Rattle.clr_model.specs.Revenue.{earn, sum_stores, of_store, full_stocks, stocks_left}
use Rattle.clr_model.specs.Expected.{week_chance}
use Rattle.clr_model.specs.StoreValue.{last_rung}
use Rattle.clr_model.specs.JointWeek.{joint_weighed, joint_base}
use Rattle.clr_model.specs.JointValue.{end_value, joint_rung_value, joint_value, joint_rung, joint_value_at, joint_rung_at, joint_table, IsJointCover, IsJointFloor}
use Rattle.clr_model.specs.JointLaws.{JointTops, JointTableEnclosed, JointValuesClose}
use Rattle.clr_average.proofs.Ring.{linear, scale_le_right}
use Rattle.clr_model.proofs.Weeks.{week_mass}
use Rattle.clr_model.proofs.Steps.{week_chance-pos}
use Rattle.clr_model.proofs.PathBounds.{apart, weights_apart}
use Rattle.clr_model.proofs.Abiding.{length_more}
use Rattle.clr_model.proofs.Best.{first_best-greatest, first_best-among}
use Rattle.clr_model.proofs.StoreBounds.{full-stocks}
use Rattle.clr_model.proofs.JointNumbers.{weeks_after, joint_covers_top_lem, joint_floor_reached_lem}

base_some : (season : Season) → IsSeason season → 1 ≤ joint_base season
base_some season ok = one-le-pow (length season.stores) season.base ok.least_base

one_more : (weeks done : ℕ) → suc done ≤ weeks → weeks - done ≡ suc (weeks - suc done)
one_more weeks done h = omega arith

-- what each rung gives after a prefix, with so many weeks to go after the next
abbrev gives : (ℤ → ℕ → ℤ) → Season → ℕ → List ℕ → List ℕ → ℕ → ℤ
gives div season weeks prefix stocks rung = joint_rung_value div season prefix rung stocks (λ rest. joint_value div season weeks (prefix ++ rung ∷ []) rest)

-- ---- rounded up they cover

at_least : (sum value now : ℤ) (base : ℕ) → sum ≤ℤ (value *ℤ pos base) → value ≤ℤ now → sum ≤ℤ (now *ℤ pos base)
at_least sum value now base p q =
    let scaled : (value *ℤ pos base) ≤ℤ (now *ℤ pos base) = scale_le_right base value now q in
    omega (arith, linear)

pub tops_cover : (season : Season) → IsSeason season → IsJointCover season (joint_value_at ceil season)
tops_cover season ok = record {
  week = λ prefix rung stocks held live.
      let long : length (prefix ++ rung ∷ []) ≡ suc (length prefix) = length_more prefix rung in
      let short : suc (length prefix) ≤ season.rules.weeks = subst (λ n. n ≤ season.rules.weeks) long (live-length season.rules (prefix ++ rung ∷ []) live) in
      let more : ℕ = season.rules.weeks - suc (length prefix) in
      subst (λ n. joint_weighed season (length prefix) (last_rung prefix) rung stocks (λ week rest. joint_value ceil season (season.rules.weeks - n) (prefix ++ rung ∷ []) rest) ≤ℤ (joint_value ceil season (season.rules.weeks - length prefix) prefix stocks *ℤ pos (joint_base season))) (sym long)
      (subst (λ n. joint_weighed season (length prefix) (last_rung prefix) rung stocks (λ week rest. joint_value ceil season more (prefix ++ rung ∷ []) rest) ≤ℤ (joint_value ceil season n prefix stocks *ℤ pos (joint_base season))) (sym (one_more season.rules.weeks (length prefix) short))
      (at_least _ (gives ceil season more prefix stocks rung) (joint_value ceil season (suc more) prefix stocks) (joint_base season) (ceil_is_direction.divides _ (joint_base season) (base_some season ok))
      (All-live_rungs season.rules prefix (λ r. gives ceil season more prefix stocks r ≤ℤ joint_value ceil season (suc more) prefix stocks) rung live (first_best-greatest (gives ceil season more prefix stocks) 1 (live_rungs season.rules prefix)))));
  end = λ prefix stocks held live whole.
      let none : 0 ≡ season.rules.weeks - length prefix = omega arith in
      subst (λ n. end_value season stocks ≤ℤ joint_value ceil season n prefix stocks) none (omega (arith, linear));
}

pub joint_tops_lem : JointTops
joint_tops_lem season ok tree abides =
    joint_covers_top_lem season (joint_value_at ceil season) ok (tops_cover season ok) [] season.rules.weeks (full_stocks season) tree (omega arith) (full-stocks season) abides

-- ---- rounded down the table policy reaches them

-- the first best of a list that is not empty passes what each item passes
best_passes : {X : Type 0} (test : X → Bool) (f : X → ℤ) (default : X) (xs : List X) → (xs ≡ [] → ⊥) → AllByRecursion (λ x. test x ≡ true) xs → test (first_best f default xs) ≡ true
best_passes test f default [] some h = absurd (some refl)
best_passes test f default (x ∷ xs) some h = first_best-among (λ y. test y ≡ true) f default x xs h

-- the first best of the live rungs is live
pub best_live : (season : Season) (prefix : List ℕ) (f : ℕ → ℤ) → IsTrue (is_live season.rules prefix) → length prefix < season.rules.weeks →
    IsTrue (is_live season.rules (prefix ++ first_best f 1 (live_rungs season.rules prefix) ∷ []))
best_live season prefix f live short =
    let (rung, next) = live-next season.rules prefix live short in
    best_passes (λ r. is_live season.rules (prefix ++ r ∷ [])) f 1 (live_rungs season.rules prefix)
    (λ e. All-live_rungs season.rules prefix (λ _. ⊥) rung next (subst (AllByRecursion (λ _. ⊥)) (sym e) tt))
    (All-filter (λ r. is_live season.rules (prefix ++ r ∷ [])) (rungs season.rules))

pub table_reaches : (season : Season) → IsSeason season → IsJointFloor season (joint_rung_at season) (joint_value_at floor season)
table_reaches season ok = record {
  live = λ prefix stocks held live short. best_live season prefix (gives floor season (season.rules.weeks - suc (length prefix)) prefix stocks) live short;
  week = λ prefix stocks held live short.
      let more : ℕ = season.rules.weeks - suc (length prefix) in
      let rung : ℕ = joint_rung season more prefix stocks in
      subst (λ n. (joint_value floor season (season.rules.weeks - length prefix) prefix stocks *ℤ pos (joint_base season)) ≤ℤ joint_weighed season (length prefix) (last_rung prefix) rung stocks (λ week rest. joint_value floor season (season.rules.weeks - n) (prefix ++ rung ∷ []) rest)) (sym (length_more prefix rung))
      (subst (λ n. (joint_value floor season n prefix stocks *ℤ pos (joint_base season)) ≤ℤ joint_weighed season (length prefix) (last_rung prefix) rung stocks (λ week rest. joint_value floor season more (prefix ++ rung ∷ []) rest)) (sym (one_more season.rules.weeks (length prefix) short))
      (floor_is_direction.divides _ (joint_base season) (base_some season ok)));
  end = λ prefix stocks held live whole.
      let none : 0 ≡ season.rules.weeks - length prefix = omega arith in
      subst (λ n. joint_value floor season n prefix stocks ≤ℤ end_value season stocks) none (omega (arith, linear));
}

pub joint_table_enclosed_lem : JointTableEnclosed
joint_table_enclosed_lem season ok live =
    let reached = joint_floor_reached_lem season (joint_rung_at season) (joint_value_at floor season) ok (table_reaches season ok) [] season.rules.weeks (full_stocks season) (omega arith) (full-stocks season) live in
    record {
      abides = reached.abides;
      encloses = record { least = reached.least; most = joint_tops_lem season ok (joint_table season) reached.abides };
    }

-- ---- they lie close together

value_close : (season : Season) (weeks : ℕ) (prefix stocks : List ℕ) → IsSeason season → IsTrue (is_live season.rules prefix) → length prefix + weeks ≡ season.rules.weeks →
    joint_value ceil season weeks prefix stocks ≤ℤ (joint_value floor season weeks prefix stocks +ℤ pos weeks)
value_close season zero prefix stocks ok live long = omega (arith, linear)
value_close season (suc weeks) prefix stocks ok live long =
    let high_of : ℕ → ℤ = gives ceil season weeks prefix stocks in
    let low_of : ℕ → ℤ = gives floor season weeks prefix stocks in
    let rung : ℕ = first_best high_of 1 (live_rungs season.rules prefix) in
    let next : IsTrue (is_live season.rules (prefix ++ rung ∷ [])) = best_live season prefix high_of live (omega arith) in
    let range = live-rung season.rules prefix rung next in
    let here : high_of rung ≤ℤ (low_of rung +ℤ pos (suc weeks))
    = apart _ _ _ _ weeks (joint_base season) (ceil_is_direction.below _ (joint_base season) (base_some season ok)) (floor_is_direction.above _ (joint_base season) (base_some season ok))
    (weights_apart (joint_demands season) (week_chance season (suc (length prefix)) rung) (λ week. sum_stores season (λ store. earn season store (last_rung prefix) rung (of_store stocks store) (of_store week store)))
    (λ week. joint_value ceil season weeks (prefix ++ rung ∷ []) (stocks_left stocks week)) (λ week. joint_value floor season weeks (prefix ++ rung ∷ []) (stocks_left stocks week)) weeks (joint_base season)
    (λ week. week_chance-pos season (suc (length prefix)) rung week)
    (week_mass season (suc (length prefix)) rung ok (omega arith) (omega arith) range.0 range.1)
    (λ week. value_close season weeks (prefix ++ rung ∷ []) (stocks_left stocks week) ok next (weeks_after (length prefix) (length (prefix ++ rung ∷ [])) weeks season.rules.weeks (length_more prefix rung) long))) in
    let best : low_of rung ≤ℤ joint_value floor season (suc weeks) prefix stocks
    = All-live_rungs season.rules prefix (λ r. low_of r ≤ℤ joint_value floor season (suc weeks) prefix stocks) rung next (first_best-greatest low_of 1 (live_rungs season.rules prefix)) in
    chain (high_of rung) (low_of rung) (joint_value floor season (suc weeks) prefix stocks) (pos (suc weeks)) here best
  where
    chain : (a b c n : ℤ) → a ≤ℤ (b +ℤ n) → b ≤ℤ c → a ≤ℤ (c +ℤ n)
    chain a b c n p q = omega (arith, linear)

pub joint_values_close_lem : JointValuesClose
joint_values_close_lem season prefix stocks ok live =
    value_close season (season.rules.weeks - length prefix) prefix stocks ok live (whole (live-length season.rules prefix live))
  where
    whole : length prefix ≤ season.rules.weeks → length prefix + (season.rules.weeks - length prefix) ≡ season.rules.weeks
    whole h = omega arith
