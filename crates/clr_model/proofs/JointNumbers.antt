-- Numbers over the stocks of all stores that cover, and choices that reach numbers.
use Rattle.std.proofs.Common.{◌≡◌, ℕ, ◌+◌, ◌≤◌, ℤ, pos, ◌*ℤ◌, sym, ap, ◌∙◌, subst₂, arith, suc, zero, List, [], ◌∷◌, ◌++◌, map, length, IsTrue, append-nil, append_assoc}
use Rattle.std.specs.List.{AllByRecursion, flat_map}
use Rattle.clr_num.specs.Lists.{all_lists}
use Rattle.clr_num.specs.Rounding.{floor, ceil}
use Rattle.clr_num.specs.Direction.{AtLeast, AtMost}
use Rattle.clr_num.specs.DirectionLaws.{floor_is_direction, ceil_is_direction}
use Rattle.clr_rules.specs.Rules.{is_live, obeys}
use Rattle.clr_rules.proofs.LiveLemmas.{live_from, live-rung, live-whole}
use Rattle.clr_season.specs.Season.{Season, IsSeason}
use Rattle.clr_model.specs.Policies.{Tree, stop, node, branch, joint_demands, outcomes, IsWhole, AbidesFrom}
use Rattle.clr_model.specs.Revenue.{cent, stocks_left}
use Rattle.clr_model.specs.Expected.{den, earned}
use Rattle.clr_model.specs.StoreValue.{AreStocks, last_rung}
use Rattle.clr_model.specs.JointValue.{choice_tree, IsJointCover, IsJointFloor}
use Rattle.clr_model.specs.JointLaws.{JointCoversTop, JointFloorReached}
use Rattle.clr_model.proofs.Sums.{All-imply, All-every}
use Rattle.clr_model.proofs.Steps.{joint_step}
use Rattle.clr_model.proofs.PathBounds.{earned-stop, over_none}
use Rattle.clr_model.proofs.Abiding.{length_more, last_rung_more, abides_kids, abides_live}
use Rattle.clr_model.proofs.StoreBounds.{stocks-left}

-- a prefix of so many rungs, and one more
pub weeks_after : (n k weeks whole : ℕ) → k ≡ suc n → n + suc weeks ≡ whole → k + weeks ≡ whole
weeks_after n k weeks whole e l = omega arith

-- ---- numbers that cover

module _ (season : Season) (v : List ℕ → List ℕ → ℤ) (ok : IsSeason season) (cover : IsJointCover season v) where
  covers_from : (prefix : List ℕ) (weeks : ℕ) (stocks : List ℕ) (tree : Tree) → AreStocks season stocks → length prefix + weeks ≡ season.rules.weeks → AbidesFrom season prefix weeks tree →
      AtLeast (v prefix stocks *ℤ den season weeks) (pos cent *ℤ earned season (length prefix) weeks (last_rung prefix) stocks tree)
  covers_from prefix zero stocks stop h long abides =
      subst₂ AtLeast (sym (over_none season (v prefix stocks))) (sym (earned-stop season (length prefix) (last_rung prefix) stocks))
      (cover.end prefix stocks h (live_from season.rules prefix [] abides.branches.0) (omega arith))
  covers_from prefix zero stocks (node rung kids) h long abides = absurd abides.whole
  covers_from prefix (suc weeks) stocks stop h long abides = absurd abides.whole
  covers_from prefix (suc weeks) stocks (node rung kids) h long abides =
      joint_step AtLeast ceil ceil_is_direction season (length prefix) weeks (last_rung prefix) rung stocks kids (λ week rest. v (prefix ++ rung ∷ []) rest) (v prefix stocks)
      ok (omega arith) abides.whole
      (cover.week prefix rung stocks h (abides_live season prefix weeks rung kids abides))
      (All-imply (λ week. AbidesFrom season (prefix ++ rung ∷ []) weeks (kids week)) _ (joint_demands season)
      (λ week a. subst₂ (λ done before. AtLeast (v (prefix ++ rung ∷ []) (stocks_left stocks week) *ℤ den season weeks) (pos cent *ℤ earned season done weeks before (stocks_left stocks week) (kids week)))
      (length_more prefix rung) (last_rung_more prefix rung)
      (covers_from (prefix ++ rung ∷ []) weeks (stocks_left stocks week) (kids week) (stocks-left season stocks week h) (weeks_after (length prefix) (length (prefix ++ rung ∷ [])) weeks season.rules.weeks (length_more prefix rung) long) a))
      (abides_kids season prefix weeks rung kids abides))

pub joint_covers_top_lem : JointCoversTop
joint_covers_top_lem season v ok cover prefix weeks stocks tree long held abides = covers_from season v ok cover prefix weeks stocks tree held long abides

-- ---- a node over kids that abide

pub All-append_in : {X : Type 0} (P : X → Type 0) (xs ys : List X) → AllByRecursion P xs → AllByRecursion P ys → AllByRecursion P (xs ++ ys)
All-append_in P [] ys a b = b
All-append_in P (x ∷ xs) ys a b = (a.0, All-append_in P xs ys a.1 b)

pub All-map_in : {X Y : Type 0} (P : Y → Type 0) (h : X → Y) (xs : List X) → AllByRecursion (λ x. P (h x)) xs → AllByRecursion P (map h xs)
All-map_in P h [] a = tt
All-map_in P h (x ∷ xs) a = (a.0, All-map_in P h xs a.1)

pub All-flat_map_in : {X Y : Type 0} (P : Y → Type 0) (h : X → List Y) (xs : List X) → AllByRecursion (λ x. AllByRecursion P (h x)) xs → AllByRecursion P (flat_map h xs)
All-flat_map_in P h [] a = tt
All-flat_map_in P h (x ∷ xs) a = All-append_in P (h x) (flat_map h xs) a.0 (All-flat_map_in P h xs a.1)

All-all_lists_in : {X : Type 0} (P : List X → Type 0) (xs : List X) (n : ℕ) → AllByRecursion (λ x. AllByRecursion (λ rest. P (x ∷ rest)) (all_lists xs n)) xs → AllByRecursion P (all_lists xs (suc n))
All-all_lists_in P xs n a =
    All-flat_map_in P (λ x. map (λ rest. x ∷ rest) (all_lists xs n)) xs
    (All-imply (λ x. AllByRecursion (λ rest. P (x ∷ rest)) (all_lists xs n)) (λ x. AllByRecursion P (map (λ rest. x ∷ rest) (all_lists xs n))) xs (λ x h. All-map_in P (λ rest. x ∷ rest) (all_lists xs n) h) a)

abides_node : (season : Season) (prefix : List ℕ) (weeks rung : ℕ) (kids : List ℕ → Tree) → 1 ≤ rung → rung ≤ length season.rules.prices →
    AllByRecursion (λ week. AbidesFrom season (prefix ++ rung ∷ []) weeks (kids week)) (joint_demands season) → AbidesFrom season prefix (suc weeks) (node rung kids)
abides_node season prefix weeks rung kids low high abides = record {
  whole = (low, high, All-imply (λ week. AbidesFrom season (prefix ++ rung ∷ []) weeks (kids week)) (λ week. IsWhole season weeks (kids week)) (joint_demands season) (λ week a. a.whole) abides);
  branches = All-all_lists_in (λ outcome. IsTrue (obeys season.rules (prefix ++ branch (node rung kids) outcome))) (joint_demands season) weeks
      (All-imply (λ week. AbidesFrom season (prefix ++ rung ∷ []) weeks (kids week)) _ (joint_demands season)
      (λ week a. All-imply (λ outcome. IsTrue (obeys season.rules ((prefix ++ rung ∷ []) ++ branch (kids week) outcome))) _ (outcomes season weeks)
      (λ outcome o. ap (obeys season.rules) (sym (append_assoc prefix (rung ∷ []) (branch (kids week) outcome))) ∙ o) a.branches)
      abides);
}

-- ---- choices that keep prefixes live, and numbers that they reach

module _ (season : Season) (choose : List ℕ → List ℕ → ℕ) (v : List ℕ → List ℕ → ℤ) (ok : IsSeason season) (reached : IsJointFloor season choose v) where
  choices_abide : (prefix : List ℕ) (weeks : ℕ) (stocks : List ℕ) → AreStocks season stocks → IsTrue (is_live season.rules prefix) → length prefix + weeks ≡ season.rules.weeks → AbidesFrom season prefix weeks (choice_tree choose weeks prefix stocks)
  choices_abide prefix zero stocks held live long =
      record { whole = tt; branches = (ap (obeys season.rules) (append-nil prefix) ∙ live-whole season.rules prefix live (omega arith), tt) }
  choices_abide prefix (suc weeks) stocks held live long =
      let rung : ℕ = choose prefix stocks in
      let next : IsTrue (is_live season.rules (prefix ++ rung ∷ [])) = reached.live prefix stocks held live (omega arith) in
      let range = live-rung season.rules prefix rung next in
      abides_node season prefix weeks rung (λ week. choice_tree choose weeks (prefix ++ rung ∷ []) (stocks_left stocks week)) range.0 range.1
      (All-every _ (joint_demands season) (λ week. choices_abide (prefix ++ rung ∷ []) weeks (stocks_left stocks week) (stocks-left season stocks week held) next (weeks_after (length prefix) (length (prefix ++ rung ∷ [])) weeks season.rules.weeks (length_more prefix rung) long)))

  choices_reach : (prefix : List ℕ) (weeks : ℕ) (stocks : List ℕ) → AreStocks season stocks → IsTrue (is_live season.rules prefix) → length prefix + weeks ≡ season.rules.weeks →
      AtMost (v prefix stocks *ℤ den season weeks) (pos cent *ℤ earned season (length prefix) weeks (last_rung prefix) stocks (choice_tree choose weeks prefix stocks))
  choices_reach prefix zero stocks held live long =
      subst₂ AtMost (sym (over_none season (v prefix stocks))) (sym (earned-stop season (length prefix) (last_rung prefix) stocks)) (reached.end prefix stocks held live (omega arith))
  choices_reach prefix (suc weeks) stocks held live long =
      let rung : ℕ = choose prefix stocks in
      let next : IsTrue (is_live season.rules (prefix ++ rung ∷ [])) = reached.live prefix stocks held live (omega arith) in
      joint_step AtMost floor floor_is_direction season (length prefix) weeks (last_rung prefix) rung stocks (λ week. choice_tree choose weeks (prefix ++ rung ∷ []) (stocks_left stocks week)) (λ week rest. v (prefix ++ rung ∷ []) rest) (v prefix stocks)
      ok (omega arith) (choices_abide prefix (suc weeks) stocks held live long).whole
      (reached.week prefix stocks held live (omega arith))
      (All-every _ (joint_demands season) (λ week.
      subst₂ (λ done before. AtMost (v (prefix ++ rung ∷ []) (stocks_left stocks week) *ℤ den season weeks) (pos cent *ℤ earned season done weeks before (stocks_left stocks week) (choice_tree choose weeks (prefix ++ rung ∷ []) (stocks_left stocks week))))
      (length_more prefix rung) (last_rung_more prefix rung)
      (choices_reach (prefix ++ rung ∷ []) weeks (stocks_left stocks week) (stocks-left season stocks week held) next (weeks_after (length prefix) (length (prefix ++ rung ∷ [])) weeks season.rules.weeks (length_more prefix rung) long))))

pub joint_floor_reached_lem : JointFloorReached
joint_floor_reached_lem season choose v ok reached prefix weeks stocks long held live = record {
  abides = choices_abide season choose v ok reached prefix weeks stocks held live long;
  least = choices_reach season choose v ok reached prefix weeks stocks held live long;
}
