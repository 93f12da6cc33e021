-- The tree of a policy abides, and its values enclose what it earns.
use Rattle.std.proofs.Common.{◌≡◌, ℕ, suc, ◌+◌, ◌≤◌, ℤ, pos, ◌+ℤ◌, ◌*ℤ◌, ◌≤ℤ◌, refl, sym, subst, subst₂, arith, List, [], ◌∷◌, ◌++◌, map, length, Bool, true, false, IsTrue, Option, Some, None, eq-eqb}
use Rattle.std.specs.Prelude.{nat_le, if◌then◌else◌}
use Rattle.std.specs.Option.{option_map_or}
use Rattle.std.proofs.Math.Nat.{one-le-pow}
use Rattle.std.specs.List.{AllByRecursion, flat_map}
use Rattle.clr_num.specs.Direction.{IsDirection, AtLeast, AtMost}
use Rattle.clr_num.specs.DirectionLaws.{floor_is_direction, ceil_is_direction}
use Rattle.clr_num.specs.Lists.{all_lists}
use Rattle.clr_num.specs.Rounding.{floor, ceil}
use Rattle.clr_rules.specs.Rules.{obeys, are_rungs}
use Rattle.clr_rules.specs.declared.season_rules.Rule.{Rule}
use Rattle.clr_season.specs.Season.{Season, IsSeason}
use Rattle.clr_model.specs.Policies.{Tree, stop, node, branch, joint_demands, outcomes, IsWhole}
use Rattle.clr_model.specs.Revenue.{cent, earn, sum_stores, of_store, full_stocks, stocks_left}
use Rattle.clr_model.specs.Expected.{week_chance, den, earned}
use Rattle.clr_model.specs.JointWeek.{joint_weighed, joint_base}
use Rattle.clr_average.proofs.Ring.{linear}
use Rattle.clr_model.proofs.Sums.{All-every, All-imply, All-map}
use Rattle.clr_model.proofs.Weeks.{week_mass}
use Rattle.clr_model.proofs.Steps.{joint_step, week_chance-pos}
use Rattle.clr_model.proofs.PathBounds.{earned-stop, over_none, apart, weights_apart}
use Rattle.clr_policy.specs.Written.{Written, finish, choose, ask, branches, IsPolicyFor}
use Rattle.clr_policy.specs.Breaches.{breach, first_breach}
use Rattle.clr_policy.specs.PolicyFile.{branch_after}
use Rattle.clr_policy.specs.Unrolled.{unroll, tree_value}
use Rattle.clr_policy.specs.Judged.{PoliciesValued}
use Rattle.clr_policy.proofs.Parts.{All-join, All-mapped, week_left, both_left}
use Rattle.clr_policy.proofs.Walks.{no_breach-keeps}

-- ---- what ends

pub no_weeks : (season : Season) (weeks : ℕ) → IsPolicyFor season weeks finish → 0 ≡ weeks
no_weeks season weeks is = is.lengths.0

-- ---- the branches of the tree are among those that are written

All-flat_mapped : {X Y : Type 0} (P : Y → Type 0) (h : X → List Y) (xs : List X) → AllByRecursion (λ x. AllByRecursion P (h x)) xs → AllByRecursion P (flat_map h xs)
All-flat_mapped P h [] a = tt
All-flat_mapped P h (x ∷ xs) a = All-join P (h x) (flat_map h xs) a.0 (All-flat_mapped P h xs a.1)

All-listed : {X : Type 0} (P : List X → Type 0) (xs : List X) (n : ℕ) → AllByRecursion (λ x. AllByRecursion (λ rest. P (x ∷ rest)) (all_lists xs n)) xs → AllByRecursion P (all_lists xs (suc n))
All-listed P xs n a =
    All-flat_mapped P (λ x. map (λ rest. x ∷ rest) (all_lists xs n)) xs
    (All-imply _ (λ x. AllByRecursion P (map (λ rest. x ∷ rest) (all_lists xs n))) xs (λ x h. All-mapped P (λ rest. x ∷ rest) (all_lists xs n) h) a)

module _ (season : Season) where
  every_branch : (P : List ℕ → Type 0) (policy : Written) (weeks : ℕ) (stocks : List ℕ) → IsPolicyFor season weeks policy → AllByRecursion P (branches policy) → AllByRecursion (λ outcome. P (branch (unroll policy stocks) outcome)) (outcomes season weeks)
  every_branch P finish weeks stocks is all = subst (λ n. AllByRecursion (λ outcome. P []) (outcomes season n)) (no_weeks season weeks is) (all.0, tt)
  every_branch P (choose rung after) weeks stocks is all =
      let (left, more, low, high, later) = week_left season weeks rung after is in
      subst (λ n. AllByRecursion (λ outcome. P (branch (unroll (choose rung after) stocks) outcome)) (outcomes season n)) (sym more)
      (All-listed (λ outcome. P (branch (unroll (choose rung after) stocks) outcome)) (joint_demands season) left
      (All-every _ (joint_demands season) (λ week. every_branch (λ rest. P (rung ∷ rest)) after left (stocks_left stocks week) later (All-map P (λ rest. rung ∷ rest) (branches after) all))))
  every_branch P (ask store limit below above) weeks stocks is all =
      let (low, high, a, b) = both_left season weeks store limit below above is in
      by_test (nat_le (of_store stocks store) limit) (every_branch P below weeks stocks a (All-first P (branches below) (branches above) all)) (every_branch P above weeks stocks b (All-second P (branches below) (branches above) all))
    where
      All-first : (P : List ℕ → Type 0) (xs ys : List (List ℕ)) → AllByRecursion P (xs ++ ys) → AllByRecursion P xs
      All-first P [] ys h = tt
      All-first P (x ∷ xs) ys h = (h.0, All-first P xs ys h.1)

      All-second : (P : List ℕ → Type 0) (xs ys : List (List ℕ)) → AllByRecursion P (xs ++ ys) → AllByRecursion P ys
      All-second P [] ys h = h
      All-second P (x ∷ xs) ys h = All-second P xs ys h.1

      by_test : (b : Bool) → AllByRecursion (λ outcome. P (branch (unroll below stocks) outcome)) (outcomes season weeks) → AllByRecursion (λ outcome. P (branch (unroll above stocks) outcome)) (outcomes season weeks) →
          AllByRecursion (λ outcome. P (branch (if b then unroll below stocks else unroll above stocks) outcome)) (outcomes season weeks)
      by_test true p q = p
      by_test false p q = q

  whole_tree : (policy : Written) (weeks : ℕ) (stocks : List ℕ) → IsPolicyFor season weeks policy → IsWhole season weeks (unroll policy stocks)
  whole_tree finish weeks stocks is = subst (λ n. IsWhole season n stop) (no_weeks season weeks is) tt
  whole_tree (choose rung after) weeks stocks is =
      let (left, more, low, high, later) = week_left season weeks rung after is in
      subst (λ n. IsWhole season n (unroll (choose rung after) stocks)) (sym more)
      (low, high, All-every (λ week. IsWhole season left (unroll after (stocks_left stocks week))) (joint_demands season) (λ week. whole_tree after left (stocks_left stocks week) later))
  whole_tree (ask store limit below above) weeks stocks is =
      let (low, high, a, b) = both_left season weeks store limit below above is in
      by_test (nat_le (of_store stocks store) limit) (whole_tree below weeks stocks a) (whole_tree above weeks stocks b)
    where
      by_test : (b : Bool) → IsWhole season weeks (unroll below stocks) → IsWhole season weeks (unroll above stocks) → IsWhole season weeks (if b then unroll below stocks else unroll above stocks)
      by_test true p q = p
      by_test false p q = q

  -- ---- the branches obey

  all_obey : (ended : ℕ) (paths : List (List ℕ)) → AllByRecursion (λ path. length path ≡ season.rules.weeks) paths → AllByRecursion (λ path. IsTrue (are_rungs season.rules path)) paths → first_breach season.rules ended paths ≡ None →
      AllByRecursion (λ path. IsTrue (obeys season.rules path)) paths
  all_obey ended [] long rungs none = tt
  all_obey ended (path ∷ paths) long rungs none = by_first (breach season.rules path) refl none (λ later. all_obey (ended + 1) paths long.1 rungs.1 later)
    where
      by_first : (o : Option Rule) → breach season.rules path ≡ o → option_map_or (λ rule. Some (record { branch = branch_after ended; rule = rule })) o (first_breach season.rules (ended + 1) paths) ≡ None →
          (first_breach season.rules (ended + 1) paths ≡ None → AllByRecursion (λ path. IsTrue (obeys season.rules path)) paths) → IsTrue (obeys season.rules path) × AllByRecursion (λ path. IsTrue (obeys season.rules path)) paths
      by_first (Some rule) is e later = cc e
      by_first None is e later = (rw (eq-eqb (length path) season.rules.weeks long.0) (no_breach-keeps season.rules path rungs.0 is), later e)

  -- ---- the values lie close together

  values_close : (policy : Written) (weeks done before : ℕ) (stocks : List ℕ) → IsSeason season → IsPolicyFor season weeks policy → done + weeks ≡ season.rules.weeks →
      tree_value ceil season done before stocks (unroll policy stocks) ≤ℤ (tree_value floor season done before stocks (unroll policy stocks) +ℤ pos weeks)
  values_close finish weeks done before stocks ok is long = omega (arith, linear)
  values_close (choose rung after) weeks done before stocks ok is long =
      let (left, more, low, high, later) = week_left season weeks rung after is in
      subst (λ n. tree_value ceil season done before stocks (unroll (choose rung after) stocks) ≤ℤ (tree_value floor season done before stocks (unroll (choose rung after) stocks) +ℤ pos n)) (sym more)
      (apart _ _ _ _ left (joint_base season) (ceil_is_direction.below _ (joint_base season) (some_base ok)) (floor_is_direction.above _ (joint_base season) (some_base ok))
      (weights_apart (joint_demands season) (week_chance season (suc done) rung) (λ week. sum_stores season (λ store. earn season store before rung (of_store stocks store) (of_store week store)))
      (λ week. tree_value ceil season (suc done) rung (stocks_left stocks week) (unroll after (stocks_left stocks week))) (λ week. tree_value floor season (suc done) rung (stocks_left stocks week) (unroll after (stocks_left stocks week))) left (joint_base season)
      (λ week. week_chance-pos season (suc done) rung week)
      (week_mass season (suc done) rung ok (omega arith) (omega (arith, long, more)) low high)
      (λ week. values_close after left (suc done) rung (stocks_left stocks week) ok later (omega (arith, long, more)))))
    where
      some_base : IsSeason season → 1 ≤ joint_base season
      some_base ok = one-le-pow (length season.stores) season.base ok.least_base
  values_close (ask store limit below above) weeks done before stocks ok is long =
      let (low, high, a, b) = both_left season weeks store limit below above is in
      by_test (nat_le (of_store stocks store) limit) (values_close below weeks done before stocks ok a long) (values_close above weeks done before stocks ok b long)
    where
      Close : Tree → Type 0
      Close tree = tree_value ceil season done before stocks tree ≤ℤ (tree_value floor season done before stocks tree +ℤ pos weeks)

      by_test : (b : Bool) → Close (unroll below stocks) → Close (unroll above stocks) → Close (if b then unroll below stocks else unroll above stocks)
      by_test true p q = p
      by_test false p q = q

-- ---- each value leans from what the tree earns

module _ (leans : ℤ → ℤ → Type 0) (div : ℤ → ℕ → ℤ) (laws : IsDirection leans div) (season : Season) where
  abbrev Leans : ℕ → ℕ → ℕ → List ℕ → Tree → Type 0
  Leans weeks done before stocks tree = leans (tree_value div season done before stocks tree *ℤ den season weeks) (pos cent *ℤ earned season done weeks before stocks tree)

  pub value_leans : (policy : Written) (weeks done before : ℕ) (stocks : List ℕ) → IsSeason season → IsPolicyFor season weeks policy → done + weeks ≡ season.rules.weeks → Leans weeks done before stocks (unroll policy stocks)
  value_leans finish weeks done before stocks ok is long =
      subst (λ n. Leans n done before stocks stop) (no_weeks season weeks is)
      (subst₂ leans (sym (over_none season (tree_value div season done before stocks stop))) (sym (earned-stop season done before stocks)) (laws.same (tree_value div season done before stocks stop)))
  value_leans (choose rung after) weeks done before stocks ok is long =
      let (left, more, low, high, later) = week_left season weeks rung after is in
      let kids : List ℕ → Tree = λ week. unroll after (stocks_left stocks week) in
      let value : List ℕ → List ℕ → ℤ = λ week rest. tree_value div season (suc done) rung rest (kids week) in
      subst (λ n. Leans n done before stocks (node rung kids)) (sym more)
      (joint_step leans div laws season done left before rung stocks kids value (tree_value div season done before stocks (node rung kids)) ok (omega (arith, long, more))
      (subst (λ n. IsWhole season n (node rung kids)) more (whole_tree season (choose rung after) weeks stocks is))
      (laws.divides (joint_weighed season done before rung stocks value) (joint_base season) (one-le-pow (length season.stores) season.base ok.least_base))
      (All-every (λ week. Leans left (suc done) rung (stocks_left stocks week) (kids week)) (joint_demands season)
      (λ week. value_leans after left (suc done) rung (stocks_left stocks week) ok later (omega (arith, long, more)))))
  value_leans (ask store limit below above) weeks done before stocks ok is long =
      let (low, high, a, b) = both_left season weeks store limit below above is in
      by_test (nat_le (of_store stocks store) limit) (value_leans below weeks done before stocks ok a long) (value_leans above weeks done before stocks ok b long)
    where
      by_test : (b : Bool) → Leans weeks done before stocks (unroll below stocks) → Leans weeks done before stocks (unroll above stocks) → Leans weeks done before stocks (if b then unroll below stocks else unroll above stocks)
      by_test true p q = p
      by_test false p q = q

pub policies_valued_lem : PoliciesValued
policies_valued_lem season policy ok is none = record {
  abides = record {
    whole = whole_tree season policy season.rules.weeks (full_stocks season) is;
    branches = every_branch season (λ path. IsTrue (obeys season.rules path)) policy season.rules.weeks (full_stocks season) is (all_obey season 0 (branches policy) is.lengths is.rungs none);
  };
  encloses = record {
    least = value_leans AtMost floor floor_is_direction season policy season.rules.weeks 0 1 (full_stocks season) ok is (omega arith);
    most = value_leans AtLeast ceil ceil_is_direction season policy season.rules.weeks 0 1 (full_stocks season) ok is (omega arith);
  };
  width = values_close season policy season.rules.weeks 0 1 (full_stocks season) ok is (omega arith);
}
