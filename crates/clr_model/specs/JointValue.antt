-- What all stores together can earn at most from a prefix on, by the stocks of all of them, and the policy that reaches it: in units.
use Rattle.std.specs.Prelude.{ℕ, zero, suc, ◌<◌, ◌-◌, ◌≡◌, ℤ, pos, ◌*ℤ◌, ◌≤ℤ◌, List, [], ◌∷◌, ◌++◌, length, IsTrue}
use Rattle.clr_num.specs.Rounding.{floor, ceil}
use Rattle.clr_num.specs.Sums.{first_best}
use Rattle.clr_rules.specs.Rules.{live_rungs, is_live}
use Rattle.clr_season.specs.Season.{Season}
use Rattle.clr_model.specs.Policies.{Tree, stop, node}
use Rattle.clr_model.specs.Revenue.{cent, salvage_cents, sum_stores, of_store, full_stocks, stocks_left}
use Rattle.clr_model.specs.JointWeek.{joint_weighed, joint_base}
use Rattle.clr_model.specs.StoreValue.{last_rung, AreStocks}

-- ---- the value of all stores, and the choice

-- what the stocks are worth at the end
abbrev pub end_value : Season → List ℕ → ℤ
end_value season stocks = sum_stores season (λ store. pos cent *ℤ salvage_cents season store (of_store stocks store))

-- what a rung gives after a prefix, where `value` is what stocks are worth after it: the rounded average over the joint demands of
-- what all stores earn, costs of relabelling taken off, and of the value after it
abbrev pub joint_rung_value : (ℤ → ℕ → ℤ) → Season → List ℕ → ℕ → List ℕ → (List ℕ → ℤ) → ℤ
joint_rung_value div season prefix rung stocks value =
    div (joint_weighed season (length prefix) (last_rung prefix) rung stocks (λ week rest. value rest)) (joint_base season)

-- The value of the stocks of all stores after a live prefix, with so many weeks to go: at the end what they are worth then, and before
-- it the greatest that a rung gives after which the prefix is live, each average rounded by `div`.
abbrev pub joint_value : (ℤ → ℕ → ℤ) → Season → ℕ → List ℕ → List ℕ → ℤ
joint_value div season zero prefix stocks = end_value season stocks
joint_value div season (suc weeks) prefix stocks =
    let value_of : ℕ → ℤ = λ rung. joint_rung_value div season prefix rung stocks (λ rest. joint_value div season weeks (prefix ++ rung ∷ []) rest) in
    value_of (first_best value_of 1 (live_rungs season.rules prefix))

-- the least rung that attains the value rounded down, with so many weeks to go after the next
abbrev pub joint_rung : Season → ℕ → List ℕ → List ℕ → ℕ
joint_rung season weeks prefix stocks =
    first_best (λ rung. joint_rung_value floor season prefix rung stocks (λ rest. joint_value floor season weeks (prefix ++ rung ∷ []) rest)) 1 (live_rungs season.rules prefix)

-- the value, and the choice, after a live prefix
abbrev pub joint_value_at : (ℤ → ℕ → ℤ) → Season → List ℕ → List ℕ → ℤ
joint_value_at div season prefix stocks = joint_value div season (season.rules.weeks - length prefix) prefix stocks

abbrev pub joint_rung_at : Season → List ℕ → List ℕ → ℕ
joint_rung_at season prefix stocks = joint_rung season (season.rules.weeks - suc (length prefix)) prefix stocks

-- the value rounded down, and up: after a live prefix, and before the first week at full stocks
abbrev pub joint_low_at : Season → List ℕ → List ℕ → ℤ
joint_low_at = joint_value_at floor

abbrev pub joint_top_at : Season → List ℕ → List ℕ → ℤ
joint_top_at = joint_value_at ceil

abbrev pub joint_low : Season → ℤ
joint_low season = joint_low_at season [] (full_stocks season)

abbrev pub joint_top : Season → ℤ
joint_top season = joint_top_at season [] (full_stocks season)

-- ---- policies that choose by the prefix and the stocks that are left

-- over so many weeks, from a prefix and stocks on
abbrev pub choice_tree : (List ℕ → List ℕ → ℕ) → ℕ → List ℕ → List ℕ → Tree
choice_tree choose zero prefix stocks = stop
choice_tree choose (suc weeks) prefix stocks =
    node (choose prefix stocks) (λ week. choice_tree choose weeks (prefix ++ choose prefix stocks ∷ []) (stocks_left stocks week))

-- over a whole season: no week is done, and the stocks are full
abbrev pub season_tree : Season → (List ℕ → List ℕ → ℕ) → Tree
season_tree season choose = choice_tree choose season.rules.weeks [] (full_stocks season)

-- the table policy, which takes the choice at each node
abbrev pub joint_table : Season → Tree
joint_table season = season_tree season (joint_rung_at season)

-- ---- numbers that cover, and choices that reach numbers

-- Numbers for each live prefix and list of stocks: times the base to the number of stores, they are at least the sum over the joint
-- demands for each rung that keeps the prefix live, and at the end at least what the stocks are worth. Nothing is rounded.
pub record IsJointCover (season : Season) (v : List ℕ → List ℕ → ℤ) : Type 0 where
  pub week :
      (prefix : List ℕ) (rung : ℕ) (stocks : List ℕ) → AreStocks season stocks → IsTrue (is_live season.rules (prefix ++ rung ∷ [])) →
      joint_weighed season (length prefix) (last_rung prefix) rung stocks (λ week rest. v (prefix ++ rung ∷ []) rest) ≤ℤ (v prefix stocks *ℤ pos (joint_base season))
  pub end :
      (prefix stocks : List ℕ) → AreStocks season stocks → IsTrue (is_live season.rules prefix) → length prefix ≡ season.rules.weeks →
      end_value season stocks ≤ℤ v prefix stocks

-- Choices that keep each live prefix live, and numbers that they reach: times the base to the number of stores, the numbers are at most
-- the sum over the joint demands on the chosen rung, and at the end at most what the stocks are worth. Nothing is rounded.
pub record IsJointFloor (season : Season) (choose : List ℕ → List ℕ → ℕ) (v : List ℕ → List ℕ → ℤ) : Type 0 where
  pub live :
      (prefix stocks : List ℕ) → AreStocks season stocks → IsTrue (is_live season.rules prefix) → length prefix < season.rules.weeks →
      IsTrue (is_live season.rules (prefix ++ choose prefix stocks ∷ []))
  pub week :
      (prefix stocks : List ℕ) → AreStocks season stocks → IsTrue (is_live season.rules prefix) → length prefix < season.rules.weeks →
      (v prefix stocks *ℤ pos (joint_base season)) ≤ℤ joint_weighed season (length prefix) (last_rung prefix) (choose prefix stocks) stocks (λ week rest. v (prefix ++ choose prefix stocks ∷ []) rest)
  pub end :
      (prefix stocks : List ℕ) → AreStocks season stocks → IsTrue (is_live season.rules prefix) → length prefix ≡ season.rules.weeks →
      v prefix stocks ≤ℤ end_value season stocks
