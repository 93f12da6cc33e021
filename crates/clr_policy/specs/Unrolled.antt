-- What a policy does and earns: its tree, and the values of a tree.
use Rattle.std.specs.Prelude.{ℕ, suc, nat_le, if◌then◌else◌, ℤ, ◌+ℤ◌, pos, ◌≤ℤ◌, List}
use Rattle.clr_num.specs.Rounding.{floor, ceil}
use Rattle.clr_season.specs.Season.{Season}
use Rattle.clr_model.specs.Policies.{Tree, stop, node, Abides}
use Rattle.clr_model.specs.Revenue.{of_store, full_stocks, stocks_left}
use Rattle.clr_model.specs.Expected.{Encloses}
use Rattle.clr_model.specs.JointWeek.{joint_weighed, joint_base}
use Rattle.clr_model.specs.JointValue.{end_value}
use Rattle.clr_policy.specs.Written.{Written, finish, choose, ask}

-- The tree of a policy from these stocks on, by every list of demands: each test is answered by what the demands so far have left.
abbrev pub unroll : Written → List ℕ → Tree
unroll finish stocks = stop
unroll (choose rung after) stocks = node rung (λ week. unroll after (stocks_left stocks week))
unroll (ask store limit if_yes if_no) stocks = if nat_le (of_store stocks store) limit then unroll if_yes stocks else unroll if_no stocks

-- from the opening stocks on
abbrev pub policy_tree : Season → Written → Tree
policy_tree season policy = unroll policy (full_stocks season)

-- The value of a tree after so many weeks, the rung before and the stocks, each week rounded by `div`, once for all stores: at the end what
-- the stocks are worth, and before it the average over the joint demands of what all stores earn, costs of relabelling taken off, and of
-- the value of the kid.
abbrev pub tree_value : (ℤ → ℕ → ℤ) → Season → ℕ → ℕ → List ℕ → Tree → ℤ
tree_value div season done before stocks stop = end_value season stocks
tree_value div season done before stocks (node rung kids) =
    div (joint_weighed season done before rung stocks (λ week rest. tree_value div season (suc done) rung rest (kids week))) (joint_base season)

-- the value of a policy: rung 1 stands before its first week, and the stocks are full
abbrev pub policy_value : (ℤ → ℕ → ℤ) → Season → Written → ℤ
policy_value div season policy = tree_value div season 0 1 (full_stocks season) (policy_tree season policy)

-- The policy's tree abides. What it earns lies between the value rounded down and the value rounded up, and these lie at most a unit apart
-- for each week.
pub record IsValued (season : Season) (policy : Written) : Type 0 where
  pub abides : Abides season (policy_tree season policy)
  pub encloses : Encloses season (policy_value floor season policy) (policy_value ceil season policy) (policy_tree season policy)
  pub width : policy_value ceil season policy ≤ℤ (policy_value floor season policy +ℤ pos season.rules.weeks)
