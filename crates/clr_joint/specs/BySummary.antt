-- The values of all stores together by summary, through a prefix that has it.
use Rattle.std.specs.Prelude.{ℕ, suc, ◌*◌, ◌-◌, ℤ, pos, neg_ℤ, List, [], ◌∷◌, ◌++◌, length}
use Rattle.clr_num.specs.Sums.{first_best}
use Rattle.clr_rules.specs.declared.season_rules.Summary.{Summary}
use Rattle.clr_rules.specs.Rules.{live_rungs}
use Rattle.clr_season.specs.Season.{Season}
use Rattle.clr_model.specs.JointValue.{joint_rung_value, joint_value, joint_value_at}
use Rattle.clr_model.specs.JointWeek.{joint_weighed, joint_base}
use Rattle.clr_model.specs.Revenue.{cent, fee, full_stocks, sum_stores}
use Rattle.clr_model.specs.Stocks.{stocks_at}
use Rattle.clr_rows.specs.Summaries.{summary_prefix}

-- the value after a prefix with a summary, at a list of stocks
abbrev pub summary_value : (ℤ → ℕ → ℤ) → Season → ℕ → Summary → List ℕ → ℤ
summary_value div season done s stocks = joint_value_at div season (summary_prefix season.rules done s) stocks

-- the least rung that attains it
abbrev pub summary_choice : (ℤ → ℕ → ℤ) → Season → ℕ → Summary → List ℕ → ℕ
summary_choice div season done s stocks =
    first_best (λ rung. joint_rung_value div season (summary_prefix season.rules done s) rung stocks (λ rest. joint_value div season (season.rules.weeks - suc (length (summary_prefix season.rules done s))) (summary_prefix season.rules done s ++ rung ∷ []) rest)) 1 (live_rungs season.rules (summary_prefix season.rules done s))

-- the rounded average of the week that ends in a summary, over the values after it and with nothing paid for relabelling
abbrev pub average_into : (ℤ → ℕ → ℤ) → Season → ℕ → Summary → List ℕ → ℤ
average_into div season done s stocks = div (joint_weighed season done s.last s.last stocks (λ week rest. summary_value div season (suc done) s rest)) (joint_base season)

-- what all stores pay for a rung after another
abbrev pub costs : Season → ℕ → ℕ → ℤ
costs season before rung = sum_stores season (λ store. pos (cent * fee season store before rung))

-- what is added to the averages for a rung after another: their costs, taken off
abbrev pub less_costs : Season → ℕ → ℕ → ℤ
less_costs season before rung = neg_ℤ (costs season before rung)

-- ---- by the place of a list of stocks

-- a number for each summary and list of stocks, by the list's place
abbrev pub by_place : {X : Type 0} → Season → (Summary → List ℕ → X) → Summary → ℕ → X
by_place season f s place = f s (stocks_at (full_stocks season) place)
