-- What all stores together earn in a week, weighed by the chances of its demands.
use Rattle.std.specs.Prelude.{ℕ, suc, ◌^◌, ℤ, ◌+ℤ◌, ◌*ℤ◌, List, length}
use Rattle.clr_num.specs.Sums.{sum_over}
use Rattle.clr_season.specs.Season.{Season}
use Rattle.clr_model.specs.Policies.{joint_demands}
use Rattle.clr_model.specs.Revenue.{earn, sum_stores, of_store, stocks_left}
use Rattle.clr_model.specs.Expected.{week_chance}

-- the chances times (what all stores earn in the week and the value after it), summed over the joint demands
abbrev pub joint_weighed : Season → ℕ → ℕ → ℕ → List ℕ → (List ℕ → List ℕ → ℤ) → ℤ
joint_weighed season done before rung stocks value =
    sum_over (joint_demands season) (λ week. week_chance season (suc done) rung week
    *ℤ (sum_stores season (λ store. earn season store before rung (of_store stocks store) (of_store week store)) +ℤ value week (stocks_left stocks week)))

-- what the chances of a week sum to
abbrev pub joint_base : Season → ℕ
joint_base season = season.base ^ length season.stores
