-- The sum over a week's joint demands store by store: one sum over the demands of each store.
use Rattle.std.specs.Prelude.{◌≡◌, ℕ, suc, ◌≤◌, ◌<◌, ◌^◌, ℤ, pos, ◌+ℤ◌, ◌*ℤ◌, List, [], ◌∷◌, length}
use Rattle.clr_num.specs.Sums.{sum_over}
use Rattle.clr_season.specs.Season.{Season, IsSeason, demands, weight}
use Rattle.clr_model.specs.Revenue.{earn, left}
use Rattle.clr_model.specs.JointWeek.{joint_weighed}

-- The stocks are those of this store and the ones after it. Over the demands of the store: its weight times the same for the stores after
-- it, over the value at what is left, and what the store earns, times the base for each store after it.
abbrev pub fold_stores : Season → ℕ → ℕ → ℕ → ℕ → List ℕ → (List ℕ → ℤ) → ℤ
fold_stores season done before rung store [] value = value []
fold_stores season done before rung store (stock ∷ stocks) value =
    sum_over (demands season) (λ demand. pos (weight season store (suc done) rung demand)
    *ℤ (fold_stores season done before rung (suc store) stocks (λ rest. value (left stock demand ∷ rest)) +ℤ earn season store before rung stock demand *ℤ pos (season.base ^ length stocks)))

-- It is the sum over the joint demands of the product of the weights times what all stores earn and the value after it.
abbrev pub JointSumByStores : Type 0
JointSumByStores =
    (season : Season) (done before rung : ℕ) (stocks : List ℕ) (value : List ℕ → ℤ) → IsSeason season → length stocks ≡ length season.stores →
    done < season.rules.weeks → 1 ≤ rung → rung ≤ length season.rules.prices →
    joint_weighed season done before rung stocks (λ week rest. value rest) ≡ fold_stores season done before rung 1 stocks value
