-- The weights of a season's demands. Stores, weeks and rungs are counted from 1, units from 0.
use Rattle.std.specs.Prelude.{◌≡◌, ◌≤◌, ◌+◌, ◌-◌, ◌*◌, ◌/◌, ℕ, suc, List, [], length, map, take, drop, get_or, sum}
use Rattle.clr_num.specs.Lists.{nth, numbers}

-- The weights of all demands: by store, week and rung, and then by units from 0 to the greatest.
-- Those of a store, a week and a rung sum to the base.
pub record DemandWeights : Type 0 where
  pub stores : ℕ
  pub weeks : ℕ
  pub rungs : ℕ
  pub base : ℕ
  pub top : ℕ
  pub weights : List (List (List (List ℕ)))

-- the weights of a store, a week and a rung, by units from 0
abbrev pub weights_at : DemandWeights → ℕ → ℕ → ℕ → List ℕ
weights_at demand store week rung = nth (nth (nth demand.weights store []) week []) rung []

-- the weight of a demand
abbrev pub weight_at : DemandWeights → ℕ → ℕ → ℕ → ℕ → ℕ
weight_at demand store week rung units = get_or (weights_at demand store week rung) units 0

-- the weight of at least so many units
abbrev pub tail_at : DemandWeights → ℕ → ℕ → ℕ → ℕ → ℕ
tail_at demand store week rung units = sum (drop units (weights_at demand store week rung))

-- What holds of the weights of a season with so many stores, weeks and rungs.
pub record AreWeights (stores weeks rungs base : ℕ) (demand : DemandWeights) : Type 0 where
  pub stores_are : demand.stores ≡ stores
  pub weeks_are : demand.weeks ≡ weeks
  pub rungs_are : demand.rungs ≡ rungs
  pub base_are : demand.base ≡ base
  pub top_high : demand.top ≤ 200
  pub store_count : length demand.weights ≡ stores
  pub week_count : (store : ℕ) → 1 ≤ store → store ≤ stores → length (nth demand.weights store []) ≡ weeks
  pub rung_count : (store week : ℕ) → 1 ≤ store → store ≤ stores → 1 ≤ week → week ≤ weeks →
      length (nth (nth demand.weights store []) week []) ≡ rungs
  pub unit_count : (store week rung : ℕ) → 1 ≤ store → store ≤ stores → 1 ≤ week → week ≤ weeks → 1 ≤ rung → rung ≤ rungs →
      length (weights_at demand store week rung) ≡ suc demand.top
  pub sums : (store week rung : ℕ) → 1 ≤ store → store ≤ stores → 1 ≤ week → week ≤ weeks → 1 ≤ rung → rung ≤ rungs →
      sum (weights_at demand store week rung) ≡ base

-- the number, from 0, of the row of a store, a week and a rung
abbrev pub row_number : ℕ → ℕ → ℕ → ℕ → ℕ → ℕ
row_number weeks rungs store week rung = ((store - 1) * weeks + (week - 1)) * rungs + (rung - 1)

-- a row of a table of rows of one width, one after another
abbrev pub flat_row : ℕ → List ℕ → ℕ → List ℕ
flat_row width flat row = take width (drop (row * width) flat)

-- such a table by store, week and rung
abbrev pub nested : ℕ → ℕ → ℕ → ℕ → List ℕ → List (List (List (List ℕ)))
nested stores weeks rungs width flat =
    map (λ store. map (λ week. map (λ rung. flat_row width flat (row_number weeks rungs store week rung)) (numbers 1 rungs)) (numbers 1 weeks)) (numbers 1 stores)

-- the weights of a row, times what brings their sum to the base
abbrev pub scaled_row : ℕ → List ℕ → List ℕ
scaled_row base row = map (λ weight. weight * (base / sum row)) row
