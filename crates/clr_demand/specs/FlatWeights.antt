-- How a flat table stands for the weights of a season's demands.
use Rattle.std.specs.Prelude.{◌≡◌, ◌≤◌, ◌+◌, ℕ, List, length}
use Rattle.clr_demand.specs.Weights.{AreWeights, DemandWeights, nested}
use Rattle.clr_demand.specs.Places.{size}
use Rattle.clr_demand.specs.declared.shape.Shape.{Shape}

-- the weights that a flat table holds
abbrev pub weights_in : Shape → ℕ → List ℕ → DemandWeights
weights_in shape base flat = record {
  stores = shape.stores;
  weeks = shape.weeks;
  rungs = shape.rungs;
  base = base;
  top = shape.top;
  weights = nested shape.stores shape.weeks shape.rungs (shape.top + 1) flat;
}

-- the table is of its size, and each row sums to the base
pub record IsBalanced (shape : Shape) (base : ℕ) (flat : List ℕ) : Type 0 where
  pub stores_high : shape.stores ≤ 64
  pub weeks_high : shape.weeks ≤ 52
  pub rungs_high : shape.rungs ≤ 12
  pub base_high : base ≤ 1000000
  pub size_is : length flat ≡ size shape
  pub facts : AreWeights shape.stores shape.weeks shape.rungs base (weights_in shape base flat)
