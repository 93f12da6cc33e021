-- The weights of one store, week and rung, cut anywhere past the last positive one.
use Rattle.std.specs.Prelude.{◌≡◌, ℕ, suc, ◌≤◌, List, length, get_or, sum}
use Rattle.clr_season.specs.Season.{Season, weight}

pub record AreWeights (season : Season) (store week rung : ℕ) (weights : List ℕ) : Type 0 where
  pub size : length weights ≤ suc season.top
  pub each : (demand : ℕ) → get_or weights demand 0 ≡ weight season store week rung demand
  pub whole : sum weights ≡ season.base
