-- The run of steps from no multipliers, and the first of its tables whose bound is least.
use Rattle.std.specs.Prelude.{◌≡◌, ℕ, zero, suc, ◌*◌, ◌+◌, ◌/◌, ◌≤◌, ◌<◌, max, min, List, length, ℤ, ◌≤ℤ◌, ◌<ℤ◌}
use Rattle.clr_average.specs.Average.{IsWithin}
use Rattle.clr_num.specs.Rounding.{ceil}
use Rattle.clr_rules.specs.Rules.{price}
use Rattle.clr_season.specs.Season.{Season}
use Rattle.clr_model.specs.Expected.{Tops}
use Rattle.clr_model.specs.StoreValue.{Multipliers, bound}
use Rattle.clr_model.specs.Usage.{usage}
use Rattle.clr_mult.specs.Steps.{IsSmall, stepped}
use Rattle.clr_mult.specs.Tables.{EachEntry, Table, mult_at, table_of, zero_mult}
use Rattle.clr_storedp.specs.Tables.{AreOfSeason, AreTablesOf, Entry}

-- the usage of a season's stores under multipliers, as a table
abbrev pub usage_table : Multipliers → Season → Table ℕ
usage_table m season = table_of (length season.stores) season.rules.weeks (length season.rules.prices) (usage m season)

-- how many times a step goes against the direction: the first price in cents, times the word of the step, by the number of the step, rounded down, and at least once
abbrev pub step_factor : Season → ℕ → ℕ → ℕ
step_factor season a k = max 1 (a * price season.rules 1 / k)

-- the multipliers after so many steps: none at first, and each step goes by the usage under those before it
abbrev pub run_table : Season → ℕ → ℕ → Table ℤ
run_table season a zero = zero_mult (length season.stores) season.rules.weeks (length season.rules.prices)
run_table season a (suc k) = stepped (step_factor season a (suc k)) (usage_table (mult_at (run_table season a k)) season) (run_table season a k)

-- the bound that they give
abbrev pub run_bound : Season → ℕ → ℕ → ℤ
run_bound season a k = bound (mult_at (run_table season a k)) season

-- of the steps from 0 to `steps` the first whose bound is least, and that bound
pub record IsFirstLeast (bound_at : ℕ → ℤ) (steps at_step : ℕ) (value : ℤ) : Type 0 where
  pub within : at_step ≤ steps
  pub attains : value ≡ bound_at at_step
  pub least : (k : ℕ) → k ≤ steps → value ≤ℤ bound_at k
  pub first : (k : ℕ) → k < at_step → value <ℤ bound_at k

-- no multiplier is larger than this after so many steps: the first takes each by at most 10^14, and each that follows by at most half of that
abbrev pub run_reach : ℕ → ℕ
run_reach step = 50000000000000 * (step + min step 1)

-- what stands after so many steps: the multipliers, their bound, and the tables of the stores
pub record IsRunAt (season : Season) (a step : ℕ) (mult : Table ℤ) (value : ℤ) (tables : List (List Entry)) : Type 0 where
  pub mult_is : mult ≡ run_table season a step
  pub bound_is : value ≡ run_bound season a step
  pub tables_are : AreTablesOf ceil (mult_at mult) season tables
  pub of_season : AreOfSeason season mult
  pub small : EachEntry mult (λ store week rung. IsSmall (run_reach step) (mult_at mult store week rung))
  pub size : IsWithin 100000000000000000000 value
  pub tops : Tops season value
