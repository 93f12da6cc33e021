-- A store's values by summary, through a prefix that has it.
use Rattle.std.specs.Prelude.{ℕ, suc, ◌*◌, ℤ, pos, ◌-ℤ◌}
use Rattle.clr_rules.specs.declared.season_rules.Summary.{Summary}
use Rattle.clr_season.specs.Season.{Season}
use Rattle.clr_model.specs.PathValue.{weighed}
use Rattle.clr_model.specs.Revenue.{cent, fee}
use Rattle.clr_model.specs.StoreValue.{Multipliers, store_value_at, store_choice_at}
use Rattle.clr_rows.specs.Summaries.{summary_prefix}

-- the store's value and choice after it
abbrev pub summary_value : (ℤ → ℕ → ℤ) → Multipliers → Season → ℕ → ℕ → Summary → ℕ → ℤ
summary_value div m season store done s stock = store_value_at div m season store (summary_prefix season.rules done s) stock

abbrev pub summary_choice : (ℤ → ℕ → ℤ) → Multipliers → Season → ℕ → ℕ → Summary → ℕ → ℕ
summary_choice div m season store done s stock = store_choice_at div m season store (summary_prefix season.rules done s) stock

-- the rounded average of the week that ends in a summary, over the values after it and with nothing paid for relabelling
abbrev pub average_into : (ℤ → ℕ → ℤ) → Multipliers → Season → ℕ → ℕ → Summary → ℕ → ℤ
average_into div m season store done s stock = div (weighed season store done s.last s.last stock (λ rest. summary_value div m season store (suc done) s rest)) season.base

-- what is added to it for the rung of the week after another: the multiplier, less the cost of relabelling
abbrev pub added : Multipliers → Season → ℕ → ℕ → ℕ → ℕ → ℤ
added m season store done before rung = m store (suc done) rung -ℤ pos (cent * fee season store before rung)
