-- How often a store takes each rung in each week where it is paid multipliers and takes the least rung that attains its own value. Masses
-- are counted in parts of a million and rounded down.
use Rattle.std.specs.Prelude.{ℕ, zero, suc, ◌*◌, ◌/◌, ◌==◌, ◌&&◌, if◌then◌else◌, List, [], unwrap_or}
use Rattle.std.specs.List.{find, sum_by}
use Rattle.clr_num.specs.Lists.{numbers, all_lists}
use Rattle.clr_num.specs.Rounding.{ceil}
use Rattle.clr_rules.specs.declared.season_rules.Summary.{Summary}
use Rattle.clr_rules.specs.LiveSummaries.{live_summaries, same_summary}
use Rattle.clr_rules.specs.Rules.{Rulebook, is_live, next_summary, rungs, summary}
use Rattle.clr_season.specs.Season.{Season, demands, store_at, weight}
use Rattle.clr_model.specs.Revenue.{left}
use Rattle.clr_model.specs.StoreValue.{Multipliers, store_choice_at}

-- the whole mass of a store
abbrev pub whole_mass : ℕ
whole_mass = 1000000

-- the first live prefix of so many weeks, in the order of lists, that has a summary
abbrev pub prefix_with : Rulebook → ℕ → Summary → List ℕ
prefix_with rules done s = unwrap_or (find (λ prefix. is_live rules prefix && same_summary s (summary rules prefix)) (all_lists (rungs rules) done)) []

-- The store's choice at a live summary: it is that after each live prefix with the summary.
abbrev pub choice_at : Multipliers → Season → ℕ → ℕ → Summary → ℕ → ℕ
choice_at m season store done s stock = store_choice_at ceil m season store (prefix_with season.rules done s) stock

-- the stocks that a store may have
abbrev pub held_stocks : Season → ℕ → List ℕ
held_stocks season store = numbers 0 (suc (store_at season store).units)

-- the part of a mass that a demand of the next week takes along
abbrev pub mass_share : Multipliers → Season → ℕ → ℕ → Summary → ℕ → ℕ → ℕ → ℕ
mass_share m season store done s stock demand mass = mass * weight season store (suc done) (choice_at m season store done s stock) demand / season.base

-- The mass of a store at a live summary and a stock after so many weeks. Before the first week all of it is at the full stock. From
-- each live summary and stock each demand takes its part to the summary after the choice and to the stock that is left.
abbrev pub mass : Multipliers → Season → ℕ → ℕ → Summary → ℕ → ℕ
mass m season store zero s stock = if same_summary s (summary season.rules []) && (stock == (store_at season store).units) then whole_mass else 0
mass m season store (suc done) s stock =
    sum_by (λ t. sum_by (λ x. sum_by (λ demand.
    if same_summary s (next_summary season.rules t (choice_at m season store done t x)) && (stock == left x demand)
    then mass_share m season store done t x demand (mass m season store done t x)
    else 0) (demands season)) (held_stocks season store)) (live_summaries season.rules done)

-- The usage of a rung in a week by a store: the sum of the masses before the week whose choice is the rung.
abbrev pub usage : Multipliers → Season → ℕ → ℕ → ℕ → ℕ
usage m season store zero rung = 0
usage m season store (suc done) rung =
    sum_by (λ s. sum_by (λ stock.
    if choice_at m season store done s stock == rung then mass m season store done s stock else 0) (held_stocks season store)) (live_summaries season.rules done)
