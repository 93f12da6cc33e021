-- A store's table: an entry for each live summary.
use Rattle.std.specs.Prelude.{◌≡◌, ℕ, suc, ◌≤◌, ◌&&◌, ◌==◌, if◌then◌else◌, nat_lt, ℤ, List, [], length, map, IsTrue}
use Rattle.std.specs.List.{find}
use Rattle.std.specs.Option.{option_map_or}
use Rattle.clr_num.specs.Lists.{numbers, nth}
use Rattle.clr_rules.specs.declared.season_rules.Summary.{Summary}
use Rattle.clr_rules.specs.LiveSummaries.{live_pairs, same_summary}
use Rattle.clr_rules.specs.Rules.{is_live, summary}
use Rattle.clr_season.specs.Season.{Season, store_at}
use Rattle.clr_mult.specs.Steps.{IsSmall}
use Rattle.clr_mult.specs.Tables.{EachEntry, Table, mult_at}
use Rattle.clr_model.specs.StoreValue.{Multipliers, store_value_at, store_choice_at}

-- The weeks done, the summary, the values at the stocks from 0 up and, where a week is to come, the choices at these stocks.
pub record Entry : Type 0 where
  pub done : ℕ
  pub summary : Summary
  pub values : List ℤ
  pub choices : List ℕ

-- the pairs of weeks done and summary of the entries
abbrev pub table_pairs : List Entry → List (ℕ × Summary)
table_pairs table = map (λ entry. (entry.done, entry.summary)) table

-- the values of the entry of a summary after so many weeks, and none where there is no such entry
abbrev pub values_of : List Entry → ℕ → Summary → List ℤ
values_of table done s = option_map_or (λ entry. entry.values) (find (λ entry. (entry.done == done) && same_summary entry.summary s) table) []

-- its choices
abbrev pub choices_of : List Entry → ℕ → Summary → List ℕ
choices_of table done s = option_map_or (λ entry. entry.choices) (find (λ entry. (entry.done == done) && same_summary entry.summary s) table) []

-- the stocks of a store, from 0 to its own
abbrev pub stocks : Season → ℕ → List ℕ
stocks season store = numbers 0 (suc (store_at season store).units)

-- A table of a season, multipliers and a store: it has an entry for each of the season's live summaries, in their order, and at the
-- summary of each live prefix the store's values after that prefix and, where a week is to come, its choices.
pub record IsTableOf (div : ℤ → ℕ → ℤ) (m : Multipliers) (season : Season) (store : ℕ) (table : List Entry) : Type 0 where
  pub pairs : table_pairs table ≡ live_pairs season.rules
  pub values :
      (prefix : List ℕ) → IsTrue (is_live season.rules prefix) →
      values_of table (length prefix) (summary season.rules prefix) ≡ map (store_value_at div m season store prefix) (stocks season store)
  pub choices :
      (prefix : List ℕ) → IsTrue (is_live season.rules prefix) →
      choices_of table (length prefix) (summary season.rules prefix) ≡ (if nat_lt (length prefix) season.rules.weeks then map (store_choice_at div m season store prefix) (stocks season store) else [])

-- multipliers for the stores, weeks and rungs of a season
pub record AreOfSeason (season : Season) (table : Table ℤ) : Type 0 where
  pub stores : table.stores ≡ length season.stores
  pub weeks : table.weeks ≡ season.rules.weeks
  pub rungs : table.rungs ≡ length season.rules.prices

-- no multiplier is larger than 10^16
abbrev pub AreSmall : Table ℤ → Type 0
AreSmall table = EachEntry table (λ store week rung. IsSmall 10000000000000000 (mult_at table store week rung))

-- one table for each store of the season, in order
pub record AreTablesOf (div : ℤ → ℕ → ℤ) (m : Multipliers) (season : Season) (tables : List (List Entry)) : Type 0 where
  pub count : length tables ≡ length season.stores
  pub each : (store : ℕ) → 1 ≤ store → store ≤ length season.stores → IsTableOf div m season store (nth tables store [])
