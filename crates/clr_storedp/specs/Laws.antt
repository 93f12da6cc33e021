-- What a store's table gives at each live prefix and stock.
use Rattle.std.specs.Prelude.{◌≡◌, ℕ, ◌<◌, ◌≤◌, ℤ, pos, List, length, get_or, IsTrue}
use Rattle.clr_rules.specs.LiveSummaries.{IsAmong}
use Rattle.clr_rules.specs.Rules.{is_live, summary}
use Rattle.clr_season.specs.Season.{Season, IsSeason, store_at}
use Rattle.clr_model.specs.StoreValue.{Multipliers, store_value_at, store_choice_at}
use Rattle.clr_storedp.specs.Tables.{Entry, IsTableOf, choices_of, table_pairs, values_of}

-- the table has an entry for the prefix's summary, with this stock: the value stands there and, where a week is to come, the choice
pub record IsReadAt (div : ℤ → ℕ → ℤ) (m : Multipliers) (season : Season) (store : ℕ) (table : List Entry) (prefix : List ℕ) (stock : ℕ) : Type 0 where
  pub entry : IsAmong (table_pairs table) (length prefix) (summary season.rules prefix)
  pub has_value : stock < length (values_of table (length prefix) (summary season.rules prefix))
  pub value : get_or (values_of table (length prefix) (summary season.rules prefix)) stock (pos 0) ≡ store_value_at div m season store prefix stock
  pub has_choice : length prefix < season.rules.weeks → stock < length (choices_of table (length prefix) (summary season.rules prefix))
  pub choice : length prefix < season.rules.weeks → get_or (choices_of table (length prefix) (summary season.rules prefix)) stock 0 ≡ store_choice_at div m season store prefix stock

-- A store's table can be read at each live prefix and each stock that the store may have.
abbrev pub TableReads : Type 0
TableReads =
    (div : ℤ → ℕ → ℤ) (m : Multipliers) (season : Season) (store : ℕ) (table : List Entry) (prefix : List ℕ) (stock : ℕ) →
    IsSeason season → IsTableOf div m season store table → IsTrue (is_live season.rules prefix) → stock ≤ (store_at season store).units →
    IsReadAt div m season store table prefix stock
