-- What a table gives at each live prefix and list of stocks.
use Rattle.std.specs.Prelude.{◌≡◌, ℕ, ◌<◌, pos, List, length, IsTrue}
use Rattle.clr_rules.specs.LiveSummaries.{IsAmong}
use Rattle.clr_rules.specs.Rules.{is_live, summary}
use Rattle.clr_season.specs.Season.{Season, IsSeason}
use Rattle.clr_model.specs.JointValue.{joint_low_at, joint_rung_at, joint_top_at}
use Rattle.clr_model.specs.StoreValue.{AreStocks}
use Rattle.clr_joint.specs.Tables.{Entry, HasStocks, IsJointOf, at_stocks, choices_of, table_pairs, values_of}

-- the table has an entry for the prefix's summary, with these stocks: the two values stand there and, where a week is to come, the choice
pub record IsReadAt (season : Season) (table : List Entry) (prefix stocks : List ℕ) : Type 0 where
  pub entry : IsAmong (table_pairs table) (length prefix) (summary season.rules prefix)
  pub has_values : HasStocks (values_of table (length prefix) (summary season.rules prefix)) stocks
  pub values : at_stocks (values_of table (length prefix) (summary season.rules prefix)) stocks (pos 0, pos 0) ≡ (joint_low_at season prefix stocks, joint_top_at season prefix stocks)
  pub has_choices : length prefix < season.rules.weeks → HasStocks (choices_of table (length prefix) (summary season.rules prefix)) stocks
  pub choice : length prefix < season.rules.weeks → at_stocks (choices_of table (length prefix) (summary season.rules prefix)) stocks 0 ≡ joint_rung_at season prefix stocks

-- A table of a season can be read at each live prefix and each list of stocks that the stores may have.
abbrev pub JointReads : Type 0
JointReads =
    (season : Season) (table : List Entry) (prefix stocks : List ℕ) → IsSeason season → IsJointOf season table → IsTrue (is_live season.rules prefix) → AreStocks season stocks →
    IsReadAt season table prefix stocks
