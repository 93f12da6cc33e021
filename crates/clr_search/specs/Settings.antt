-- What a season's search stands on.
use Rattle.std.specs.Prelude.{◌≡◌, ℕ, ℤ, List, IsTrue}
use Rattle.clr_num.specs.Rounding.{ceil}
use Rattle.clr_rules.specs.declared.season_rules.Summary.{Summary}
use Rattle.clr_rules.specs.LiveSummaries.{live_pairs}
use Rattle.clr_rules.specs.Rules.{Rulebook, is_live, summary}
use Rattle.clr_season.specs.Season.{Season, IsSeason}
use Rattle.clr_mult.specs.Tables.{Table, mult_at}
use Rattle.clr_storedp.specs.Tables.{AreTablesOf, Entry}

-- the season and the multipliers that the stores are paid
pub record Setting : Type 0 where
  pub season : Season
  pub mult : Table ℤ

-- the live summaries and the stores' tables are of the season and the multipliers
pub record IsSetting (season : Season) (live : List (ℕ × Summary)) (mult : Table ℤ) (tables : List (List Entry)) : Type 0 where
  pub holds : IsSeason season
  pub summaries : live ≡ live_pairs season.rules
  pub values : AreTablesOf ceil (mult_at mult) season tables

-- a summary is that of a live prefix
pub record Stands (rules : Rulebook) (s : Summary) (prefix : List ℕ) : Type 0 where
  pub live : IsTrue (is_live rules prefix)
  pub same : summary rules prefix ≡ s
