-- The table of all stores together: an entry for each live summary.
use Rattle.std.specs.Prelude.{◌≡◌, ℕ, ◌-◌, Bool, ◌&&◌, ◌==◌, nat_eq, if◌then◌else◌, nat_lt, ℤ, pos, ◌+ℤ◌, ◌*ℤ◌, ◌≤ℤ◌, List, [], length, get_or, map, IsTrue}
use Rattle.std.specs.List.{find, list_any}
use Rattle.std.specs.Cmp.Lexicographic.{pointwise}
use Rattle.std.specs.Option.{option_map_or}
use Rattle.clr_rules.specs.declared.season_rules.Summary.{Summary}
use Rattle.clr_rules.specs.LiveSummaries.{live_pairs, same_summary}
use Rattle.clr_rules.specs.Rules.{is_live, summary}
use Rattle.clr_season.specs.Season.{Season}
use Rattle.clr_model.specs.Expected.{den, season_earned, Encloses}
use Rattle.clr_model.specs.JointValue.{joint_low_at, joint_top_at, joint_rung_at, joint_table}
use Rattle.clr_model.specs.Policies.{Abides, Tree}
use Rattle.clr_model.specs.Revenue.{cent, full_stocks}
use Rattle.clr_model.specs.Stocks.{all_stocks}

-- The weeks done, the summary, the value rounded down and the value rounded up at each list of stocks, in the order of lists, and, where
-- a week is to come, the choice at each.
pub record Entry : Type 0 where
  pub done : ℕ
  pub summary : Summary
  pub values : List (List ℕ × (ℤ × ℤ))
  pub choices : List (List ℕ × ℕ)

-- the pairs of weeks done and summary of the entries
abbrev pub table_pairs : List Entry → List (ℕ × Summary)
table_pairs table = map (λ entry. (entry.done, entry.summary)) table

-- the values of the entry of a summary after so many weeks, and none where there is no such entry
abbrev pub values_of : List Entry → ℕ → Summary → List (List ℕ × (ℤ × ℤ))
values_of table done s = option_map_or (λ entry. entry.values) (find (λ entry. (entry.done == done) && same_summary entry.summary s) table) []

-- its choices
abbrev pub choices_of : List Entry → ℕ → Summary → List (List ℕ × ℕ)
choices_of table done s = option_map_or (λ entry. entry.choices) (find (λ entry. (entry.done == done) && same_summary entry.summary s) table) []

-- ---- what stands with a list of stocks

abbrev pub is_at : {X : Type 0} → List ℕ → List ℕ × X → Bool
is_at stocks item = pointwise nat_eq item.0 stocks

-- some item is of these stocks
abbrev pub HasStocks : {X : Type 0} → List (List ℕ × X) → List ℕ → Type 0
HasStocks items stocks = IsTrue (list_any (is_at stocks) items)

-- what stands there
abbrev pub at_stocks : {X : Type 0} → List (List ℕ × X) → List ℕ → X → X
at_stocks items stocks default = option_map_or (λ item. item.1) (find (is_at stocks) items) default

-- The two values before the first week at full stocks: those of the entry of no weeks at its last list of stocks.
abbrev pub opening : List Entry → ℤ × ℤ
opening table =
    let values : List (List ℕ × (ℤ × ℤ)) = option_map_or (λ entry. entry.values) (find (λ entry. entry.done == 0) table) [] in
    (get_or values (length values - 1) ([], (pos 0, pos 0))).1

-- ---- the table of a season

-- The table of a season: it has an entry for each of the season's live summaries, in their order, and at the summary of each live prefix
-- the values after that prefix and, where a week is to come, the choices, for all lists of stocks.
pub record IsJointOf (season : Season) (table : List Entry) : Type 0 where
  pub pairs : table_pairs table ≡ live_pairs season.rules
  pub values :
      (prefix : List ℕ) → IsTrue (is_live season.rules prefix) →
      values_of table (length prefix) (summary season.rules prefix) ≡ map (λ stocks. (stocks, (joint_low_at season prefix stocks, joint_top_at season prefix stocks))) (all_stocks (full_stocks season))
  pub choices :
      (prefix : List ℕ) → IsTrue (is_live season.rules prefix) →
      choices_of table (length prefix) (summary season.rules prefix) ≡ (if nat_lt (length prefix) season.rules.weeks then map (λ stocks. (stocks, joint_rung_at season prefix stocks)) (all_stocks (full_stocks season)) else [])

-- the table policy abides, and what it earns lies between the two values at the opening
pub record IsEnclosed (season : Season) (table : List Entry) : Type 0 where
  pub abides : Abides season (joint_table season)
  pub encloses : Encloses season (opening table).0 (opening table).1 (joint_table season)

-- no rule-abiding policy earns more than the table policy and a unit for each week
abbrev pub IsNearBest : Season → Type 0
IsNearBest season =
    (tree : Tree) → Abides season tree →
    (pos cent *ℤ season_earned season tree) ≤ℤ (pos cent *ℤ season_earned season (joint_table season) +ℤ pos season.rules.weeks *ℤ den season season.rules.weeks)
