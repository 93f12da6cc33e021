-- What a table for all stores has before the first week at full stocks.
use Rattle.std.proofs.Common.{◌≡◌, ℕ, zero, suc, ◌≤◌, nat_lt, cond, true, List, [], length, map, refl, sym, ap, ◌∙◌, subst, arith, lt-ltb}
use Rattle.clr_rules.specs.declared.season_rules.Summary.{Summary}
use Rattle.clr_rules.specs.FirstPath.{SomePathObeys}
use Rattle.clr_rules.specs.LiveSummaries.{IsAmong}
use Rattle.clr_rules.specs.Rules.{summary}
use Rattle.clr_rules.proofs.LiveLaw.{live_pairs_lem}
use Rattle.clr_season.specs.Season.{IsSeason, Season}
use Rattle.clr_model.specs.JointValue.{choice_tree, joint_rung_at, joint_table}
use Rattle.clr_model.specs.Policies.{Abides, IsWhole}
use Rattle.clr_model.specs.Revenue.{full_stocks}
use Rattle.clr_model.specs.Stocks.{all_stocks}
use Rattle.clr_joint.specs.Tables.{Entry, HasStocks, IsJointOf, choices_of, table_pairs}
use Rattle.clr_joint.proofs.Built.{has_held}
use Rattle.clr_joint.proofs.Grid.{held_self}

-- the entry of no weeks
pub has_start : (season : Season) (table : List Entry) → IsSeason season → SomePathObeys season.rules → IsJointOf season table → IsAmong (table_pairs table) 0 (summary season.rules [])
has_start season table is any of =
    subst (λ (pairs : List (ℕ × Summary)). IsAmong pairs 0 (summary season.rules [])) (sym of.pairs) (((live_pairs_lem season.rules is.rules).pairs 0 (summary season.rules [])).1 (omega arith, ([], refl, any, refl)))

-- and in it the choice at full stocks
pub has_full : (season : Season) (table : List Entry) → IsSeason season → SomePathObeys season.rules → IsJointOf season table → HasStocks (choices_of table 0 (summary season.rules [])) (full_stocks season)
has_full season table is any of =
    let early : nat_lt 0 season.rules.weeks ≡ true = lt-ltb 0 season.rules.weeks is.rules.first_week in
    let choices = of.choices [] any ∙ ap (λ b. cond b (map (λ stocks. (stocks, joint_rung_at season [] stocks)) (all_stocks (full_stocks season))) []) early in
    subst (λ (items : List (List ℕ × ℕ)). HasStocks items (full_stocks season)) (sym choices) (has_held (joint_rung_at season []) (full_stocks season) (full_stocks season) (held_self (full_stocks season)))

root_rung : (season : Season) (choose : List ℕ → List ℕ → ℕ) (weeks : ℕ) (prefix stocks : List ℕ) → 1 ≤ weeks → IsWhole season weeks (choice_tree choose weeks prefix stocks) → (1 ≤ choose prefix stocks) × (choose prefix stocks ≤ length season.rules.prices)
root_rung season choose zero prefix stocks some whole = absurd (omega arith)
root_rung season choose (suc weeks) prefix stocks some whole = (whole.0, whole.1)

-- the rung of the first week is one of the ladder
pub first_on_ladder : (season : Season) → IsSeason season → Abides season (joint_table season) → (1 ≤ joint_rung_at season [] (full_stocks season)) × (joint_rung_at season [] (full_stocks season) ≤ length season.rules.prices)
first_on_ladder season is abides = root_rung season (joint_rung_at season) season.rules.weeks [] (full_stocks season) is.rules.first_week abides.whole
