-- Tables with a number for each store, week and rung, each counted from 1.
use Rattle.std.specs.Prelude.{◌≡◌, ℕ, ◌+◌, ◌-◌, ◌*◌, ◌≤◌, ℤ, pos, List, map, get_or}
use Rattle.std.specs.List.{flat_map}
use Rattle.clr_num.specs.Lists.{numbers}

-- how many stores, weeks and rungs a table is for, and its numbers by week, then rung, then store
pub record Table (X : Type 0) : Type 0 where
  pub stores : ℕ
  pub weeks : ℕ
  pub rungs : ℕ
  pub entries : List X

-- the sizes that a table may have
pub record AreSizes (stores weeks rungs : ℕ) : Type 0 where
  pub stores_from : 1 ≤ stores
  pub stores_to : stores ≤ 64
  pub weeks_from : 1 ≤ weeks
  pub weeks_to : weeks ≤ 52
  pub rungs_from : 1 ≤ rungs
  pub rungs_to : rungs ≤ 12

-- two tables are for as many stores, weeks and rungs
pub record SameSizes {X Y : Type 0} (one : Table X) (other : Table Y) : Type 0 where
  pub stores : one.stores ≡ other.stores
  pub weeks : one.weeks ≡ other.weeks
  pub rungs : one.rungs ≡ other.rungs

-- a store, a week and a rung of these many
pub record Within (stores weeks rungs store week rung : ℕ) : Type 0 where
  pub store_from : 1 ≤ store
  pub store_to : store ≤ stores
  pub week_from : 1 ≤ week
  pub week_to : week ≤ weeks
  pub rung_from : 1 ≤ rung
  pub rung_to : rung ≤ rungs

-- what holds for each store, week and rung of a table
abbrev pub EachEntry : {X : Type 0} → Table X → (ℕ → ℕ → ℕ → Type 0) → Type 0
EachEntry table P = (store week rung : ℕ) → Within table.stores table.weeks table.rungs store week rung → P store week rung

-- the row of a week and a rung, which has an entry for each store: rows are counted from 0, and those of earlier weeks come first
abbrev pub row_of : ℕ → ℕ → ℕ → ℕ
row_of rungs week rung = (week - 1) * rungs + (rung - 1)

-- where the entry of a store stands, from 0
abbrev pub place : ℕ → ℕ → ℕ → ℕ → ℕ → ℕ
place stores rungs store week rung = row_of rungs week rung * stores + (store - 1)

-- the number of a table for a store, a week and a rung
abbrev pub entry_at : {X : Type 0} → X → Table X → ℕ → ℕ → ℕ → X
entry_at default table store week rung = get_or table.entries (place table.stores table.rungs store week rung) default

abbrev pub usage_at : Table ℕ → ℕ → ℕ → ℕ → ℕ
usage_at usage store week rung = entry_at 0 usage store week rung

abbrev pub mult_at : Table ℤ → ℕ → ℕ → ℕ → ℤ
mult_at table store week rung = entry_at (pos 0) table store week rung

-- the numbers of f for each week, each rung and each store
abbrev pub listed : {X : Type 0} → ℕ → ℕ → ℕ → (ℕ → ℕ → ℕ → X) → List X
listed stores weeks rungs f = flat_map (λ week. flat_map (λ rung. map (λ store. f store week rung) (numbers 1 stores)) (numbers 1 rungs)) (numbers 1 weeks)

-- the table with the numbers of f
abbrev pub table_of : {X : Type 0} → ℕ → ℕ → ℕ → (ℕ → ℕ → ℕ → X) → Table X
table_of stores weeks rungs f = record { stores = stores; weeks = weeks; rungs = rungs; entries = listed stores weeks rungs f }

-- no usage, and no multipliers
abbrev pub zero_usage : ℕ → ℕ → ℕ → Table ℕ
zero_usage stores weeks rungs = table_of stores weeks rungs (λ store week rung. 0)

abbrev pub zero_mult : ℕ → ℕ → ℕ → Table ℤ
zero_mult stores weeks rungs = table_of stores weeks rungs (λ store week rung. pos 0)
