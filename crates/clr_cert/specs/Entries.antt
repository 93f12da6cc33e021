-- What a certificate is written from.
use Rattle.std.specs.Prelude.{◌≡◌, ℕ, ◌<◌, ◌≤◌, ℤ, List, length, IsTrue}
use Rattle.std.specs.Prelude.{Contains}
use Rattle.clr_average.specs.Average.{IsWithin}
use Rattle.clr_rules.specs.declared.season_rules.Summary.{Summary}
use Rattle.clr_rules.specs.Rules.{IsLiveSummary}
use Rattle.clr_season.specs.Season.{Season, IsPlace, store_at}
use Rattle.clr_model.specs.Fits.{fits}
use Rattle.clr_cert.specs.Places.{all_stocks}

-- A path, multipliers, and four tables: the rung of each week; the multiplier of each store, week and rung; after so many
-- weeks, for each store and stock, the path's value rounded down, and up; for each live summary too, the store's value
-- under the multipliers; and for each live summary and list of stocks the rung that all stores choose, and their values
-- rounded down and up.
pub record CertEntries : Type 0 where
  pub rung : ℕ → ℕ
  pub mult : ℕ → ℕ → ℕ → ℤ
  pub low : ℕ → ℕ → ℕ → ℤ
  pub high : ℕ → ℕ → ℕ → ℤ
  pub value : ℕ → ℕ → Summary → ℕ → ℤ
  pub joint : ℕ → Summary → List ℕ → ℕ × ℤ × ℤ

-- one of them, by its arguments
pub data Call : Type 0 where
  ask_rung : (week : ℕ) → Call
  ask_mult : (store week rung : ℕ) → Call
  ask_low : (done store stock : ℕ) → Call
  ask_high : (done store stock : ℕ) → Call
  ask_value : (done store : ℕ) (s : Summary) (stock : ℕ) → Call
  ask_joint : (done : ℕ) (s : Summary) (stocks : List ℕ) → Call

-- a number of weeks done, a store, and a stock that it may have
pub record IsCell (season : Season) (done store stock : ℕ) : Type 0 where
  pub early : done ≤ season.rules.weeks
  pub first : 1 ≤ store
  pub last : store ≤ length season.stores
  pub held : stock ≤ (store_at season store).units

-- the same with a live summary
pub record IsLiveCell (season : Season) (done store : ℕ) (s : Summary) (stock : ℕ) : Type 0 where
  pub cell : IsCell season done store stock
  pub live : IsLiveSummary season.rules done s

-- in a season that fits, a number of weeks done, a live summary, and stocks that all stores may have
pub record IsJointCell (season : Season) (done : ℕ) (s : Summary) (stocks : List ℕ) : Type 0 where
  pub fit : IsTrue (fits season)
  pub early : done ≤ season.rules.weeks
  pub live : IsLiveSummary season.rules done s
  pub held : Contains (all_stocks season.stores) stocks

-- a line of the season's certificate tells it
abbrev pub IsAsked : Season → Call → Type 0
IsAsked season (ask_rung week) = (1 ≤ week) × (week ≤ season.rules.weeks)
IsAsked season (ask_mult store week rung) = IsPlace season store week rung
IsAsked season (ask_low done store stock) = IsCell season done store stock
IsAsked season (ask_high done store stock) = IsCell season done store stock
IsAsked season (ask_value done store s stock) = IsLiveCell season done store s stock
IsAsked season (ask_joint done s stocks) = IsJointCell season done s stocks

-- ---- the ranges of the numbers

abbrev pub most_mult : ℕ
most_mult = 10000000000000000

abbrev pub most_entry : ℕ
most_entry = 1000000000000000000

-- a rung, where a week is to come, and 0 where none is; and two values
pub record IsJointAnswer (season : Season) (done : ℕ) (answer : ℕ × ℤ × ℤ) : Type 0 where
  pub rung : done < season.rules.weeks → (1 ≤ answer.0) × (answer.0 ≤ length season.rules.prices)
  pub none : done ≡ season.rules.weeks → answer.0 ≡ 0
  pub low : IsWithin most_entry answer.1
  pub top : IsWithin most_entry answer.2

-- it lies in its range
abbrev pub IsInItsRange : Season → CertEntries → Call → Type 0
IsInItsRange season entries (ask_rung week) = (1 ≤ entries.rung week) × (entries.rung week ≤ length season.rules.prices)
IsInItsRange season entries (ask_mult store week rung) = IsWithin most_mult (entries.mult store week rung)
IsInItsRange season entries (ask_low done store stock) = IsWithin most_entry (entries.low done store stock)
IsInItsRange season entries (ask_high done store stock) = IsWithin most_entry (entries.high done store stock)
IsInItsRange season entries (ask_value done store s stock) = IsWithin most_entry (entries.value done store s stock)
IsInItsRange season entries (ask_joint done s stocks) = IsJointAnswer season done (entries.joint done s stocks)

-- ---- what is asked of them

-- each call that a line of the season's certificate needs may be made
abbrev pub MayBeAsked : Season → (Call → Type 0) → Type 0
MayBeAsked season may_ask = (call : Call) → IsAsked season call → may_ask call

-- and each answer lies in its range
abbrev pub AreInRange : Season → CertEntries → Type 0
AreInRange season entries = (call : Call) → IsAsked season call → IsInItsRange season entries call
