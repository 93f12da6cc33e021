-- The entries that a run holds, and what they are of.
use Rattle.std.specs.Prelude.{◌≡◌, ℕ, ◌<◌, ◌≤◌, nat_lt, if◌then◌else◌, ℤ, pos, List, [], length, get_or, IsTrue, Option, Some, None}
use Rattle.clr_num.specs.Lists.{nth}
use Rattle.clr_num.specs.Rounding.{ceil, floor}
use Rattle.clr_rules.specs.declared.season_rules.Summary.{Summary}
use Rattle.clr_rules.specs.LiveSummaries.{IsAmong}
use Rattle.clr_rules.specs.Rules.{IsPath, rung_at}
use Rattle.clr_season.specs.Season.{Season}
use Rattle.clr_mult.specs.Tables.{Within, mult_at}
use Rattle.clr_model.specs.Fits.{fits}
use Rattle.clr_path.specs.Tables.{IsRowOf, path_rows, row_at, value_at}
use Rattle.clr_storedp.specs.Tables.{AreOfSeason, AreSmall, AreTablesOf, table_pairs, values_of}
use Rattle.clr_subgrad.specs.Run.{run_table}
use Rattle.clr_joint.specs.Tables.{Entry, HasStocks, IsJointOf, at_stocks}
use Rattle.clr_joint.specs.Tables as j
use Rattle.clr_cert.specs.Entries.{AreInRange, Call, CertEntries, MayBeAsked, ask_high, ask_joint, ask_low, ask_mult, ask_rung, ask_value}
use Rattle.clr_words.specs.Asked.{Ask}
use Rattle.clr_jobs.specs.declared.entries.PlanEntries.{PlanEntries}

-- ---- the numbers

-- a table of all stores together, in a season of so many weeks: the rung, 0 where no week is to come, and the two values
abbrev pub joint_in : Option (List Entry) → ℕ → ℕ → Summary → List ℕ → ℕ × ℤ × ℤ
joint_in None weeks done s stocks = (0, pos 0, pos 0)
joint_in (Some table) weeks done s stocks =
    let values : ℤ × ℤ = at_stocks (j.values_of table done s) stocks (pos 0, pos 0) in
    ((if nat_lt done weeks then at_stocks (j.choices_of table done s) stocks 0 else 0), values.0, values.1)

abbrev pub entries_of : PlanEntries → CertEntries
entries_of held = record {
  rung = rung_at held.path;
  mult = mult_at held.mult;
  low = λ done store stock. value_at held.low store done stock;
  high = λ done store stock. value_at held.high store done stock;
  value = λ done store s stock. get_or (values_of (nth held.tables.items store []) done s) stock (pos 0);
  joint = joint_in held.joint (length held.path);
}

-- ---- which of them there are

-- a value of a path's table
pub record HasPathValue (table : List (List (List ℤ))) (done store stock : ℕ) : Type 0 where
  pub row : IsRowOf table done store
  pub inside : stock < length (row_at table store done)

-- a value of a store's table
pub record HasValue (held : PlanEntries) (done store : ℕ) (s : Summary) (stock : ℕ) : Type 0 where
  pub first : 1 ≤ store
  pub last : store ≤ length held.tables.items
  pub entry : IsAmong (table_pairs (nth held.tables.items store [])) done s
  pub inside : stock < length (values_of (nth held.tables.items store []) done s)

-- values of the table of all stores together, and a rung where a week is to come
pub record HasJoint (table : List Entry) (weeks done : ℕ) (s : Summary) (stocks : List ℕ) : Type 0 where
  pub entry : IsAmong (j.table_pairs table) done s
  pub values : HasStocks (j.values_of table done s) stocks
  pub rung : done < weeks → HasStocks (j.choices_of table done s) stocks

abbrev pub IfJoint : Option (List Entry) → (List Entry → Type 0) → Type 0
IfJoint None Holds = ⊥
IfJoint (Some table) Holds = Holds table

abbrev pub MayAsk : PlanEntries → Call → Type 0
MayAsk held (ask_rung week) = (1 ≤ week) × (week ≤ length held.path)
MayAsk held (ask_mult store week rung) = Within held.mult.stores held.mult.weeks held.mult.rungs store week rung
MayAsk held (ask_low done store stock) = HasPathValue held.low done store stock
MayAsk held (ask_high done store stock) = HasPathValue held.high done store stock
MayAsk held (ask_value done store s stock) = HasValue held done store s stock
MayAsk held (ask_joint done s stocks) = IfJoint held.joint (λ table. HasJoint table (length held.path) done s stocks)

-- Each number that a line of the season's certificate needs is there and in its range.
pub record IsWhole (season : Season) (held : PlanEntries) : Type 0 where
  pub asked : MayBeAsked season (MayAsk held)
  pub ranges : AreInRange season (entries_of held)

-- ---- what they are of

-- The tables of a path, the multipliers after so many steps of the descent that is asked and the tables of all stores under them, and, in a
-- season that fits, the table of all stores together.
pub record AreHeldOf (season : Season) (ask : Ask) (step : ℕ) (held : PlanEntries) : Type 0 where
  pub path : IsPath season.rules held.path
  pub low : held.low ≡ path_rows floor season held.path
  pub high : held.high ≡ path_rows ceil season held.path
  pub mult : held.mult ≡ run_table season ask.step step
  pub of_season : AreOfSeason season held.mult
  pub small : AreSmall held.mult
  pub tables : AreTablesOf ceil (mult_at held.mult) season held.tables.items
  pub joint : IsTrue (fits season) → IfJoint held.joint (IsJointOf season)
