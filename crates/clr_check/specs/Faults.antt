-- The first of some conditions that fails.
use Rattle.std.specs.Prelude.{◌≡◌, ℕ, suc, ◌<◌, ◌≤◌, not, ◌==◌, if◌then◌else◌, List, [], ◌∷◌, ◌-◌, length, get_or, slice_get, Some, Option, option_map, find, ℤ, pos, ◌*ℤ◌, ◌+◌, ◌*◌}
use Rattle.clr_average.specs.Average.{IsWithin}
use Rattle.clr_rules.specs.declared.season_rules.Summary.{Summary}
use Rattle.clr_rules.specs.LiveSummaries.{leads_at, live_summaries}
use Rattle.clr_season.specs.Season.{Season, store_at}
use Rattle.clr_model.specs.PathValue.{weighed}
use Rattle.clr_cert.specs.Conditions.{Condition, at_least, at_most, end_worth, value_condition}
use Rattle.clr_cert.specs.declared.no.NoKind.TheVariants as kind
use Rattle.clr_cert.specs.Entries.{CertEntries, most_entry, most_mult}
use Rattle.clr_check.specs.declared.faults.Fault.{Fault}
use Rattle.clr_check.specs.declared.faults.Bound.{Bound}
use Rattle.clr_check.specs.declared.faults.Bound.TheVariants.{Below, Above}

abbrev pub fault_of : Condition → Fault
fault_of condition = record { kind = condition.kind; left = condition.left; right = condition.right }

abbrev pub first_fault : List Condition → Option Fault
first_fault list = option_map fault_of (find (λ condition. not condition.holds) list)

-- numbers for each stock of a store, in their range
pub record AreNumbers (season : Season) (store : ℕ) (numbers : List ℤ) : Type 0 where
  pub size : length numbers ≡ suc (store_at season store).units
  pub small : (k : ℕ) → k < length numbers → IsWithin most_entry (get_or numbers k (pos 0))

-- how an entry of a path's values is compared
abbrev pub compare_by : Bound → ℤ → ℤ → Condition
compare_by Below = at_most kind.Low
compare_by Above = at_least kind.High

-- the left and the right side of an entry's condition
abbrev pub entry_left : Season → ℕ → ℤ → ℤ
entry_left season done entry = if done == season.rules.weeks then entry else entry *ℤ pos season.base

abbrev pub entry_right : Season → ℕ → ℕ → ℕ → ℕ → ℕ → List ℤ → ℤ
entry_right season store done before rung stock after =
    if done == season.rules.weeks then end_worth season store stock else weighed season store done before rung stock (λ rest. get_or after rest (pos 0))

-- a row has the numbers of a function of stocks
abbrev pub HasRow : Season → ℕ → List ℤ → (ℕ → ℤ) → Type 0
HasRow season store row f = (stock : ℕ) → stock ≤ (store_at season store).units → f stock ≡ get_or row stock (pos 0)

-- ---- a store's values under multipliers

-- rows of one store, one for each live summary after so many weeks, have the numbers of a function of summaries and stocks
abbrev pub HasRows : Season → ℕ → ℕ → List ℤ → (Summary → ℕ → ℤ) → Type 0
HasRows season store done rows f =
    (place stock : ℕ) (s : Summary) → slice_get (live_summaries season.rules done) place ≡ Some s → stock ≤ (store_at season store).units → f s stock ≡ get_or rows (place * suc (store_at season store).units + stock) (pos 0)

-- there is a row for each live summary after so many weeks, and each number lies in the range of entries
pub record AreRows (season : Season) (store done : ℕ) (rows : List ℤ) : Type 0 where
  pub size : length (live_summaries season.rules done) * suc (store_at season store).units ≤ length rows
  pub small : (k : ℕ) → k < length rows → IsWithin most_entry (get_or rows k (pos 0))

-- multipliers by rung from 1, in their range
pub record AreMults (season : Season) (mults : List ℤ) : Type 0 where
  pub size : length mults ≡ length season.rules.prices
  pub small : (k : ℕ) → k < length mults → IsWithin most_mult (get_or mults k (pos 0))

-- these are the multipliers of the next week, and the values after it, of some entries
pub record IsValueOf (season : Season) (entries : CertEntries) (done store : ℕ) (mults rows : List ℤ) : Type 0 where
  pub mults_are : (rung : ℕ) → 1 ≤ rung → rung ≤ length season.rules.prices → entries.mult store (suc done) rung ≡ get_or mults (rung - 1) (pos 0)
  pub rows_are : HasRows season store (suc done) rows (entries.value (suc done) store)

-- the condition of a rung, where it leads to a live summary
abbrev pub rung_conditions : Season → CertEntries → ℕ → ℕ → Summary → ℕ → ℕ → List Condition
rung_conditions season entries done store s stock rung = if leads_at season.rules done s rung then value_condition season entries done store s stock rung ∷ [] else []
