-- The direction of a usage, and the step from one table of multipliers to the next.
use Rattle.std.specs.Prelude.{◌≡◌, ℕ, suc, ◌*◌, ◌/◌, ◌%◌, ◌≤◌, ℤ, pos, neg_ℤ, ◌-ℤ◌, ◌*ℤ◌, ◌≤ℤ◌, get_or, length, map, nat_le, sum, if◌then◌else◌}
use Rattle.clr_num.specs.Lists.{numbers}
use Rattle.clr_num.specs.Sums.{sum_of}
use Rattle.clr_mult.specs.Tables.{AreSizes, Table, mult_at, table_of, usage_at}

-- no larger than this in size
pub record IsSmall (limit : ℕ) (number : ℤ) : Type 0 where
  pub low : neg_ℤ (pos limit) ≤ℤ number
  pub high : number ≤ℤ pos limit

-- the usage of a rung in a week by all stores
abbrev pub usage_total : Table ℕ → ℕ → ℕ → ℕ
usage_total usage week rung = sum (map (λ store. usage_at usage store week rung) (numbers 1 usage.stores))

-- what a store uses less the mean of all stores, rounded down, and one less for the first stores, as many as the rounding leaves over
abbrev pub direction_of : ℕ → ℕ → ℕ → ℕ → ℤ
direction_of used total stores store = pos used -ℤ pos (total / stores) -ℤ pos (if nat_le store (total % stores) then 1 else 0)

-- the direction of a store
abbrev pub direction : Table ℕ → ℕ → ℕ → ℕ → ℤ
direction usage store week rung = direction_of (usage_at usage store week rung) (usage_total usage week rung) usage.stores store

-- the table after a step: each entry goes q times against its direction
abbrev pub stepped : ℕ → Table ℕ → Table ℤ → Table ℤ
stepped q usage table = table_of table.stores table.weeks table.rungs (λ store week rung. mult_at table store week rung -ℤ pos q *ℤ direction usage store week rung)

-- the sizes and the number of entries are those of a table
pub record IsTable {X : Type 0} (table : Table X) : Type 0 where
  pub sizes : AreSizes table.stores table.weeks table.rungs
  pub count : length table.entries ≡ table.weeks * table.rungs * table.stores

-- usage is counted in parts of a million, and a store has at most the whole
abbrev pub IsUsage : Table ℕ → Type 0
IsUsage usage = IsTable usage × ((k : ℕ) → get_or usage.entries k 0 ≤ 1000000)

-- over the stores the numbers of f sum to zero in each week on each rung
abbrev pub VanishOverStores : {X : Type 0} → Table X → (ℕ → ℕ → ℕ → ℤ) → Type 0
VanishOverStores table f =
    (week rung : ℕ) → 1 ≤ week → week ≤ table.weeks → 1 ≤ rung → rung ≤ table.rungs → sum_of table.stores (λ i. f (suc i) week rung) ≡ pos 0

-- multipliers sum to zero over the stores
abbrev pub SumsToZero : Table ℤ → Type 0
SumsToZero table = VanishOverStores table (mult_at table)

abbrev pub IsMult : Table ℤ → Type 0
IsMult table = IsTable table × SumsToZero table
