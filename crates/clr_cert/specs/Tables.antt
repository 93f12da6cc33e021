-- The tables of a certificate that have an entry for each number of weeks done, store and stock.
use Rattle.std.specs.Prelude.{ℕ, ◌≤◌, ℤ}
use Rattle.clr_season.specs.Season.{Season, store_at}
use Rattle.clr_cert.specs.declared.table.Table.{Table}
use Rattle.clr_cert.specs.declared.table.Table.TheVariants.{Low, High, Value}
use Rattle.clr_cert.specs.Entries.{Call, CertEntries, IsAsked, ask_high, ask_low, ask_value}

-- the entries of a table
abbrev pub entry_of : Table → CertEntries → ℕ → ℕ → ℕ → ℤ
entry_of Low entries = entries.low
entry_of High entries = entries.high
entry_of (Value s) entries = λ done store stock. entries.value done store s stock

-- the call for an entry
abbrev pub ask_of : Table → ℕ → ℕ → ℕ → Call
ask_of Low done store stock = ask_low done store stock
ask_of High done store stock = ask_high done store stock
ask_of (Value s) done store stock = ask_value done store s stock

-- a line of the season's certificate tells the entries of a store after so many weeks, one for each stock
abbrev pub IsRowAsked : Season → Table → ℕ → ℕ → Type 0
IsRowAsked season table done store = (stock : ℕ) → stock ≤ (store_at season store).units → IsAsked season (ask_of table done store stock)
