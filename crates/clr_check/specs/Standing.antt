-- What a checker keeps of the lines that it was fed, and for which lines it stands.
use Rattle.std.specs.Prelude.{◌≡◌, ℕ, suc, ◌+◌, ◌-◌, ◌*◌, ◌%◌, ◌/◌, ◌<◌, ◌≤◌, ◌==◌, ◌≢◌, Bool, true, false, IsTrue, if◌then◌else◌, List, [], ◌∷◌, ◌++◌, length, get_or, slice_get, Option, Some, None, ℤ, pos, ⊤}
use Rattle.std.specs.List.{AllByRecursion, flat_map, list_any, position_or_len}
use Rattle.clr_rules.specs.declared.season_rules.Summary.{Summary}
use Rattle.clr_rules.specs.LiveSummaries.{live_pairs, live_summaries, same_summary}
use Rattle.clr_rules.specs.Rules.{IsPath}
use Rattle.clr_season.specs.Season.{Season, IsSeason, store_at}
use Rattle.clr_model.specs.Fits.{fits, stock_lists}
use Rattle.clr_cert.specs.declared.place.Place.{Place}
use Rattle.clr_cert.specs.declared.place.Place.TheVariants.{Head, Lengths, Path, Mult, Low, High, Value, Joint, Revenue, Bound, Exact, End}
use Rattle.clr_cert.specs.declared.no.No.{No}
use Rattle.clr_cert.specs.declared.no.NoKind.{NoKind}
use Rattle.clr_cert.specs.declared.no.NoKind.TheVariants.{Extra, Form, Short}
use Rattle.clr_check.specs.declared.faults.Fault.{Fault}
use Rattle.clr_cert.specs.Accepts.{Accepts, CertClaims, cert_claims, claims_of, lines_no}
use Rattle.clr_cert.specs.Entries.{most_entry, most_mult}
use Rattle.clr_cert.specs.Places.{places, walk}
use Rattle.clr_cert.specs.Reading.{most_line, numbers_told, told}
use Rattle.clr_check.specs.Rows.{AreRowsOf, kept_at}
use Rattle.clr_cert.specs.declared.claims.Claims.{Claims}
use Rattle.clr_check.specs.declared.rest.Rest.{Rest}
use Rattle.clr_check.specs.declared.rest.Rest.TheVariants.{Nothing, Few, Many}
use Rattle.clr_check.specs.declared.tables.Tables.{Tables}

-- ---- lines

-- whether some byte is a line feed
abbrev pub has_feed : List ℕ → Bool
has_feed bytes = list_any (λ byte. byte == 10) bytes

-- bytes without a line feed
abbrev pub IsLine : List ℕ → Type 0
IsLine bytes = has_feed bytes ≡ false

-- the bytes of some lines, each ended by a line feed
abbrev pub ended_text : List (List ℕ) → List ℕ
ended_text lines = flat_map (λ line. line ++ 10 ∷ []) lines

-- how many bytes stand after the last line feed: none, no more than a line may have, or more
abbrev pub IsRest : Rest → List ℕ → Type 0
IsRest Nothing bytes = bytes ≡ []
IsRest Few bytes = (0 < length bytes) × (length bytes ≤ most_line)
IsRest Many bytes = most_line < length bytes

-- ---- what is kept

-- What a checker keeps: its season; how many lines it has accepted, and the place of the next; the entries and totals that these lines
-- tell; and its refusal, where it has one.
pub record Kept : Type 0 where
  pub season : Season
  pub row : ℕ
  pub place : Place
  pub tables : Tables
  pub no : Option No

-- A store has two rows of a table, one for the even and one for the odd numbers of weeks done.
abbrev pub row_number : ℕ → ℕ → ℕ
row_number store done = 2 * (store - 1) + done % 2

-- the row of the multipliers of a store and a week, which has one for each rung
abbrev pub mult_row : Season → ℕ → ℕ → ℕ
mult_row season store week = (store - 1) * season.rules.weeks + (week - 1)

-- the place of a live summary, from 0
abbrev pub live_place : Season → ℕ → Summary → ℕ
live_place season done s = position_or_len (same_summary s) (live_summaries season.rules done)

-- so many numbers of a store come for each live summary
abbrev pub stock_count : Season → ℕ → ℕ
stock_count season store = suc (store_at season store).units

-- the tables have the numbers of a place's line, by their index from 0; of all stores' values only the two values are kept
abbrev pub AreKept : Season → Tables → Place → (ℕ → ℤ) → Type 0
AreKept season tables Path number = (k : ℕ) → k < season.rules.weeks → pos (get_or tables.path k 0) ≡ number k
AreKept season tables (Mult week rung) number = (k : ℕ) → k < length season.stores → kept_at tables.mults (mult_row season (suc k) week) (rung - 1) ≡ number k
AreKept season tables (Low done store) number = (k : ℕ) → k < stock_count season store → kept_at tables.lows (row_number store done) k ≡ number k
AreKept season tables (High done store) number = (k : ℕ) → k < stock_count season store → kept_at tables.highs (row_number store done) k ≡ number k
AreKept season tables (Value done store s) number =
    (k : ℕ) → k < stock_count season store → kept_at tables.values (row_number store done) (live_place season done s * stock_count season store + k) ≡ number k
AreKept season tables (Joint done s index) number =
    let at : ℕ = live_place season done s * stock_lists season.stores + index in
    (kept_at tables.joint_lows (done % 2) at ≡ number 1) × (kept_at tables.joint_tops (done % 2) at ≡ number 2)
AreKept season tables Revenue number = (tables.low ≡ number 0) × (tables.high ≡ number 1)
AreKept season tables Bound number = tables.bound ≡ number 0
AreKept season tables Exact number = (tables.exact.0 ≡ number 0) × (tables.exact.1 ≡ number 1)
AreKept season tables Head number = ⊤
AreKept season tables Lengths number = ⊤
AreKept season tables End number = ⊤

-- the number of weeks done whose lines come now, where a place is next
abbrev pub weeks_now : Season → Place → ℕ
weeks_now season (Low done store) = done
weeks_now season (High done store) = done
weeks_now season (Value done store s) = done
weeks_now season (Joint done s index) = done
weeks_now season Revenue = 0
weeks_now season Bound = 0
weeks_now season Exact = 0
weeks_now season End = 0
weeks_now season _ = season.rules.weeks

-- Of the tables the entries of these weeks and of one week more are kept, and of all other lines all numbers.
abbrev pub IsHeld : Season → Place → Place → Type 0
IsHeld season next (Low done store) = done ≤ suc (weeks_now season next)
IsHeld season next (High done store) = done ≤ suc (weeks_now season next)
IsHeld season next (Value done store s) = done ≤ suc (weeks_now season next)
IsHeld season next (Joint done s index) = done ≤ suc (weeks_now season next)
IsHeld season next _ = ⊤

-- the tables have what the first lines tell, so many of them, where a place is next
abbrev pub Keeps : Season → List (List ℕ) → ℕ → Place → Tables → Type 0
Keeps season lines count next tables =
    (row : ℕ) (place : Place) → slice_get (places season) row ≡ Some place → row < count → IsHeld season next place → AreKept season tables place (told season lines place)

-- the place of the next line, and what the lines tell
pub record IsKept (season : Season) (lines : List (List ℕ)) (checker : Kept) : Type 0 where
  pub row : checker.row ≡ length lines
  pub next : slice_get (walk season) (length lines) ≡ Some checker.place
  pub tables : Keeps season lines (length lines) checker.place checker.tables

-- A checker stands for some lines: its refusal is that of the first of them that is refused; and where none is, it keeps what they give.
pub record Stands (season : Season) (lines : List (List ℕ)) (checker : Kept) : Type 0 where
  pub same : checker.season ≡ season
  pub each : AllByRecursion IsLine lines
  pub no : checker.no ≡ lines_no season lines
  pub keeps : lines_no season lines ≡ None → IsKept season lines checker

-- the tables keep what the first lines tell, up to that of a place, which has these numbers
pub record IsLineKept (season : Season) (lines : List (List ℕ)) (row : ℕ) (place : Place) (tables : Tables) (numbers : List ℤ) : Type 0 where
  pub here : slice_get (places season) row ≡ Some place
  pub tells : numbers_told season lines place ≡ numbers
  pub keeps : Keeps season lines (suc row) place tables

-- a line stands among some lines at a place's row
pub record IsLineOf (season : Season) (lines : List (List ℕ)) (row : ℕ) (place : Place) (line : List ℕ) : Type 0 where
  pub here : slice_get (places season) row ≡ Some place
  pub stands : slice_get lines row ≡ Some line

-- ---- faults

-- a fault without numbers
abbrev pub plain_fault : NoKind → Fault
plain_fault kind = record { kind = kind; left = pos 0; right = pos 0 }

-- the refusal by a fault of a line counted from 0
abbrev pub no_at : ℕ → Fault → No
no_at row fault = record { row = row + 1; kind = fault.kind; left = fault.left; right = fault.right }

-- ---- what is claimed

-- what a checker claims once all lines have come
abbrev pub kept_claims : Kept → CertClaims
kept_claims checker = record {
  path = checker.tables.path;
  low = checker.tables.low;
  high = checker.tables.high;
  bound = checker.tables.bound;
  exact = if fits checker.season then Some checker.tables.exact else None;
}

-- the bytes are accepted, and this is what they claim
pub record IsClaimOf (season : Season) (bytes : List ℕ) (claims : Claims) : Type 0 where
  pub accepted : Accepts season bytes
  pub same : claims_of claims ≡ cert_claims season bytes

-- ---- refusals

-- all lines have come
abbrev pub is_end : Place → Bool
is_end End = true
is_end _ = false

-- a checker with a refusal
abbrev pub refused : Kept → Fault → Kept
refused checker fault = record { season = checker.season; row = checker.row; place = checker.place; tables = checker.tables; no = Some (no_at checker.row fault) }

-- what is wrong with what stands after the last line feed
abbrev pub kind_at_end : Bool → Rest → Option NoKind
kind_at_end true Nothing = None
kind_at_end true Few = Some Extra
kind_at_end true Many = Some Extra
kind_at_end false Nothing = Some Short
kind_at_end false Few = Some Short
kind_at_end false Many = Some Form

-- ---- the shape of what is kept

-- the store of a row of which each store has two
abbrev pub row_store : ℕ → ℕ
row_store row = suc (row / 2)

-- the multipliers' rows: one for each store and week, with a number for each rung
abbrev pub AreMultRows : Season → List (List ℤ) → Type 0
AreMultRows season rows = AreRowsOf (length season.stores * season.rules.weeks) (λ row. length season.rules.prices) most_mult rows

-- There is a number for each entry of two weeks, and each lies in its range. So many live summaries have room.
pub record AreTables (season : Season) (tables : Tables) : Type 0 where
  pub most : ℕ
  pub path : IsPath season.rules tables.path
  pub room : (done : ℕ) → done ≤ season.rules.weeks → length (live_summaries season.rules done) ≤ most
  pub mults : AreMultRows season tables.mults
  pub lows : AreRowsOf (2 * length season.stores) (λ row. 1 * stock_count season (row_store row)) most_entry tables.lows
  pub highs : AreRowsOf (2 * length season.stores) (λ row. 1 * stock_count season (row_store row)) most_entry tables.highs
  pub values : AreRowsOf (2 * length season.stores) (λ row. most * stock_count season (row_store row)) most_entry tables.values
  pub joint_lows : IsTrue (fits season) → AreRowsOf 2 (λ row. most * stock_lists season.stores) most_entry tables.joint_lows
  pub joint_tops : IsTrue (fits season) → AreRowsOf 2 (λ row. most * stock_lists season.stores) most_entry tables.joint_tops

-- the first stores, so many of them, have these multipliers for a week and a rung, and all other numbers stay
pub record AreMultsKept (season : Season) (week rung : ℕ) (numbers : List ℤ) (count : ℕ) (old new : List (List ℤ)) : Type 0 where
  pub there : (k : ℕ) → k < count → kept_at new (mult_row season (suc k) week) (rung - 1) ≡ get_or numbers k (pos 0)
  pub others : (row index : ℕ) → ((k : ℕ) → k < count → row ≡ mult_row season (suc k) week → index ≢ (rung - 1)) → kept_at new row index ≡ kept_at old row index

-- there is room for a number for each live summary and stock of a store
pub record HasValueRoom (season : Season) (done store : ℕ) (rows : List (List ℤ)) : Type 0 where
  pub count : row_number store done < length rows
  pub size : length (live_summaries season.rules done) * stock_count season store ≤ length (get_or rows (row_number store done) [])

-- there is room for a number for each live summary and list of stocks
pub record HasJointRoom (season : Season) (done : ℕ) (rows : List (List ℤ)) : Type 0 where
  pub count : done % 2 < length rows
  pub size : length (live_summaries season.rules done) * stock_lists season.stores ≤ length (get_or rows (done % 2) [])

-- no line has more numbers
abbrev pub most_numbers : ℕ
most_numbers = 2001

-- what holds of a checker at any time
pub record IsReady (season : Season) (live : List (ℕ × Summary)) (numbers : List ℤ) (row : ℕ) (place : Place) (tables : Tables) : Type 0 where
  pub facts : IsSeason season
  pub lives : live ≡ live_pairs season.rules
  pub room : length numbers ≡ most_numbers
  pub next : slice_get (walk season) row ≡ Some place
  pub shape : AreTables season tables
