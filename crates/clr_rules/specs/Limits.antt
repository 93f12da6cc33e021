-- What rules.json says, or its first refusal.
use Rattle.std.specs.Prelude.{◌≤◌, ◌&&◌, ◌||◌, ℕ, Bool, true, false, nat_le, List, codes, Option, Some, None, option_and_then, Result, Ok, Err, if◌then◌else◌}
use Rattle.std.specs.Option.{option_map_or}
use Rattle.std.specs.Str.{bytes_eq, is_utf8}
use Rattle.serde_json.specs.Data.{Data, Members, no_members, member}
use Rattle.serde_json.specs.Read.{read}
use Rattle.serde_json.specs.Find.{as_bool, as_number, as_object, as_u64, get}
use Rattle.clr_text.specs.Fields.{strip_bom}
use Rattle.clr_text.specs.Judged.{◌>>=◌}
use Rattle.clr_text.specs.Tables.{Refusal}
use Rattle.clr_text.specs.declared.file.Why.{Why}
use Rattle.clr_text.specs.declared.file.Why.TheVariants.{Field, Json, Missing, Number, Range}
use Rattle.clr_rules.specs.declared.limits.Limits.{Limits}

-- a field by its number
abbrev pub field : ℕ → Why → Refusal
field column why = record { row = 0; column = column; why = why }

-- the names that fields may have
abbrev pub is_known : List ℕ → Bool
is_known name =
    bytes_eq name (codes "version") || bytes_eq name (codes "weeks") || bytes_eq name (codes "base") || bytes_eq name (codes "markdowns")
    || bytes_eq name (codes "spacing") || bytes_eq name (codes "first_cut") || bytes_eq name (codes "calendar")

abbrev pub all_known : Members → Bool
all_known no_members = true
all_known (member name value members) = is_known name && all_known members

-- the value that the bytes are, behind a byte order mark
unfoldable pub data_of : List ℕ → Option Data
data_of bytes = if is_utf8 (strip_bom bytes) then read (strip_bom bytes) else None

-- a number that was read, in its range
abbrev pub ranged : ℕ → ℕ → ℕ → Option ℕ → Result ℕ Refusal
ranged column low high None = Err (field column Number)
ranged column low high (Some n) = if nat_le low n && nat_le n high then Ok n else Err (field column Range)

-- what an object without a field has there, or that it must have the field
abbrev pub absent_is : ℕ → Option ℕ → Result ℕ Refusal
absent_is column None = Err (field column Missing)
absent_is column (Some n) = Ok n

-- the number of a field, in its range
unfoldable pub number_in : List ℕ → ℕ → Option ℕ → ℕ → ℕ → Data → Result ℕ Refusal
number_in name column absent low high value =
    option_map_or (λ d. ranged column low high (option_and_then as_u64 (as_number d))) (get name value) (absent_is column absent)

-- true or false, that was read
abbrev pub told : ℕ → Option Bool → Result Bool Refusal
told column None = Err (field column Number)
told column (Some b) = Ok b

-- whether a field says true
unfoldable pub truth_in : List ℕ → ℕ → Bool → Data → Result Bool Refusal
truth_in name column absent value = option_map_or (λ d. told column (as_bool d)) (get name value) (Ok absent)

-- The rules of an object, field by field: the name and the number of each, what an object without it has there, and the range.
unfoldable pub limits_in : Data → Result Limits Refusal
limits_in value = do
  version ← number_in (codes "version") 1 (Some 1) 1 3 value
  weeks ← number_in (codes "weeks") 2 None 1 52 value
  base ← number_in (codes "base") 3 None 1 1000000 value
  markdowns ← number_in (codes "markdowns") 4 (Some 12) 0 12 value
  spacing ← number_in (codes "spacing") 5 (Some 1) 1 12 value
  first_cut ← number_in (codes "first_cut") 6 (Some 100) 0 100 value
  calendar ← truth_in (codes "calendar") 7 false value
  Ok (record {
    version = version;
    weeks = weeks;
    base = base;
    markdowns = markdowns;
    spacing = spacing;
    first_cut = first_cut;
    calendar = calendar;
  })

-- of an object, whose names are all known
abbrev pub object_limits : Data → Option Members → Result Limits Refusal
object_limits value None = Err (field 0 Json)
object_limits value (Some members) = if all_known members then limits_in value else Err (field 0 Field)

abbrev pub value_limits : Option Data → Result Limits Refusal
value_limits None = Err (field 0 Json)
value_limits (Some value) = object_limits value (as_object value)

-- the rules of a file, or its first refusal
unfoldable pub limits_of : List ℕ → Result Limits Refusal
limits_of bytes = value_limits (data_of bytes)

-- limits whose numbers lie in their ranges
pub record AreLimits (limits : Limits) : Type 0 where
  pub first_version : 1 ≤ limits.version
  pub last_version : limits.version ≤ 3
  pub first_week : 1 ≤ limits.weeks
  pub last_week : limits.weeks ≤ 52
  pub least_base : 1 ≤ limits.base
  pub most_base : limits.base ≤ 1000000
  pub markdowns : limits.markdowns ≤ 12
  pub near : 1 ≤ limits.spacing
  pub far : limits.spacing ≤ 12
  pub cut : limits.first_cut ≤ 100
