-- What a policy file says, or its first fault.
use Rattle.std.specs.Prelude.{◌≡◌, ℕ, zero, suc, ◌+◌, ◌&&◌, ◌||◌, Bool, true, false, nat_le, min, List, length, map, codes, Option, Some, None, option_and_then, Result, Ok, Err, if◌then◌else◌}
use Rattle.std.specs.Option.{is_some, option_map_or}
use Rattle.std.specs.Ordering.{nat_cmp, match_ordering}
use Rattle.std.specs.Cmp.Lexicographic.{slice_cmp}
use Rattle.std.specs.Str.{bytes_eq, is_utf8}
use Rattle.serde_json.specs.Data.{Data, null, boolean, number, string, array, object, Members, no_members, member}
use Rattle.serde_json.specs.Read.{read}
use Rattle.serde_json.specs.Find.{as_number, as_object, as_str, as_u64, get}
use Rattle.clr_text.specs.Fields.{strip_bom}
use Rattle.clr_text.specs.Names.{number_of}
use Rattle.clr_season.specs.Season.{Season}
use Rattle.clr_policy.specs.Written.{Written, finish, choose, ask, branches, written}
use Rattle.clr_policy.specs.declared.policy.Policy.{Policy}
use Rattle.clr_policy.specs.declared.policy.PolicyError.{PolicyError}
use Rattle.clr_policy.specs.declared.policy.PolicyError.TheVariants.{Json, Shape, Unknown, Memory}

-- ---- faults

-- The bytes are no JSON text, or a branch is not in the form, or asks for a store that the season doesn't have.
pub data Fault : Type 0 where
  no_json : Fault
  no_shape : ℕ → Fault
  no_store : ℕ → Fault

-- the number at which numbers of branches are held: the greatest of 32 bits
abbrev pub most_branches : ℕ
most_branches = 4294967295

-- the number of the branch after so many that ended, from 1
abbrev pub branch_after : ℕ → ℕ
branch_after ended = min (ended + 1) most_branches

-- the first fault, or what comes next
infixl 10 ◌>>=◌
abbrev pub ◌>>=◌ : {A B : Type 0} → Result A Fault → (A → Result B Fault) → Result B Fault
(Ok x) >>= f = f x
(Err fault) >>= f = Err fault

-- a place that holds what it must, or a breach of the form after so many branches
abbrev pub formed : ℕ → Bool → Result Bool Fault
formed ended true = Ok true
formed ended false = Err (no_shape (branch_after ended))

-- ---- the fields of an object

abbrev pub has : List ℕ → Data → Bool
has name value = is_some (get name value)

-- each of these fields has a name that passes
abbrev pub all_pass : (List ℕ → Bool) → Members → Bool
all_pass passes no_members = true
all_pass passes (member name value fields) = passes name && all_pass passes fields

-- an object that has such fields alone
unfoldable pub has_only : (List ℕ → Bool) → Data → Bool
has_only passes node = option_map_or (all_pass passes) (as_object node) false

-- a whole number of a field, in its range
abbrev pub ranged : ℕ → ℕ → ℕ → Option ℕ → Result ℕ Fault
ranged ended low high None = Err (no_shape (branch_after ended))
ranged ended low high (Some n) = if nat_le low n && nat_le n high then Ok n else Err (no_shape (branch_after ended))

unfoldable pub number_in : List ℕ → ℕ → ℕ → ℕ → Data → Result ℕ Fault
number_in name ended low high value = ranged ended low high (option_and_then as_u64 (option_and_then as_number (get name value)))

-- the number of the store of this name
abbrev pub known : ℕ → Option ℕ → Result ℕ Fault
known ended None = Err (no_store (branch_after ended))
known ended (Some store) = Ok store

abbrev pub named : List (List ℕ) → ℕ → Option (List ℕ) → Result ℕ Fault
named names ended None = Err (no_shape (branch_after ended))
named names ended (Some name) = known ended (number_of names name)

unfoldable pub store_in : List (List ℕ) → List ℕ → ℕ → Data → Result ℕ Fault
store_in names name ended value = named names ended (option_and_then as_str (get name value))

-- ---- places

-- What a place gives, by the number of weeks that have no rung above it yet and the number of branches that ended before it.
abbrev pub Place : Type 0
Place = ℕ → ℕ → Result Written Fault

abbrev pub is_rung_field : List ℕ → Bool
is_rung_field name = bytes_eq name (codes "rung") || bytes_eq name (codes "then")

abbrev pub is_test_field : List ℕ → Bool
is_test_field name = bytes_eq name (codes "store") || bytes_eq name (codes "left_at_most") || bytes_eq name (codes "yes") || bytes_eq name (codes "no")

-- it has each field of a test
abbrev pub has_test : Data → Bool
has_test node = has (codes "store") node && has (codes "left_at_most") node && has (codes "yes") node && has (codes "no") node

-- The rung of a node with a rung: its fields come first.
unfoldable pub rung_in : Season → ℕ → Data → Result ℕ Fault
rung_in season ended node = do
  known_fields ← formed ended (has_only is_rung_field node)
  number_in (codes "rung") ended 1 (length season.rules.prices) node

-- The store and the limit of a node with a test: its fields come first, then that the store is a text, that the season has a store of this
-- name, and the limit.
unfoldable pub test_in : Season → ℕ → Data → Result (ℕ × ℕ) Fault
test_in season ended node = do
  known_fields ← formed ended (has_only is_test_field node && has_test node)
  store ← store_in (map (λ store. store.name) season.stores) (codes "store") ended node
  limit ← number_in (codes "left_at_most") ended 0 2000 node
  Ok (store, limit)

-- A node with a rung: the rung, and the place after it.
unfoldable pub rung_node : Season → Data → Place → Place
rung_node season node after weeks ended = do
  rung ← rung_in season ended node
  rest ← after weeks ended
  Ok (choose rung rest)

-- A node with a test: the test, and the two places after it. The branches of the first have ended before the second.
unfoldable pub test_node : Season → Data → Place → Place → Place
test_node season node if_yes if_no weeks ended = do
  test ← test_in season ended node
  below ← if_yes weeks ended
  above ← if_no weeks (ended + length (branches below))
  Ok (ask test.0 test.1 below above)

-- A place without an object: a branch ends there where each week has its rung.
abbrev pub end_place : Place
end_place zero ended = Ok finish
end_place (suc weeks) ended = Err (no_shape (branch_after ended))

-- A place without an object that doesn't end a branch.
abbrev pub bad_place : Place
bad_place weeks ended = Err (no_shape (branch_after ended))

-- A place with an object: a week must be without its rung. The field of a rung tells the nodes apart.
abbrev pub node_place : Season → Data → Place → Place → Place → Place
node_place season node after if_yes if_no zero ended = Err (no_shape (branch_after ended))
node_place season node after if_yes if_no (suc weeks) ended =
    if has (codes "rung") node then rung_node season node after weeks ended else test_node season node if_yes if_no (suc weeks) ended

-- What a value gives at a place, and what the field of a name does among fields: null where no field has the name.
abbrev mutual
  pub place : Season → Data → Place
  place season null = end_place
  place season (boolean b) = bad_place
  place season (number n) = bad_place
  place season (string s) = bad_place
  place season (array items) = bad_place
  place season (object fields) = node_place season (object fields) (field_place season (codes "then") fields) (field_place season (codes "yes") fields) (field_place season (codes "no") fields)

  pub field_place : Season → List ℕ → Members → Place
  field_place season name no_members = end_place
  field_place season name (member key value fields) = match_ordering (slice_cmp nat_cmp name key) (field_place season name fields) (place season value) (field_place season name fields)

-- ---- the file

-- the value that the bytes are, behind a byte order mark
unfoldable pub data_of : List ℕ → Option Data
data_of bytes = if is_utf8 (strip_bom bytes) then read (strip_bom bytes) else None

abbrev pub value_policy : Season → Option Data → Result Written Fault
value_policy season None = Err no_json
value_policy season (Some value) = place season value season.rules.weeks 0

-- the policy of a file, or its first fault
unfoldable pub policy_of : Season → List ℕ → Result Written Fault
policy_of season bytes = value_policy season (data_of bytes)

-- What was answered, seen by a view, is what is given, unless memory was wanting.
abbrev pub Gives : {X Y : Type 0} → (X → Y) → Result X PolicyError → Result Y Fault → Type 0
Gives view (Ok x) given = given ≡ Ok (view x)
Gives view (Err Json) given = given ≡ Err no_json
Gives view (Err (Shape branch)) given = given ≡ Err (no_shape branch)
Gives view (Err (Unknown branch)) given = given ≡ Err (no_store branch)
Gives view (Err Memory) given = Unit {0}

-- the branches that ended with a policy after so many, held
abbrev pub ended_after : ℕ → Policy → ℕ
ended_after ended policy = min (ended + length (branches (written policy))) most_branches

-- what the field of a name gives in an object: null where no field has the name
abbrev pub field_in : Season → Option Data → Place
field_in season None = end_place
field_in season (Some value) = place season value

unfoldable pub field_at : Season → List ℕ → Data → Place
field_at season name node = field_in season (get name node)
