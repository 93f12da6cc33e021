-- What the places of a policy file give, by the kind of value that stands there.
use Rattle.std.proofs.Common.{◌≡◌, List, ℕ, zero, suc, ◌+◌, ◌-◌, ◌*◌, ◌<◌, ◌≤◌, length, refl, sym, ap, subst, ◌∙◌, arith, true, false, Option, Some, Ok, Err, Ordering, Less, Equal, Greater, codes}
use Rattle.std.specs.Option.{is_some}
use Rattle.std.specs.Ordering.{nat_cmp, match_ordering}
use Rattle.std.specs.Cmp.Lexicographic.{slice_cmp}
use Rattle.serde_json.specs.Data.{Data, null, boolean, number, string, array, object, Members, no_members, member, depth, members_depth}
use Rattle.serde_json.specs.Find.{as_null, as_object, get, get_member}
use Rattle.clr_season.specs.Season.{Season}
use Rattle.clr_policy.specs.declared.policy.Policy.{Policy}
use Rattle.clr_policy.specs.declared.policy.PolicyError.{PolicyError}
use Rattle.clr_policy.specs.declared.policy.PolicyError.TheVariants.{Json, Shape, Unknown, Memory}
use Rattle.clr_policy.specs.Written.{Written, ask, branches, written}
use Rattle.clr_policy.specs.PolicyFile.{no_shape, branch_after, Gives, Place, end_place, has, place, field_place, field_in, field_at, rung_node, test_node, test_in}

-- ---- the field of a name

by_order : (season : Season) (o : Ordering) (value : Data) (found : Option Data) (rest : Place) → rest ≡ field_in season found →
    match_ordering o rest (place season value) rest ≡ field_in season (match_ordering o found (Some value) found)
by_order season Less value found rest is = is
by_order season Equal value found rest is = refl
by_order season Greater value found rest is = is

field_found : (season : Season) (name : List ℕ) (fields : Members) → field_place season name fields ≡ field_in season (get_member name fields)
field_found season name no_members = refl
field_found season name (member key value fields) = by_order season (slice_cmp nat_cmp name key) value (get_member name fields) (field_place season name fields) (field_found season name fields)

field_is : (season : Season) (name : List ℕ) (fields : Members) → field_place season name fields ≡ field_at season name (object fields)
unfolding field_at
field_is season name fields = field_found season name fields

-- ---- the kinds of value

pub null_ends : (season : Season) (node : Data) (weeks count : ℕ) → is_some (as_null node) ≡ true → place season node weeks count ≡ end_place weeks count
null_ends season null weeks count is = refl
null_ends season (boolean _) weeks count is = cc is
null_ends season (number _) weeks count is = cc is
null_ends season (string _) weeks count is = cc is
null_ends season (array _) weeks count is = cc is
null_ends season (object _) weeks count is = cc is

pub other_breaks : (season : Season) (node : Data) (weeks count : ℕ) → is_some (as_null node) ≡ false → is_some (as_object node) ≡ false → place season node weeks count ≡ Err (no_shape (branch_after count))
other_breaks season null weeks count is no_object = cc is
other_breaks season (object _) weeks count is no_object = cc no_object
other_breaks season (boolean b) weeks count is no_object = refl
other_breaks season (number n) weeks count is no_object = refl
other_breaks season (string s) weeks count is no_object = refl
other_breaks season (array items) weeks count is no_object = refl

pub late_breaks : (season : Season) (node : Data) (weeks count : ℕ) → is_some (as_null node) ≡ false → weeks ≡ 0 → place season node weeks count ≡ Err (no_shape (branch_after count))
late_breaks season null weeks count is late = cc is
late_breaks season (boolean b) weeks count is late = refl
late_breaks season (number n) weeks count is late = refl
late_breaks season (string s) weeks count is late = refl
late_breaks season (array items) weeks count is late = refl
late_breaks season (object fields) zero count is late = refl
late_breaks season (object fields) (suc weeks) count is late = absurd (none late)
  where
    none : suc weeks ≡ 0 → ⊥
    none e = omega (arith, e)

pub rung_stands : (season : Season) (node : Data) (weeks count : ℕ) → is_some (as_object node) ≡ true → 1 ≤ weeks → has (codes "rung") node ≡ true →
    place season node weeks count ≡ rung_node season node (field_at season (codes "then") node) (weeks - 1) count
rung_stands season null weeks count is some rung = cc is
rung_stands season (boolean _) weeks count is some rung = cc is
rung_stands season (number _) weeks count is some rung = cc is
rung_stands season (string _) weeks count is some rung = cc is
rung_stands season (array _) weeks count is some rung = cc is
rung_stands season (object fields) zero count is some rung = absurd (none some)
  where
    none : 1 ≤ 0 → ⊥
    none p = omega arith
rung_stands season (object fields) (suc weeks) count is some rung =
    let less : suc weeks - 1 ≡ weeks = omega arith in
    rw (less, rung) (ap (λ after. rung_node season (object fields) after weeks count) (field_is season (codes "then") fields))

pub test_stands : (season : Season) (node : Data) (weeks count : ℕ) → is_some (as_object node) ≡ true → 1 ≤ weeks → has (codes "rung") node ≡ false →
    place season node weeks count ≡ test_node season node (field_at season (codes "yes") node) (field_at season (codes "no") node) weeks count
test_stands season null weeks count is some rung = cc is
test_stands season (boolean _) weeks count is some rung = cc is
test_stands season (number _) weeks count is some rung = cc is
test_stands season (string _) weeks count is some rung = cc is
test_stands season (array _) weeks count is some rung = cc is
test_stands season (object fields) zero count is some rung = absurd (none some)
  where
    none : 1 ≤ 0 → ⊥
    none p = omega arith
test_stands season (object fields) (suc weeks) count is some rung =
    rw rung
    (ap (λ if_yes. test_node season (object fields) if_yes (field_place season (codes "no") fields) (suc weeks) count) (field_is season (codes "yes") fields)
    ∙ ap (λ if_no. test_node season (object fields) (field_at season (codes "yes") (object fields)) if_no (suc weeks) count) (field_is season (codes "no") fields))

-- ---- what a test gives after its first place

pub both_stand : (season : Season) (node : Data) (if_yes if_no : Place) (weeks count : ℕ) (test : ℕ × ℕ) (below above : Written) →
    test_in season count node ≡ Ok test → if_yes weeks count ≡ Ok below → if_no weeks (count + length (branches below)) ≡ Ok above →
    test_node season node if_yes if_no weeks count ≡ Ok (ask test.0 test.1 below above)
unfolding test_node
both_stand season node if_yes if_no weeks count test below above a b c = rw (a, b, c) refl

pub second_breaks : (season : Season) (node : Data) (if_yes if_no : Place) (weeks count : ℕ) (test : ℕ × ℕ) (below : Written) (error : PolicyError) →
    test_in season count node ≡ Ok test → if_yes weeks count ≡ Ok below → Gives {X = Policy} written (Err error) (if_no weeks (count + length (branches below))) →
    Gives {X = Policy} written (Err error) (test_node season node if_yes if_no weeks count)
unfolding test_node
second_breaks season node if_yes if_no weeks count test below Json a b c = rw (a, b, c) refl
second_breaks season node if_yes if_no weeks count test below (Shape branch) a b c = rw (a, b, c) refl
second_breaks season node if_yes if_no weeks count test below (Unknown branch) a b c = rw (a, b, c) refl
second_breaks season node if_yes if_no weeks count test below Memory a b c = tt

-- ---- what a field holds lies less deep

some_same : (a b : Data) → Some a ≡ Some b → a ≡ b
some_same a b e = cc e

by_order_deep : (o : Ordering) (value d : Data) (found : Option Data) (n : ℕ) → (found ≡ Some d → depth d ≤ n) → depth value ≤ n → match_ordering o found (Some value) found ≡ Some d → depth d ≤ n
by_order_deep Less value d found n later here is = later is
by_order_deep Equal value d found n later here is = subst (λ x. depth x ≤ n) (some_same value d is) here
by_order_deep Greater value d found n later here is = later is

member_deep : (name : List ℕ) (fields : Members) (d : Data) → get_member name fields ≡ Some d → depth d ≤ members_depth fields
member_deep name no_members d is = cc is
member_deep name (member key value fields) d is =
    by_order_deep (slice_cmp nat_cmp name key) value d (get_member name fields) (members_depth (member key value fields)) (λ e. let p = member_deep name fields d e in omega (arith, p)) (omega arith) is

pub field_deep : (name : List ℕ) (node d : Data) → Some d ≡ get name node → 3 * depth d + 2 < 3 * depth node
field_deep name null d is = cc is
field_deep name (boolean _) d is = cc is
field_deep name (number _) d is = cc is
field_deep name (string _) d is = cc is
field_deep name (array _) d is = cc is
field_deep name (object fields) d is = let p = member_deep name fields d (sym is) in omega (arith, p)
