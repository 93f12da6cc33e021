-- What is answered of a line that was read.
use Rattle.std.proofs.Common.{◌≡◌, ℕ, ◌+◌, ◌≤◌, Bool, true, false, cond, ◌&&◌, ◌==◌, refl, sym, ap, ◌∙◌, arith, List, [], ◌∷◌, length, map, get_or, Some, None, Option, ℤ, pos, negsuc, ◌≤ℤ◌, nat_le, eqb→eq, leb→le, not}
use Rattle.std.specs.Prelude.{option_map, find, int_le, unsigned_abs, unwrap_or}
use Rattle.std.specs.Bool.{passes}
use Rattle.std.specs.List.{list_all}
use Rattle.std.proofs.lemmas.Bool.{and_from, and_parts}
use Rattle.std.proofs.lemmas.Int.{ints}
use Rattle.std.proofs.lemmas.List.{length-map}
use Rattle.std.proofs.lemmas.Option.{get_or_from_slice_get}
use Rattle.clr_season.specs.Season.{Season, IsSeason}
use Rattle.clr_cert.specs.declared.place.Place.{Place}
use Rattle.clr_cert.specs.declared.place.Place.TheVariants.{Head, Lengths, Path, Mult, Low, High, Value, Joint, Revenue, Bound, Exact, End}
use Rattle.clr_cert.specs.declared.no.NoKind.TheVariants.{Form, Range}
use Rattle.clr_cert.specs.Accepts.{failing, numbers_no, plain_no}
use Rattle.clr_cert.specs.Conditions.{Condition, conditions}
use Rattle.clr_cert.specs.Entries.{most_entry, most_mult}
use Rattle.clr_cert.specs.Lines.{key_text}
use Rattle.clr_cert.specs.Numbers.{most_size, spelled_number, spells_number}
use Rattle.clr_cert.specs.Reading.{are_in_range, count_at, entries_in, fields_after, is_rung, is_within, line_numbers, most_line, most_total, numbers_in, numbers_told, row_of}
use Rattle.clr_check.specs.declared.faults.Fault.{Fault}
use Rattle.clr_check.specs.Faults.{fault_of, first_fault}
use Rattle.clr_check.specs.Fields.{IsLineRead}
use Rattle.clr_check.specs.Standing.{IsLineOf, no_at, plain_fault}
use Rattle.clr_check.proofs.Rows.{row_at}
use Rattle.clr_check.proofs.Told.{at_most_is}
use Rattle.clr_cert.proofs.Among.{row_inside}

some_is : {X : Type 0} {x y : X} → Some x ≡ Some y → x ≡ y
some_is e = cc

-- ---- answers

-- the refusal by the first condition that fails
failing_is : (row : ℕ) (list : List Condition) → failing row list ≡ option_map (no_at row) (first_fault list)
failing_is row list = go (find (λ condition. not condition.holds) list)
  where
    go : (found : Option Condition) → option_map (λ condition. record { row = row + 1; kind = condition.kind; left = condition.left; right = condition.right }) found ≡ option_map (no_at row) (option_map fault_of found)
    go None = refl
    go (Some condition) = refl

-- numbers out of their range
pub range_answer : (season : Season) (lines : List (List ℕ)) (row : ℕ) (place : Place) (numbers : List ℤ) → are_in_range season place numbers ≡ false → numbers_no season lines row place (Some numbers) ≡ option_map (no_at row) (Some (plain_fault Range))
range_answer season lines row place numbers out = ap (λ b. cond b (failing row (conditions season (entries_in season lines) numbers place)) (Some (plain_no row Range))) out

-- numbers in their range, by the first condition that fails
pub fault_answer : (season : Season) (lines : List (List ℕ)) (row : ℕ) (place : Place) (numbers : List ℤ) (found : Option Fault) → are_in_range season place numbers ≡ true → found ≡ first_fault (conditions season (entries_in season lines) numbers place) →
    numbers_no season lines row place (Some numbers) ≡ option_map (no_at row) found
fault_answer season lines row place numbers found inside is =
    ap (λ b. cond b (failing row (conditions season (entries_in season lines) numbers place)) (Some (plain_no row Range))) inside
    ∙ (failing_is row (conditions season (entries_in season lines) numbers place) ∙ ap (option_map (no_at row)) (sym is))

pub no_clash : {X : Type 0} (x : X) → Some x ≡ None → ⊥
no_clash x e = cc

-- ---- what a line tells

counted : (count : ℕ) (fields : Option (List (List ℕ))) (numbers : List ℤ) → numbers_in count fields ≡ Some numbers → length numbers ≡ count
counted count None numbers h = cc
counted count (Some fields) numbers h = go ((length fields == count) && list_all spells_number fields) refl h
  where
    go : (b : Bool) → ((length fields == count) && list_all spells_number fields) ≡ b → cond b (Some (map spelled_number fields)) None ≡ Some numbers → length numbers ≡ count
    go true e h = ap length (sym (some_is h)) ∙ (length-map fields spelled_number ∙ eqb→eq (length fields) count (passes _ (and_parts (length fields == count) (list_all spells_number fields) e).0))
    go false e h = cc

-- a line of its place's form has as many numbers as its place
pub line_counted : (season : Season) (place : Place) (line : List ℕ) (numbers : List ℤ) → line_numbers season place line ≡ Some numbers → length numbers ≡ count_at season place
line_counted season place line numbers h = go (nat_le (length line) most_line) h
  where
    go : (b : Bool) → cond b (numbers_in (count_at season place) (fields_after (key_text season place) line)) None ≡ Some numbers → length numbers ≡ count_at season place
    go true h = counted (count_at season place) (fields_after (key_text season place) line) numbers h
    go false h = cc

-- the line at a place's row tells the place's numbers
pub told_of : (season : Season) (lines : List (List ℕ)) (row : ℕ) (place : Place) (line : List ℕ) (numbers : List ℤ) → IsSeason season → IsLineOf season lines row place line → line_numbers season place line ≡ Some numbers → numbers_told season lines place ≡ numbers
unfolding numbers_told
told_of season lines row place line numbers ok of is =
    ap (λ b. cond b (unwrap_or (line_numbers season place (get_or lines (row_of season place) [])) []) []) (row_inside season place (record { at = row; here = of.here }))
    ∙ (ap (λ n. unwrap_or (line_numbers season place (get_or lines n [])) []) (row_at season row place ok of.here)
    ∙ (ap (λ l. unwrap_or (line_numbers season place l) []) (get_or_from_slice_get lines row line [] of.stands) ∙ ap (λ o. unwrap_or o []) is))

-- ---- a number that is too large to be told is out of every range

le_is : (a b : ℕ) → a ≤ b → nat_le a b ≡ true
le_is a b h = grind (arith, h)

all_larger : (most more : ℕ) (numbers : List ℤ) → most ≤ more → list_all (is_within most) numbers ≡ true → list_all (is_within more) numbers ≡ true
all_larger most more [] le h = refl
all_larger most more (n ∷ numbers) le h =
    let parts = and_parts (is_within most n) (list_all (is_within most) numbers) h in
    let small : unsigned_abs n ≤ most = leb→le _ _ (passes _ parts.0) in
    and_from _ _ (le_is (unsigned_abs n) more (omega (arith, small, le))) (all_larger most more numbers le parts.1)

rung_within : (season : Season) (n : ℤ) → length season.rules.prices ≤ 12 → is_rung season n ≡ true → is_within most_size n ≡ true
rung_within season n few h = let parts = and_parts (int_le (pos 1) n) (int_le n (pos (length season.rules.prices))) h in go n (at_most_is (pos 1) n parts.0) (at_most_is n (pos (length season.rules.prices)) parts.1)
  where
    go : (n : ℤ) → pos 1 ≤ℤ n → n ≤ℤ pos (length season.rules.prices) → is_within most_size n ≡ true
    go (pos a) low high = le_is a most_size (omega (arith, ints, high, few))
    go (negsuc a) low high = absurd (omega (arith, ints))

all_rungs : (season : Season) (numbers : List ℤ) → length season.rules.prices ≤ 12 → list_all (is_rung season) numbers ≡ true → list_all (is_within most_size) numbers ≡ true
all_rungs season [] few h = refl
all_rungs season (n ∷ numbers) few h = let parts = and_parts (is_rung season n) (list_all (is_rung season) numbers) h in and_from _ _ (rung_within season n few parts.0) (all_rungs season numbers few parts.1)

-- the rung of all stores
joint_rung_within : (season : Season) (n : ℤ) (last : Bool) → length season.rules.prices ≤ 12 → cond last (int_le (pos 0) n && int_le n (pos 0)) (is_rung season n) ≡ true → is_within most_size n ≡ true
joint_rung_within season n false few h = rung_within season n few h
joint_rung_within season n true few h = let parts = and_parts (int_le (pos 0) n) (int_le n (pos 0)) h in go n (at_most_is (pos 0) n parts.0) (at_most_is n (pos 0) parts.1)
  where
    go : (n : ℤ) → pos 0 ≤ℤ n → n ≤ℤ pos 0 → is_within most_size n ≡ true
    go (pos a) low high = le_is a most_size (omega (arith, ints, high))
    go (negsuc a) low high = absurd (omega (arith, ints))

none_all : (numbers : List ℤ) → length numbers ≡ 0 → list_all (is_within most_size) numbers ≡ true
none_all [] h = refl
none_all (n ∷ numbers) h = absurd (omega (arith, h))

small_where : (season : Season) (place : Place) (numbers : List ℤ) → IsSeason season → length numbers ≡ count_at season place → are_in_range season place numbers ≡ true → list_all (is_within most_size) numbers ≡ true
small_where season Head numbers ok size h = none_all numbers size
small_where season Lengths numbers ok size h = none_all numbers size
small_where season End numbers ok size h = none_all numbers size
small_where season Path numbers ok size h = all_rungs season numbers ok.rules.ladder.few h
small_where season (Mult week rung) numbers ok size h = all_larger most_mult most_size numbers (omega arith) h
small_where season (Low done store) numbers ok size h = all_larger most_entry most_size numbers (omega arith) h
small_where season (High done store) numbers ok size h = all_larger most_entry most_size numbers (omega arith) h
small_where season (Value done store s) numbers ok size h = all_larger most_entry most_size numbers (omega arith) h
small_where season (Joint done s index) [] ok size h = refl
small_where season (Joint done s index) (n ∷ numbers) ok size h =
    let parts = and_parts (cond (done == season.rules.weeks) (int_le (pos 0) n && int_le n (pos 0)) (is_rung season n)) (list_all (is_within most_entry) numbers) h in
    and_from _ _ (joint_rung_within season n (done == season.rules.weeks) ok.rules.ladder.few parts.0) (all_larger most_entry most_size numbers (omega arith) parts.1)
small_where season Revenue numbers ok size h = all_larger most_total most_size numbers (omega arith) h
small_where season Bound numbers ok size h = all_larger most_total most_size numbers (omega arith) h
small_where season Exact numbers ok size h = all_larger most_total most_size numbers (omega arith) h

-- a line of its place's form with a number that is too large is refused for its range
pub large_answer : (season : Season) (lines : List (List ℕ)) (row : ℕ) (place : Place) (line : List ℕ) (numbers : List ℤ) → IsSeason season → line_numbers season place line ≡ Some numbers → list_all (is_within most_size) numbers ≡ false →
    numbers_no season lines row place (line_numbers season place line) ≡ option_map (no_at row) (Some (plain_fault Range))
large_answer season lines row place line numbers ok is large = ap (numbers_no season lines row place) is ∙ range_answer season lines row place numbers (go (are_in_range season place numbers) refl)
  where
    go : (b : Bool) → are_in_range season place numbers ≡ b → are_in_range season place numbers ≡ false
    go false e = e
    go true e = let small : list_all (is_within most_size) numbers ≡ true = small_where season place numbers ok (line_counted season place line numbers is) e in let clash : true ≡ false = sym small ∙ large in cc

-- a line that hasn't its place's form
pub form_answer : (season : Season) (lines : List (List ℕ)) (row : ℕ) (place : Place) (line : List ℕ) → line_numbers season place line ≡ None → numbers_no season lines row place (line_numbers season place line) ≡ option_map (no_at row) (Some (plain_fault Form))
form_answer season lines row place line is = ap (numbers_no season lines row place) is

-- the numbers of a line that was read, none of them too large
pub read_form : (season : Season) (place : Place) (line : List ℕ) (read : List ℤ) → IsLineRead season place line true read → line_numbers season place line ≡ Some read
read_form season place line read h = h.form ∙ ap Some (sym (h.all refl))
