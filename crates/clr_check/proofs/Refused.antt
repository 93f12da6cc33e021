-- A certificate has no first fault exactly where it is accepted.
use Rattle.std.proofs.Common.{◌≡◌, ℕ, ◌+◌, ◌<◌, ◌≤◌, Bool, true, false, not, cond, refl, sym, ap, ◌∙◌, arith, suc, zero, List, [], ◌∷◌, length, get_or, slice_get, Some, None, Option, IsTrue, ℤ, nat_lt}
use Rattle.std.specs.Prelude.{option_map, find}
use Rattle.std.specs.Option.{option_or}
use Rattle.std.specs.List.{AllByRecursion}
use Rattle.std.proofs.lemmas.Option.{slice_get-get_or, slice_get_past, slice_get_within}
use Rattle.clr_num.specs.Lists.{numbers}
use Rattle.clr_season.specs.Season.{Season}
use Rattle.clr_cert.specs.declared.place.Place.{Place}
use Rattle.clr_cert.specs.declared.place.Place.TheVariants.{Head}
use Rattle.clr_cert.specs.declared.no.NoKind.TheVariants.{Range, Short, Extra}
use Rattle.clr_cert.specs.Accepts.{Accepts, IsAccepted, end_no, failing, first_no, first_some, line_no, lines_no, numbers_no, place_no, plain_no}
use Rattle.clr_cert.specs.Conditions.{Condition, conditions}
use Rattle.clr_cert.specs.Places.{places}
use Rattle.clr_cert.specs.Reading.{are_in_range, ended_lines, entries_in, line_numbers, unended}
use Rattle.clr_check.specs.Laws.{AcceptedOrRefused}

-- ---- the first answer of some items

pub or_none : {X : Type 0} (a b : Option X) → option_or a b ≡ None → (a ≡ None) × (b ≡ None)
or_none None b h = (refl, h)
or_none (Some x) b h = cc

pub none_or : {X : Type 0} (a b : Option X) → a ≡ None → b ≡ None → option_or a b ≡ None
none_or None b p q = q
none_or (Some x) b p q = cc

pub first_none : {Y : Type 0} (f : ℕ → Option Y) (from count : ℕ) → first_some f (numbers from count) ≡ None → (n : ℕ) → from ≤ n → n < from + count → f n ≡ None
first_none f from zero h n low high = absurd (omega arith)
first_none f from (suc count) h n low high =
    let parts = or_none (f from) (first_some f (numbers (suc from) count)) h in
    first_or_later n low parts.0 (λ l. first_none f (suc from) count parts.1 n l (omega arith))
  where
    first_or_later : (n : ℕ) → from ≤ n → f from ≡ None → (suc from ≤ n → f n ≡ None) → f n ≡ None
    first_or_later n low here later = grind (arith, here, later)

pub none_first : {Y : Type 0} (f : ℕ → Option Y) (from count : ℕ) → ((n : ℕ) → from ≤ n → n < from + count → f n ≡ None) → first_some f (numbers from count) ≡ None
none_first f from zero h = refl
none_first f from (suc count) h =
    none_or (f from) (first_some f (numbers (suc from) count)) (h from (omega arith) (omega arith)) (none_first f (suc from) count (λ n low high. h n (omega arith) (omega arith)))

-- ---- conditions

pub failing_none : (row : ℕ) (list : List Condition) → failing row list ≡ None → AllByRecursion (λ condition. IsTrue condition.holds) list
failing_none row [] h = tt
failing_none row (condition ∷ list) h = go condition.holds refl (failing_none row list)
  where
    go : (b : Bool) → condition.holds ≡ b → (failing row list ≡ None → AllByRecursion (λ condition. IsTrue condition.holds) list) → AllByRecursion (λ condition. IsTrue condition.holds) (condition ∷ list)
    go true e later = (e, later (sym (ap (λ b. option_map (λ c. record { row = row + 1; kind = c.kind; left = c.left; right = c.right }) (cond (not b) (Some condition) (find (λ c. not c.holds) list))) e) ∙ h))
    go false e later = let clash : Some (record { row = row + 1; kind = condition.kind; left = condition.left; right = condition.right }) ≡ None = sym (ap (λ b. option_map (λ c. record { row = row + 1; kind = c.kind; left = c.left; right = c.right }) (cond (not b) (Some condition) (find (λ c. not c.holds) list))) e) ∙ h in cc

pub none_failing : (row : ℕ) (list : List Condition) → AllByRecursion (λ condition. IsTrue condition.holds) list → failing row list ≡ None
none_failing row [] all = refl
none_failing row (condition ∷ list) all =
    ap (λ b. option_map (λ c. record { row = row + 1; kind = c.kind; left = c.left; right = c.right }) (cond (not b) (Some condition) (find (λ c. not c.holds) list))) all.0 ∙ none_failing row list all.1

-- ---- a line

pub accepted_from : (season : Season) (lines : List (List ℕ)) (row : ℕ) (place : Place) (line : List ℕ) (read : Option (List ℤ)) → line_numbers season place line ≡ read → numbers_no season lines row place read ≡ None → IsAccepted season lines place line
accepted_from season lines row place line None is h = cc
accepted_from season lines row place line (Some list) is h = go (are_in_range season place list) refl
  where
    go : (b : Bool) → are_in_range season place list ≡ b → IsAccepted season lines place line
    go true e = record {
      numbers = list;
      form = is;
      range = e;
      conditions = failing_none row (conditions season (entries_in season lines) list place) (sym (ap (λ b. cond b (failing row (conditions season (entries_in season lines) list place)) (Some (plain_no row Range))) e) ∙ h);
    }
    go false e = let clash : Some (plain_no row Range) ≡ None = sym (ap (λ b. cond b (failing row (conditions season (entries_in season lines) list place)) (Some (plain_no row Range))) e) ∙ h in cc

pub none_from : (season : Season) (lines : List (List ℕ)) (row : ℕ) (place : Place) (line : List ℕ) → IsAccepted season lines place line → numbers_no season lines row place (line_numbers season place line) ≡ None
none_from season lines row place line h =
    ap (numbers_no season lines row place) h.form
    ∙ (ap (λ b. cond b (failing row (conditions season (entries_in season lines) h.numbers place)) (Some (plain_no row Range))) h.range
    ∙ none_failing row (conditions season (entries_in season lines) h.numbers place) h.conditions)

pub line_at : (season : Season) (lines : List (List ℕ)) (row : ℕ) (place : Place) → slice_get (places season) row ≡ Some place →
    line_no season lines row ≡ numbers_no season lines row place (line_numbers season place (get_or lines row []))
unfolding line_no
line_at season lines row place e = ap (place_no season lines row) e

pub line_past : (season : Season) (lines : List (List ℕ)) (row : ℕ) → length (places season) ≤ row → line_no season lines row ≡ Some (plain_no row Extra)
unfolding line_no
line_past season lines row e = ap (place_no season lines row) (slice_get_past (places season) row e)

-- ---- the end

at_end : (season : Season) (count : ℕ) (rest : List ℕ) → end_no season count rest ≡ None → (rest ≡ []) × (length (places season) ≤ count)
at_end season count [] h = (refl, go (nat_lt count (length (places season))) refl)
  where
    go : (b : Bool) → nat_lt count (length (places season)) ≡ b → length (places season) ≤ count
    go true e = let clash : Some (plain_no count Short) ≡ None = sym (ap (λ b. cond b (Some (plain_no count Short)) None) e) ∙ h in cc
    go false e = grind arith
at_end season count (byte ∷ rest) h = cc

end_none : (season : Season) (count : ℕ) → count ≡ length (places season) → end_no season count [] ≡ None
end_none season count e =
    let past : nat_lt count (length (places season)) ≡ false = grind arith in
    ap (λ b. cond b (Some (plain_no count Short)) None) past

-- ---- the law

accepts_from : (season : Season) (bytes : List ℕ) → first_no season bytes ≡ None → Accepts season bytes
unfolding first_no
accepts_from season bytes h =
    let parts = or_none (lines_no season (ended_lines bytes)) (end_no season (length (ended_lines bytes)) (unended bytes)) h in
    let last = at_end season (length (ended_lines bytes)) (unended bytes) parts.1 in
    let each : (row : ℕ) → row < length (ended_lines bytes) → line_no season (ended_lines bytes) row ≡ None = λ row less. first_none (line_no season (ended_lines bytes)) 0 (length (ended_lines bytes)) parts.0 row (omega arith) (omega arith) in
    record {
      ended = last.0;
      count = count_is last.1 each;
      each = λ row place here.
          accepted_from season (ended_lines bytes) row place (get_or (ended_lines bytes) row []) (line_numbers season place (get_or (ended_lines bytes) row [])) refl
          (sym (line_at season (ended_lines bytes) row place here) ∙ each row (below row place here last.1));
    }
  where
    below : (row : ℕ) (place : Place) → slice_get (places season) row ≡ Some place → length (places season) ≤ length (ended_lines bytes) → row < length (ended_lines bytes)
    below row place here most = let within : row < length (places season) = slice_get_within (places season) row place here in omega arith

    no_more : (length (places season) < length (ended_lines bytes) → ⊥) → length (places season) ≤ length (ended_lines bytes) → length (ended_lines bytes) ≡ length (places season)
    no_more n h = grind arith

    count_is : length (places season) ≤ length (ended_lines bytes) → ((row : ℕ) → row < length (ended_lines bytes) → line_no season (ended_lines bytes) row ≡ None) → length (ended_lines bytes) ≡ length (places season)
    count_is most each = no_more (λ more. let clash : Some (plain_no (length (places season)) Extra) ≡ None = sym (line_past season (ended_lines bytes) (length (places season)) (omega arith)) ∙ each (length (places season)) more in cc) most

none_where : (season : Season) (bytes : List ℕ) → Accepts season bytes → first_no season bytes ≡ None
unfolding first_no
none_where season bytes h =
    none_or (lines_no season (ended_lines bytes)) (end_no season (length (ended_lines bytes)) (unended bytes))
    (none_first (line_no season (ended_lines bytes)) 0 (length (ended_lines bytes))
    (λ row low less. let within : row < length (places season) = (let c : length (ended_lines bytes) ≡ length (places season) = h.count in omega arith) in
    let here : slice_get (places season) row ≡ Some (get_or (places season) row Head) = slice_get-get_or (places season) row Head within in
    line_at season (ended_lines bytes) row (get_or (places season) row Head) here ∙ none_from season (ended_lines bytes) row (get_or (places season) row Head) (get_or (ended_lines bytes) row []) (h.each row (get_or (places season) row Head) here)))
    (ap (end_no season (length (ended_lines bytes))) h.ended ∙ end_none season (length (ended_lines bytes)) h.count)

pub accepted_or_refused_lem : AcceptedOrRefused
accepted_or_refused_lem season bytes = (accepts_from season bytes, none_where season bytes)
