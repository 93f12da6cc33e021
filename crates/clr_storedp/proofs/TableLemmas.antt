-- A table's entries, and the rows that they are made of.
use Rattle.std.proofs.Common.{◌≡◌, ℕ, suc, ◌+◌, ◌-◌, ◌*◌, ◌<◌, ◌≤◌, ◌==◌, ◌&&◌, ◌||◌, Bool, true, false, cond, ℤ, pos, List, [], ◌∷◌, length, map, get_or, slice_get, Option, Some, refl, ap, ap₂, sym, ◌∙◌, subst, subst₂, arith, nat_lt, ◌++◌, inl, inr, length-append}
use mathlib.Core.Path.{fun_ext}
use Rattle.std.proofs.lemmas.Bool.{and_parts, cases_lt, eqb-true, ltb-true, ltb-false}
use Rattle.std.specs.List.{find, list_any}
use Rattle.std.specs.Option.{option_map_or}
use Rattle.clr_num.specs.Lists.{numbers}
use Rattle.clr_rules.specs.declared.season_rules.Summary.{Summary}
use Rattle.clr_rules.specs.Rules.{IsRulebook, is_live, summary}
use Rattle.clr_rules.specs.LiveSummaries.{IsAmong, at_week, live_pairs, same_summary}
use Rattle.clr_rules.proofs.LiveLaw.{live_pairs_lem}
use Rattle.clr_rules.proofs.LiveLemmas.{live-length}
use Rattle.clr_rules.proofs.LiveLists.{same_is}
use Rattle.clr_season.specs.Season.{Season, store_at}
use Rattle.clr_model.specs.StoreValue.{Multipliers, store_choice_at}
use Rattle.clr_storedp.specs.BySummary.{summary_choice, summary_value}
use Rattle.clr_rows.specs.Rows.{IsInside, WeekRows, place_of, row_at, week_at}
use Rattle.clr_storedp.specs.Rows.{entries_of, entry_of}
use Rattle.clr_storedp.specs.Tables.{Entry, IsTableOf, choices_of, stocks, table_pairs, values_of}
use Rattle.clr_rows.specs.Summaries.{live_week}
use Rattle.clr_storedp.specs.Weeks.{AreWeeks, IsWeek}
use Rattle.clr_rows.proofs.Lists.{each_more}
use Rattle.clr_rows.proofs.Places.{among_any, is_pair, place_found, row_is, row_none}
use Rattle.clr_storedp.proofs.Prefixes.{choice_at_prefix, value_at_prefix}

-- ---- entries by pair

pairs_back : (all : List (ℕ × Summary)) (width : ℕ) (weeks : List WeekRows) (xs : List (ℕ × Summary)) → table_pairs (map (entry_of all width weeks) xs) ≡ xs
pairs_back all width weeks [] = refl
pairs_back all width weeks ((done, s) ∷ xs) = ap (λ t. (done, s) ∷ t) (pairs_back all width weeks xs)

found_entry : (all : List (ℕ × Summary)) (width : ℕ) (weeks : List WeekRows) (xs : List (ℕ × Summary)) (done : ℕ) (s : Summary) → list_any (is_pair done s) xs ≡ true →
    find (λ entry. (entry.done == done) && same_summary entry.summary s) (map (entry_of all width weeks) xs) ≡ Some (entry_of all width weeks (done, s))
found_entry all width weeks [] done s h = cc
found_entry all width weeks ((d, t) ∷ xs) done s h = by_test ((d == done) && same_summary t s) refl (found_entry all width weeks xs done s)
  where
    by_test : (b : Bool) → ((d == done) && same_summary t s) ≡ b → (list_any (is_pair done s) xs ≡ true → find (λ entry. (entry.done == done) && same_summary entry.summary s) (map (entry_of all width weeks) xs) ≡ Some (entry_of all width weeks (done, s))) →
        cond b (Some (entry_of all width weeks (d, t))) (find (λ entry. (entry.done == done) && same_summary entry.summary s) (map (entry_of all width weeks) xs)) ≡ Some (entry_of all width weeks (done, s))
    by_test true e rest = let parts = and_parts (d == done) (same_summary t s) e in ap₂ (λ n u. Some (entry_of all width weeks (n, u))) (eqb-true d done parts.0) (same_is t s parts.1)
    by_test false e rest = rest (ap (λ b. b || list_any (is_pair done s) xs) (sym e) ∙ h)

pub entry_values : (pairs : List (ℕ × Summary)) (width : ℕ) (weeks : List WeekRows) (done : ℕ) (s : Summary) → IsAmong pairs done s → values_of (entries_of pairs width weeks) done s ≡ row_at width (week_at weeks done).values (place_of (at_week done pairs) s)
entry_values pairs width weeks done s among = ap (λ (o : Option Entry). option_map_or (λ e. e.values) o []) (found_entry pairs width weeks pairs done s (among_any pairs done s among))

pub entry_choices : (pairs : List (ℕ × Summary)) (width : ℕ) (weeks : List WeekRows) (done : ℕ) (s : Summary) → IsAmong pairs done s → choices_of (entries_of pairs width weeks) done s ≡ row_at width (week_at weeks done).choices (place_of (at_week done pairs) s)
entry_choices pairs width weeks done s among = ap (λ (o : Option Entry). option_map_or (λ e. e.choices) o []) (found_entry pairs width weeks pairs done s (among_any pairs done s among))

-- what a table's pair gives: it is a pair of the live summaries that the table keeps
pub among_kept : (pairs : List (ℕ × Summary)) (width : ℕ) (weeks : List WeekRows) (table : List Entry) (done : ℕ) (s : Summary) → entries_of pairs width weeks ≡ table → IsAmong (table_pairs table) done s → IsAmong pairs done s
among_kept pairs width weeks table done s e h = subst (λ (ps : List (ℕ × Summary)). IsAmong ps done s) (ap table_pairs (sym e) ∙ pairs_back pairs width weeks pairs) h

-- ---- the weeks of a table

module _ (div : ℤ → ℕ → ℤ) (m : Multipliers) (season : Season) (store width : ℕ) (pairs : List (ℕ × Summary)) (weeks : List WeekRows) (book : IsRulebook season.rules) (is : pairs ≡ live_pairs season.rules) (any : is_live season.rules [] ≡ true)
    (width_is : width ≡ suc (store_at season store).units) (are : AreWeeks div m season store width (suc season.rules.weeks) weeks) where
  week_is_at : (done : ℕ) → done ≤ season.rules.weeks → IsWeek div m season store width done (week_at weeks done)
  week_is_at done early =
      let at : season.rules.weeks - done ≡ length weeks - 1 - done = omega (arith, are.size) in
      let back : season.rules.weeks - (season.rules.weeks - done) ≡ done = omega arith in
      subst₂ (λ n k. IsWeek div m season store width n (get_or weeks k (record { values = []; choices = [] }))) back at (are.each (season.rules.weeks - done) (omega arith))

  listed : (done : ℕ) → live_week season.rules done ≡ at_week done pairs
  listed done = ap (at_week done) (sym is)

  pub inside_is : IsInside pairs width weeks
  inside_is = record {
    some = subst (λ (ps : List (ℕ × Summary)). 0 < length ps) (sym is) ((live_pairs_lem season.rules book).some.1 any);
    weeks_done = λ done s among. below done (((live_pairs_lem season.rules book).pairs done s).0 (subst (λ (ps : List (ℕ × Summary)). IsAmong ps done s) is among)).0;
    values = λ done lt. (week_is_at done (early done lt)).values.size ∙ ap (λ (l : List Summary). length l * width) (listed done);
    choices = λ done lt. ((week_is_at done (early done (omega arith))).choices (omega (arith, lt, are.size))).size ∙ ap (λ (l : List Summary). length l * width) (listed done);
    last = λ done e. (week_is_at done (omega (arith, e, are.size))).last (omega (arith, e, are.size));
    small = λ done lt. (week_is_at done (early done lt)).small;
  }
    where
      early : (done : ℕ) → done < length weeks → done ≤ season.rules.weeks
      early done lt = omega (arith, lt, are.size)

      below : (done : ℕ) → done ≤ season.rules.weeks → done < length weeks
      below done le = omega (arith, le, are.size)

  among_live : (prefix : List ℕ) → is_live season.rules prefix ≡ true → IsAmong pairs (length prefix) (summary season.rules prefix)
  among_live prefix live =
      subst (λ (ps : List (ℕ × Summary)). IsAmong ps (length prefix) (summary season.rules prefix)) (sym is)
      (((live_pairs_lem season.rules book).pairs (length prefix) (summary season.rules prefix)).1 (live-length season.rules prefix live, (prefix, refl, live, refl)))

  at_place : (prefix : List ℕ) → is_live season.rules prefix ≡ true → slice_get (live_week season.rules (length prefix)) (place_of (at_week (length prefix) pairs) (summary season.rules prefix)) ≡ Some (summary season.rules prefix)
  at_place prefix live =
      ap (λ (l : List Summary). slice_get l (place_of (at_week (length prefix) pairs) (summary season.rules prefix))) (listed (length prefix))
      ∙ place_found (at_week (length prefix) pairs) (summary season.rules prefix) (among_live prefix live)

  pub table_is : IsTableOf div m season store (entries_of pairs width weeks)
  table_is = record {
    pairs = pairs_back pairs width weeks pairs ∙ is;
    values = λ prefix live.
        entry_values pairs width weeks (length prefix) (summary season.rules prefix) (among_live prefix live)
        ∙ (row_is (pos 0) width (live_week season.rules (length prefix)) (summary_value div m season store (length prefix)) (week_at weeks (length prefix)).values (place_of (at_week (length prefix) pairs) (summary season.rules prefix)) (summary season.rules prefix)
        (week_is_at (length prefix) (live-length season.rules prefix live)).values (at_place prefix live)
        ∙ ap₂ (λ (f : ℕ → ℤ) n. map f (numbers 0 n)) (fun_ext (λ x. value_at_prefix div m season store prefix x live)) width_is);
    choices = λ prefix live.
        entry_choices pairs width weeks (length prefix) (summary season.rules prefix) (among_live prefix live)
        ∙ chosen prefix live (nat_lt (length prefix) season.rules.weeks) refl;
  }
    where
      chosen : (prefix : List ℕ) → is_live season.rules prefix ≡ true → (b : Bool) → nat_lt (length prefix) season.rules.weeks ≡ b →
          row_at width (week_at weeks (length prefix)).choices (place_of (at_week (length prefix) pairs) (summary season.rules prefix)) ≡ cond b (map (store_choice_at div m season store prefix) (stocks season store)) []
      chosen prefix live true e =
          let early : length prefix < season.rules.weeks = ltb-true (length prefix) season.rules.weeks e in
          row_is 0 width (live_week season.rules (length prefix)) (summary_choice div m season store (length prefix)) (week_at weeks (length prefix)).choices (place_of (at_week (length prefix) pairs) (summary season.rules prefix)) (summary season.rules prefix)
          ((week_is_at (length prefix) (live-length season.rules prefix live)).choices early) (at_place prefix live)
          ∙ ap₂ (λ (f : ℕ → ℕ) n. map f (numbers 0 n)) (fun_ext (λ x. choice_at_prefix div m season store prefix x live early)) width_is
      chosen prefix live false e =
          let late : season.rules.weeks ≤ length prefix = ltb-false (length prefix) season.rules.weeks e in
          let whole : length prefix ≡ season.rules.weeks = omega (arith, late, live-length season.rules prefix live) in
          ap (λ (items : List ℕ). row_at width items (place_of (at_week (length prefix) pairs) (summary season.rules prefix))) ((week_is_at (length prefix) (live-length season.rules prefix live)).last whole)
          ∙ row_none width (place_of (at_week (length prefix) pairs) (summary season.rules prefix) * width)

-- ---- one row of a table

pub to_come : (pairs : List (ℕ × Summary)) (width : ℕ) (weeks : List WeekRows) (table : List Entry) (done : ℕ) (s : Summary) → entries_of pairs width weeks ≡ table → IsAmong pairs done s → IsInside pairs width weeks → 0 < length (choices_of table done s) → suc done < length weeks
to_come pairs width weeks table done s is among inside some = elim (cases_lt (suc done) (length weeks)) [
  | inl early ↦ early
  | inr late ↦ absurd (none (omega (arith, late, inside.weeks_done done s among)))
]
  where
    none : suc done ≡ length weeks → ⊥
    none e =
        let empty : choices_of table done s ≡ [] =
        ap (λ (t : List Entry). choices_of t done s) (sym is) ∙ (entry_choices pairs width weeks done s among ∙ (ap (λ (items : List ℕ). row_at width items (place_of (at_week done pairs) s)) (inside.last done e) ∙ row_none width (place_of (at_week done pairs) s * width))) in
        let size : length (choices_of table done s) ≡ 0 = ap length empty in
        omega (arith, size, some)

-- ---- one week more

pub weeks_more : (div : ℤ → ℕ → ℤ) (m : Multipliers) (season : Season) (store width count : ℕ) (weeks : List WeekRows) (week : WeekRows) → AreWeeks div m season store width count weeks → IsWeek div m season store width (season.rules.weeks - count) week →
    AreWeeks div m season store width (count + 1) (weeks ++ week ∷ [])
weeks_more div m season store width count weeks week are here = record {
  size = length-append weeks (week ∷ []) ∙ ap (λ n. n + 1) are.size;
  each = each_more (λ k. IsWeek div m season store width (season.rules.weeks - k)) weeks week (record { values = []; choices = [] }) count are.size are.each here;
}
