-- A table's entries, and the rows that they are made of.
use Rattle.std.proofs.Common.{◌≡◌, ◌⊎◌, ℕ, zero, suc, ◌+◌, ◌-◌, ◌*◌, ◌<◌, ◌≤◌, min, ◌==◌, ◌&&◌, ◌||◌, Bool, true, false, cond, ℤ, pos, List, [], ◌∷◌, length, map, get_or, slice_get, Option, Some, refl, ap, ap₂, sym, ◌∙◌, subst, subst₂, arith, nat_lt, nat_eq, inl, inr}
use mathlib.Core.Path.{fun_ext}
use Rattle.std.proofs.lemmas.Bool.{and_parts, cases_lt, eqb-true, ltb-true, ltb-false}
use Rattle.std.proofs.lemmas.Slice.Zip.{get_or-zip, length-zip}
use Rattle.std.specs.Cmp.Lexicographic.{pointwise, same_text}
use Rattle.std.specs.List.{filter, find, list_any, zip}
use Rattle.std.specs.Option.{option_map_or}
use Rattle.clr_num.specs.Lists.{numbers}
use Rattle.clr_num.specs.Rounding.{ceil, floor}
use Rattle.clr_rules.specs.declared.season_rules.Summary.{Summary}
use Rattle.clr_rules.specs.Rules.{IsRulebook, is_live, summary}
use Rattle.clr_rules.specs.LiveSummaries.{IsAmong, at_week, live_pairs, same_summary}
use Rattle.clr_rules.proofs.LiveLaw.{live_pairs_lem}
use Rattle.clr_rules.proofs.LiveLemmas.{live-length}
use Rattle.clr_rules.proofs.LiveLists.{same_is, same_self}
use Rattle.clr_season.specs.Season.{Season}
use Rattle.clr_average.specs.Average.{IsWithin}
use Rattle.clr_model.specs.JointValue.{joint_low_at, joint_rung_at, joint_top_at, joint_value_at}
use Rattle.clr_model.specs.Revenue.{full_stocks}
use Rattle.clr_rows.specs.Rows.{IsInside, WeekRows, place_of, row_at, week_at}
use Rattle.clr_rows.specs.Summaries.{live_week}
use Rattle.clr_rows.proofs.Lists.{got_inside, length-row_at}
use Rattle.clr_rows.proofs.Places.{among_any, is_pair, length-numbers, place_found, row_inside, row_is, row_none, row_small}
use Rattle.clr_joint.specs.BySummary.{by_place, summary_choice, summary_value}
use Rattle.clr_joint.specs.Rows.{IsKept, entries_of, entry_of}
use Rattle.clr_model.specs.Stocks.{all_stocks, lists_of, place_in, stocks_at}
use Rattle.clr_joint.specs.Tables.{Entry, HasStocks, IsJointOf, at_stocks, choices_of, is_at, opening, table_pairs, values_of}
use Rattle.clr_joint.specs.Weeks.{AreWeeks, IsWeek}
use Rattle.clr_joint.proofs.Grid.{all_stocks_are, length-stocks_at, place_back}
use Rattle.clr_joint.proofs.Limits.{lists_some}
use Rattle.clr_joint.proofs.Values.{choice_at_prefix, value_at_prefix}

-- ---- entries by pair

pairs_back : (all : List (ℕ × Summary)) (units : List ℕ) (width : ℕ) (lows tops : List WeekRows) (xs : List (ℕ × Summary)) → table_pairs (map (entry_of all units width lows tops) xs) ≡ xs
pairs_back all units width lows tops [] = refl
pairs_back all units width lows tops ((done, s) ∷ xs) = ap (λ t. (done, s) ∷ t) (pairs_back all units width lows tops xs)

found_entry : (all : List (ℕ × Summary)) (units : List ℕ) (width : ℕ) (lows tops : List WeekRows) (xs : List (ℕ × Summary)) (done : ℕ) (s : Summary) → list_any (is_pair done s) xs ≡ true →
    find (λ entry. (entry.done == done) && same_summary entry.summary s) (map (entry_of all units width lows tops) xs) ≡ Some (entry_of all units width lows tops (done, s))
found_entry all units width lows tops [] done s h = cc
found_entry all units width lows tops ((d, t) ∷ xs) done s h = by_test ((d == done) && same_summary t s) refl (found_entry all units width lows tops xs done s)
  where
    by_test : (b : Bool) → ((d == done) && same_summary t s) ≡ b → (list_any (is_pair done s) xs ≡ true → find (λ entry. (entry.done == done) && same_summary entry.summary s) (map (entry_of all units width lows tops) xs) ≡ Some (entry_of all units width lows tops (done, s))) →
        cond b (Some (entry_of all units width lows tops (d, t))) (find (λ entry. (entry.done == done) && same_summary entry.summary s) (map (entry_of all units width lows tops) xs)) ≡ Some (entry_of all units width lows tops (done, s))
    by_test true e rest = let parts = and_parts (d == done) (same_summary t s) e in ap₂ (λ n u. Some (entry_of all units width lows tops (n, u))) (eqb-true d done parts.0) (same_is t s parts.1)
    by_test false e rest = rest (ap (λ b. b || list_any (is_pair done s) xs) (sym e) ∙ h)

pub entry_values : (pairs : List (ℕ × Summary)) (units : List ℕ) (width : ℕ) (lows tops : List WeekRows) (done : ℕ) (s : Summary) → IsAmong pairs done s →
    values_of (entries_of pairs units width lows tops) done s ≡ zip (all_stocks units) (zip (row_at width (week_at lows done).values (place_of (at_week done pairs) s)) (row_at width (week_at tops done).values (place_of (at_week done pairs) s)))
entry_values pairs units width lows tops done s among = ap (λ (o : Option Entry). option_map_or (λ e. e.values) o []) (found_entry pairs units width lows tops pairs done s (among_any pairs done s among))

pub entry_choices : (pairs : List (ℕ × Summary)) (units : List ℕ) (width : ℕ) (lows tops : List WeekRows) (done : ℕ) (s : Summary) → IsAmong pairs done s →
    choices_of (entries_of pairs units width lows tops) done s ≡ zip (all_stocks units) (row_at width (week_at lows done).choices (place_of (at_week done pairs) s))
entry_choices pairs units width lows tops done s among = ap (λ (o : Option Entry). option_map_or (λ e. e.choices) o []) (found_entry pairs units width lows tops pairs done s (among_any pairs done s among))

-- what a table's pair gives: it is a pair of the live summaries that the table keeps
pub among_kept : (pairs : List (ℕ × Summary)) (units : List ℕ) (width : ℕ) (lows tops : List WeekRows) (table : List Entry) (done : ℕ) (s : Summary) → entries_of pairs units width lows tops ≡ table → IsAmong (table_pairs table) done s → IsAmong pairs done s
among_kept pairs units width lows tops table done s e h = subst (λ (ps : List (ℕ × Summary)). IsAmong ps done s) (ap table_pairs (sym e) ∙ pairs_back pairs units width lows tops pairs) h

-- ---- what stands with a list of stocks

zip_maps : {X Y Z : Type 0} (f : Z → X) (g : Z → Y) (xs : List Z) → zip (map f xs) (map g xs) ≡ map (λ x. (f x, g x)) xs
zip_maps f g [] = refl
zip_maps f g (x ∷ xs) = ap (λ t. (f x, g x) ∷ t) (zip_maps f g xs)

-- where the stocks stand in a row
pub record IsFound {X : Type 0} (units : List ℕ) (from : ℕ) (row : List X) (stocks : List ℕ) (item : X) (default : X) (k : ℕ) : Type 0 where
  pub inside : k < length row
  pub is : stocks_at units (from + k) ≡ stocks
  pub item_is : item ≡ get_or row k default

found_in : {X : Type 0} (units stocks : List ℕ) (from count : ℕ) (row : List X) (d : X) → length row ≡ count → HasStocks (zip (map (stocks_at units) (numbers from count)) row) stocks →
    (k : ℕ) × IsFound units from row stocks (at_stocks (zip (map (stocks_at units) (numbers from count)) row) stocks d) d k
found_in units stocks from zero row d size has = cc
found_in units stocks from (suc count) [] d size has = cc
found_in units stocks from (suc count) (x ∷ row) d size has = by_test (pointwise nat_eq (stocks_at units from) stocks) refl (found_in units stocks (suc from) count row d (less (length row) count size))
  where
    less : (a b : ℕ) → suc a ≡ suc b → a ≡ b
    less a b e = omega arith

    by_test : (b : Bool) → pointwise nat_eq (stocks_at units from) stocks ≡ b →
        (HasStocks (zip (map (stocks_at units) (numbers (suc from) count)) row) stocks → (k : ℕ) × IsFound units (suc from) row stocks (at_stocks (zip (map (stocks_at units) (numbers (suc from) count)) row) stocks d) d k) →
        (k : ℕ) × IsFound units from (x ∷ row) stocks (option_map_or (λ item. item.1) (cond b (Some (stocks_at units from, x)) (find (is_at stocks) (zip (map (stocks_at units) (numbers (suc from) count)) row))) d) d k
    by_test true e rest =
        let none : from + 0 ≡ from = omega arith in
        (0, record { inside = first (length row); is = ap (stocks_at units) none ∙ same_text (stocks_at units from) stocks (sym e); item_is = refl })
      where
        first : (n : ℕ) → 0 < suc n
        first n = omega arith
    by_test false e rest =
        let (k, found) = rest (ap (λ b. b || list_any (is_at stocks) (zip (map (stocks_at units) (numbers (suc from) count)) row)) (sym e) ∙ has) in
        let moved : from + suc k ≡ suc from + k = omega arith in
        (suc k, record { inside = next k (length row) found.inside; is = ap (stocks_at units) moved ∙ found.is; item_is = found.item_is })
      where
        next : (a b : ℕ) → a < b → suc a < suc b
        next a b le = omega arith

-- they stand at their place
pub record StandsAt {X : Type 0} (units : List ℕ) (row : List X) (stocks : List ℕ) (item : X) (default : X) : Type 0 where
  pub inside : place_in units stocks < length row
  pub long : length stocks ≡ length units
  pub item_is : item ≡ get_or row (place_in units stocks) default

pub found_at : {X : Type 0} (units stocks : List ℕ) (row : List X) (d : X) → length row ≡ lists_of units → HasStocks (zip (all_stocks units) row) stocks → StandsAt units row stocks (at_stocks (zip (all_stocks units) row) stocks d) d
found_at units stocks row d size has =
    let (k, found) = found_in units stocks 0 (lists_of units) row d size (subst (λ (lists : List (List ℕ)). HasStocks (zip lists row) stocks) (all_stocks_are units) has) in
    let none : 0 + k ≡ k = omega arith in
    let is : stocks_at units k ≡ stocks = ap (stocks_at units) (sym none) ∙ found.is in
    let place : k ≡ place_in units stocks = sym (place_back units k (subst (λ n. k < n) size found.inside)) ∙ ap (place_in units) is in
    record {
      inside = subst (λ n. n < length row) place found.inside;
      long = ap length (sym is) ∙ length-stocks_at units k;
      item_is = ap (λ (lists : List (List ℕ)). at_stocks (zip lists row) stocks d) (all_stocks_are units) ∙ (found.item_is ∙ ap (λ n. get_or row n d) place);
    }

-- ---- the weeks of a table

module _ (div : ℤ → ℕ → ℤ) (season : Season) (pairs : List (ℕ × Summary)) (weeks : List WeekRows) (book : IsRulebook season.rules) (is : pairs ≡ live_pairs season.rules) (any : is_live season.rules [] ≡ true) (are : AreWeeks div season (suc season.rules.weeks) weeks) where
  pub week_is_at : (done : ℕ) → done ≤ season.rules.weeks → IsWeek div season done (week_at weeks done)
  week_is_at done early =
      let at : season.rules.weeks - done ≡ length weeks - 1 - done = omega (arith, are.size) in
      let back : season.rules.weeks - (season.rules.weeks - done) ≡ done = omega arith in
      subst₂ (λ n k. IsWeek div season n (get_or weeks k (record { values = []; choices = [] }))) back at (are.each (season.rules.weeks - done) (omega arith))

  listed : (done : ℕ) → live_week season.rules done ≡ at_week done pairs
  listed done = ap (at_week done) (sym is)

  pub inside_is : IsInside pairs (lists_of (full_stocks season)) weeks
  inside_is = record {
    some = subst (λ (ps : List (ℕ × Summary)). 0 < length ps) (sym is) ((live_pairs_lem season.rules book).some.1 any);
    weeks_done = λ done s among. below done (((live_pairs_lem season.rules book).pairs done s).0 (subst (λ (ps : List (ℕ × Summary)). IsAmong ps done s) is among)).0;
    values = λ done lt. (week_is_at done (early done lt)).values.size ∙ ap (λ (l : List Summary). length l * lists_of (full_stocks season)) (listed done);
    choices = λ done lt. ((week_is_at done (early done (omega arith))).choices (omega (arith, lt, are.size))).size ∙ ap (λ (l : List Summary). length l * lists_of (full_stocks season)) (listed done);
    last = λ done e. (week_is_at done (omega (arith, e, are.size))).last (omega (arith, e, are.size));
    small = λ done lt. (week_is_at done (early done lt)).small;
  }
    where
      early : (done : ℕ) → done < length weeks → done ≤ season.rules.weeks
      early done lt = omega (arith, lt, are.size)

      below : (done : ℕ) → done ≤ season.rules.weeks → done < length weeks
      below done le = omega (arith, le, are.size)

  pub among_live : (prefix : List ℕ) → is_live season.rules prefix ≡ true → IsAmong pairs (length prefix) (summary season.rules prefix)
  among_live prefix live =
      subst (λ (ps : List (ℕ × Summary)). IsAmong ps (length prefix) (summary season.rules prefix)) (sym is)
      (((live_pairs_lem season.rules book).pairs (length prefix) (summary season.rules prefix)).1 (live-length season.rules prefix live, (prefix, refl, live, refl)))

  at_place : (prefix : List ℕ) → is_live season.rules prefix ≡ true → slice_get (live_week season.rules (length prefix)) (place_of (at_week (length prefix) pairs) (summary season.rules prefix)) ≡ Some (summary season.rules prefix)
  at_place prefix live =
      ap (λ (l : List Summary). slice_get l (place_of (at_week (length prefix) pairs) (summary season.rules prefix))) (listed (length prefix))
      ∙ place_found (at_week (length prefix) pairs) (summary season.rules prefix) (among_live prefix live)

  pub value_row : (prefix : List ℕ) → is_live season.rules prefix ≡ true →
      row_at (lists_of (full_stocks season)) (week_at weeks (length prefix)).values (place_of (at_week (length prefix) pairs) (summary season.rules prefix)) ≡ map (λ k. joint_value_at div season prefix (stocks_at (full_stocks season) k)) (numbers 0 (lists_of (full_stocks season)))
  value_row prefix live =
      row_is (pos 0) (lists_of (full_stocks season)) (live_week season.rules (length prefix)) (by_place season (summary_value div season (length prefix))) (week_at weeks (length prefix)).values (place_of (at_week (length prefix) pairs) (summary season.rules prefix)) (summary season.rules prefix)
      (week_is_at (length prefix) (live-length season.rules prefix live)).values (at_place prefix live)
      ∙ ap (λ (f : ℕ → ℤ). map f (numbers 0 (lists_of (full_stocks season)))) (fun_ext (λ k. value_at_prefix div season prefix (stocks_at (full_stocks season) k) live))

  pub choice_row : (prefix : List ℕ) → is_live season.rules prefix ≡ true → length prefix < season.rules.weeks →
      row_at (lists_of (full_stocks season)) (week_at weeks (length prefix)).choices (place_of (at_week (length prefix) pairs) (summary season.rules prefix)) ≡ map (λ k. summary_choice div season (length prefix) (summary season.rules prefix) (stocks_at (full_stocks season) k)) (numbers 0 (lists_of (full_stocks season)))
  choice_row prefix live early =
      row_is 0 (lists_of (full_stocks season)) (live_week season.rules (length prefix)) (by_place season (summary_choice div season (length prefix))) (week_at weeks (length prefix)).choices (place_of (at_week (length prefix) pairs) (summary season.rules prefix)) (summary season.rules prefix)
      ((week_is_at (length prefix) (live-length season.rules prefix live)).choices early) (at_place prefix live)

  pub no_choices : (prefix : List ℕ) → is_live season.rules prefix ≡ true → season.rules.weeks ≤ length prefix →
      row_at (lists_of (full_stocks season)) (week_at weeks (length prefix)).choices (place_of (at_week (length prefix) pairs) (summary season.rules prefix)) ≡ []
  no_choices prefix live late =
      let whole : length prefix ≡ season.rules.weeks = omega (arith, late, live-length season.rules prefix live) in
      ap (λ (items : List ℕ). row_at (lists_of (full_stocks season)) items (place_of (at_week (length prefix) pairs) (summary season.rules prefix))) ((week_is_at (length prefix) (live-length season.rules prefix live)).last whole)
      ∙ row_none (lists_of (full_stocks season)) (place_of (at_week (length prefix) pairs) (summary season.rules prefix) * lists_of (full_stocks season))

map-map_in : {X Y Z : Type 0} (f : Y → Z) (g : X → Y) (xs : List X) → map f (map g xs) ≡ map (λ x. f (g x)) xs
map-map_in f g [] = refl
map-map_in f g (x ∷ xs) = ap (λ t. f (g x) ∷ t) (map-map_in f g xs)

-- lists of stocks beside what a function of them gives
beside : {X : Type 0} (units : List ℕ) (f : List ℕ → X) (row : List X) → row ≡ map (λ k. f (stocks_at units k)) (numbers 0 (lists_of units)) → zip (all_stocks units) row ≡ map (λ stocks. (stocks, f stocks)) (all_stocks units)
beside units f row is =
    ap₂ zip (all_stocks_are units) is
    ∙ (zip_maps (stocks_at units) (λ k. f (stocks_at units k)) (numbers 0 (lists_of units))
    ∙ (sym (map-map_in (λ stocks. (stocks, f stocks)) (stocks_at units) (numbers 0 (lists_of units))) ∙ ap (map (λ stocks. (stocks, f stocks))) (sym (all_stocks_are units))))

pub table_is : (season : Season) (pairs : List (ℕ × Summary)) (units : List ℕ) (width : ℕ) (lows tops : List WeekRows) → IsRulebook season.rules → pairs ≡ live_pairs season.rules → is_live season.rules [] ≡ true → units ≡ full_stocks season → width ≡ lists_of units →
    AreWeeks floor season (suc season.rules.weeks) lows → AreWeeks ceil season (suc season.rules.weeks) tops → IsJointOf season (entries_of pairs units width lows tops)
table_is season pairs units width lows tops book is any units_are width_is low top =
    subst (λ n. IsJointOf season (entries_of pairs units n lows tops)) (sym width_is)
    (subst (λ (us : List ℕ). IsJointOf season (entries_of pairs us (lists_of us) lows tops)) (sym units_are) (record {
      pairs = pairs_back pairs (full_stocks season) (lists_of (full_stocks season)) lows tops pairs ∙ is;
      values = λ prefix live.
          entry_values pairs (full_stocks season) (lists_of (full_stocks season)) lows tops (length prefix) (summary season.rules prefix) (among_live floor season pairs lows book is any low prefix live)
          ∙ beside (full_stocks season) (λ stocks. (joint_low_at season prefix stocks, joint_top_at season prefix stocks)) _
          (ap₂ zip (value_row floor season pairs lows book is any low prefix live) (value_row ceil season pairs tops book is any top prefix live)
          ∙ zip_maps (λ k. joint_low_at season prefix (stocks_at (full_stocks season) k)) (λ k. joint_top_at season prefix (stocks_at (full_stocks season) k)) (numbers 0 (lists_of (full_stocks season))));
      choices = λ prefix live.
          entry_choices pairs (full_stocks season) (lists_of (full_stocks season)) lows tops (length prefix) (summary season.rules prefix) (among_live floor season pairs lows book is any low prefix live)
          ∙ chosen prefix live (nat_lt (length prefix) season.rules.weeks) refl;
    }))
  where
    zip_none : (xs : List (List ℕ)) (ys : List ℕ) → ys ≡ [] → zip xs ys ≡ []
    zip_none [] ys e = refl
    zip_none (x ∷ xs) [] e = refl
    zip_none (x ∷ xs) (y ∷ ys) e = cc

    chosen : (prefix : List ℕ) → is_live season.rules prefix ≡ true → (b : Bool) → nat_lt (length prefix) season.rules.weeks ≡ b →
        zip (all_stocks (full_stocks season)) (row_at (lists_of (full_stocks season)) (week_at lows (length prefix)).choices (place_of (at_week (length prefix) pairs) (summary season.rules prefix)))
        ≡ cond b (map (λ stocks. (stocks, joint_rung_at season prefix stocks)) (all_stocks (full_stocks season))) []
    chosen prefix live true e =
        let early : length prefix < season.rules.weeks = ltb-true (length prefix) season.rules.weeks e in
        beside (full_stocks season) (joint_rung_at season prefix) _
        (choice_row floor season pairs lows book is any low prefix live early ∙ ap (λ (f : ℕ → ℕ). map f (numbers 0 (lists_of (full_stocks season)))) (fun_ext (λ k. choice_at_prefix season prefix (stocks_at (full_stocks season) k) live early)))
    chosen prefix live false e =
        zip_none (all_stocks (full_stocks season)) _ (no_choices floor season pairs lows book is any low prefix live (ltb-false (length prefix) season.rules.weeks e))

-- ---- what is read at a summary and a list of stocks

both_same : (a b n : ℕ) → a ≡ n → b ≡ n → min a b ≡ n
both_same a b n p q = omega (arith, p, q)

-- where a row lies within a week, and a place within the row
pub record IsRead (pairs : List (ℕ × Summary)) (units : List ℕ) (width : ℕ) (lows tops : List WeekRows) (done : ℕ) (s : Summary) (stocks : List ℕ) (row : ℕ) (low top : ℤ) : Type 0 where
  pub early : done < length lows
  pub also : done < length tops
  pub low_row : (row + 1) * width ≤ length (week_at lows done).values
  pub top_row : (row + 1) * width ≤ length (week_at tops done).values
  pub long : length stocks ≡ length units
  pub place : place_in units stocks < width
  pub low_is : get_or (row_at width (week_at lows done).values row) (place_in units stocks) (pos 0) ≡ low
  pub top_is : get_or (row_at width (week_at tops done).values row) (place_in units stocks) (pos 0) ≡ top
  pub low_small : IsWithin 1000000000000000000 (get_or (row_at width (week_at lows done).values row) (place_in units stocks) (pos 0))
  pub top_small : IsWithin 1000000000000000000 (get_or (row_at width (week_at tops done).values row) (place_in units stocks) (pos 0))

row_in : (pairs : List (ℕ × Summary)) (width row done size : ℕ) (s : Summary) → IsAmong pairs done s → row ≡ place_of (at_week done pairs) s → size ≡ length (at_week done pairs) * width → (row + 1) * width ≤ size
row_in pairs width row done size s among is size_is = row_inside pairs width row size done s among is size_is

value_small : (pairs : List (ℕ × Summary)) (width : ℕ) (weeks : List WeekRows) (done row place : ℕ) (s : Summary) → IsInside pairs width weeks → IsAmong pairs done s → row ≡ place_of (at_week done pairs) s → place < width →
    IsWithin 1000000000000000000 (get_or (row_at width (week_at weeks done).values row) place (pos 0))
value_small pairs width weeks done row place s inside among is lt =
    let early : done < length weeks = inside.weeks_done done s among in
    let fits : (row + 1) * width ≤ length (week_at weeks done).values = row_in pairs width row done (length (week_at weeks done).values) s among is (inside.values done early) in
    let size : length (row_at width (week_at weeks done).values row) ≡ width = length-row_at width (length (at_week done pairs)) row (week_at weeks done).values (inside.values done early) (subst (λ n. n < length (at_week done pairs)) (sym is) (got_inside (at_week done pairs) (place_of (at_week done pairs) s) s (place_found (at_week done pairs) s among))) in
    row_small 1000000000000000000 width row (week_at weeks done).values (row_at width (week_at weeks done).values row) (inside.small done early) fits refl size place (subst (λ n. place < n) (sym size) lt)

pub read_values : (pairs : List (ℕ × Summary)) (units : List ℕ) (width : ℕ) (lows tops : List WeekRows) (table : List Entry) (done : ℕ) (s : Summary) (stocks : List ℕ) (row : ℕ) → entries_of pairs units width lows tops ≡ table → IsKept pairs units width lows tops →
    IsAmong (table_pairs table) done s → HasStocks (values_of table done s) stocks → row ≡ place_of (at_week done pairs) s →
    IsRead pairs units width lows tops done s stocks row (at_stocks (values_of table done s) stocks (pos 0, pos 0)).0 (at_stocks (values_of table done s) stocks (pos 0, pos 0)).1
read_values pairs units width lows tops table done s stocks row e kept entry has is =
    let among : IsAmong pairs done s = among_kept pairs units width lows tops table done s e entry in
    let lower : List ℤ = row_at width (week_at lows done).values (place_of (at_week done pairs) s) in
    let upper : List ℤ = row_at width (week_at tops done).values (place_of (at_week done pairs) s) in
    let values : values_of table done s ≡ zip (all_stocks units) (zip (row_at width (week_at lows done).values (place_of (at_week done pairs) s)) (row_at width (week_at tops done).values (place_of (at_week done pairs) s)))
    = ap (λ (t : List Entry). values_of t done s) (sym e) ∙ entry_values pairs units width lows tops done s among in
    let early : done < length lows = kept.low.weeks_done done s among in
    let also : done < length tops = kept.top.weeks_done done s among in
    let inside : place_of (at_week done pairs) s < length (at_week done pairs) = got_inside (at_week done pairs) (place_of (at_week done pairs) s) s (place_found (at_week done pairs) s among) in
    let low_size : length (row_at width (week_at lows done).values (place_of (at_week done pairs) s)) ≡ width = length-row_at width (length (at_week done pairs)) (place_of (at_week done pairs) s) (week_at lows done).values (kept.low.values done early) inside in
    let top_size : length (row_at width (week_at tops done).values (place_of (at_week done pairs) s)) ≡ width = length-row_at width (length (at_week done pairs)) (place_of (at_week done pairs) s) (week_at tops done).values (kept.top.values done also) inside in
    let size : length (zip (row_at width (week_at lows done).values (place_of (at_week done pairs) s)) (row_at width (week_at tops done).values (place_of (at_week done pairs) s))) ≡ width
    = length-zip (row_at width (week_at lows done).values (place_of (at_week done pairs) s)) (row_at width (week_at tops done).values (place_of (at_week done pairs) s)) ∙ both_same _ _ width low_size top_size in
    let found = found_at units stocks (zip (row_at width (week_at lows done).values (place_of (at_week done pairs) s)) (row_at width (week_at tops done).values (place_of (at_week done pairs) s))) (pos 0, pos 0) (size ∙ kept.width_is)
    (subst (λ (items : List (List ℕ × (ℤ × ℤ))). HasStocks items stocks) values has) in
    let place : place_in units stocks < width = subst (λ n. place_in units stocks < n) size found.inside in
    let item : at_stocks (values_of table done s) stocks (pos 0, pos 0) ≡ (get_or (row_at width (week_at lows done).values (place_of (at_week done pairs) s)) (place_in units stocks) (pos 0), get_or (row_at width (week_at tops done).values (place_of (at_week done pairs) s)) (place_in units stocks) (pos 0))
    = ap (λ (items : List (List ℕ × (ℤ × ℤ))). at_stocks items stocks (pos 0, pos 0)) values
    ∙ (found.item_is ∙ get_or-zip (row_at width (week_at lows done).values (place_of (at_week done pairs) s)) (row_at width (week_at tops done).values (place_of (at_week done pairs) s)) (place_in units stocks) (pos 0, pos 0)
    (subst (λ n. place_in units stocks < n) (sym low_size) place) (subst (λ n. place_in units stocks < n) (sym top_size) place)) in
    record {
      early = early;
      also = also;
      low_row = row_in pairs width row done (length (week_at lows done).values) s among is (kept.low.values done early);
      top_row = row_in pairs width row done (length (week_at tops done).values) s among is (kept.top.values done also);
      long = found.long;
      place = place;
      low_is = ap (λ n. get_or (row_at width (week_at lows done).values n) (place_in units stocks) (pos 0)) is ∙ sym (ap (λ (p : ℤ × ℤ). p.0) item);
      top_is = ap (λ n. get_or (row_at width (week_at tops done).values n) (place_in units stocks) (pos 0)) is ∙ sym (ap (λ (p : ℤ × ℤ). p.1) item);
      low_small = value_small pairs width lows done row (place_in units stocks) s kept.low among is place;
      top_small = value_small pairs width tops done row (place_in units stocks) s kept.top among is place;
    }

-- ---- what is read of the choices

pub record IsChoice (pairs : List (ℕ × Summary)) (units : List ℕ) (width : ℕ) (lows : List WeekRows) (done : ℕ) (stocks : List ℕ) (row choice : ℕ) : Type 0 where
  pub early : done < length lows
  pub fits : (row + 1) * width ≤ length (week_at lows done).choices
  pub long : length stocks ≡ length units
  pub place : place_in units stocks < width
  pub is : get_or (row_at width (week_at lows done).choices row) (place_in units stocks) 0 ≡ choice

zip_nothing : (xs : List (List ℕ)) (ys : List ℕ) → ys ≡ [] → zip xs ys ≡ []
zip_nothing [] ys e = refl
zip_nothing (x ∷ xs) [] e = refl
zip_nothing (x ∷ xs) (y ∷ ys) e = cc

pub read_choice : (pairs : List (ℕ × Summary)) (units : List ℕ) (width : ℕ) (lows tops : List WeekRows) (table : List Entry) (done : ℕ) (s : Summary) (stocks : List ℕ) (row : ℕ) → entries_of pairs units width lows tops ≡ table → IsKept pairs units width lows tops →
    IsAmong (table_pairs table) done s → HasStocks (choices_of table done s) stocks → row ≡ place_of (at_week done pairs) s → IsChoice pairs units width lows done stocks row (at_stocks (choices_of table done s) stocks 0)
read_choice pairs units width lows tops table done s stocks row e kept entry has is =
    let among : IsAmong pairs done s = among_kept pairs units width lows tops table done s e entry in
    let choices : choices_of table done s ≡ zip (all_stocks units) (row_at width (week_at lows done).choices (place_of (at_week done pairs) s)) = ap (λ (t : List Entry). choices_of t done s) (sym e) ∙ entry_choices pairs units width lows tops done s among in
    let early : done < length lows = kept.low.weeks_done done s among in
    let inside : place_of (at_week done pairs) s < length (at_week done pairs) = got_inside (at_week done pairs) (place_of (at_week done pairs) s) s (place_found (at_week done pairs) s among) in
    let later : suc done < length lows = to_come (cases_lt (suc done) (length lows)) early choices in
    let size : length (row_at width (week_at lows done).choices (place_of (at_week done pairs) s)) ≡ width = length-row_at width (length (at_week done pairs)) (place_of (at_week done pairs) s) (week_at lows done).choices (kept.low.choices done later) inside in
    let found = found_at units stocks (row_at width (week_at lows done).choices (place_of (at_week done pairs) s)) 0 (size ∙ kept.width_is) (subst (λ (items : List (List ℕ × ℕ)). HasStocks items stocks) choices has) in
    record {
      early = early;
      fits = row_in pairs width row done (length (week_at lows done).choices) s among is (kept.low.choices done later);
      long = found.long;
      place = subst (λ n. place_in units stocks < n) size found.inside;
      is = ap (λ n. get_or (row_at width (week_at lows done).choices n) (place_in units stocks) 0) is ∙ (sym found.item_is ∙ ap (λ (items : List (List ℕ × ℕ)). at_stocks items stocks 0) (sym choices));
    }
  where
    to_come : (suc done < length lows) ⊎ (length lows ≤ suc done) → done < length lows → choices_of table done s ≡ zip (all_stocks units) (row_at width (week_at lows done).choices (place_of (at_week done pairs) s)) → suc done < length lows
    to_come (inl later) early choices = later
    to_come (inr late) early choices =
        let whole : suc done ≡ length lows = omega arith in
        let none : row_at width (week_at lows done).choices (place_of (at_week done pairs) s) ≡ []
        = ap (λ (items : List ℕ). row_at width items (place_of (at_week done pairs) s)) (kept.low.last done whole) ∙ row_none width (place_of (at_week done pairs) s * width) in
        let empty : choices_of table done s ≡ [] = choices ∙ zip_nothing (all_stocks units) _ none in
        absurd (nothing (subst (λ (items : List (List ℕ × ℕ)). HasStocks items stocks) empty has))
      where
        nothing : HasStocks {X = ℕ} [] stocks → ⊥
        nothing h = cc

-- ---- the opening

first_entry : (all : List (ℕ × Summary)) (units : List ℕ) (width : ℕ) (lows tops : List WeekRows) (xs : List (ℕ × Summary)) (s : Summary) (rest : List Summary) → at_week 0 xs ≡ s ∷ rest →
    find (λ entry. entry.done == 0) (map (entry_of all units width lows tops) xs) ≡ Some (entry_of all units width lows tops (0, s))
first_entry all units width lows tops [] s rest e = cc
first_entry all units width lows tops ((d, t) ∷ xs) s rest e = by_test (d == 0) refl e (first_entry all units width lows tops xs s rest)
  where
    by_test : (b : Bool) → (d == 0) ≡ b → map (λ (p : ℕ × Summary). p.1) (cond b ((d, t) ∷ filter (λ p. p.0 == 0) xs) (filter (λ p. p.0 == 0) xs)) ≡ s ∷ rest →
        (at_week 0 xs ≡ s ∷ rest → find (λ entry. entry.done == 0) (map (entry_of all units width lows tops) xs) ≡ Some (entry_of all units width lows tops (0, s))) →
        cond b (Some (entry_of all units width lows tops (d, t))) (find (λ entry. entry.done == 0) (map (entry_of all units width lows tops) xs)) ≡ Some (entry_of all units width lows tops (0, s))
    by_test true is e later = ap₂ (λ n u. Some (entry_of all units width lows tops (n, u))) (eqb-true d 0 is) (ap (λ (l : List Summary). get_or l 0 t) e)
    by_test false is e later = later e

pub record IsOpening (units : List ℕ) (width : ℕ) (lows tops : List WeekRows) (table : List Entry) : Type 0 where
  pub some : 0 < width
  pub early : 0 < length lows
  pub also : 0 < length tops
  pub low_row : (0 + 1) * width ≤ length (week_at lows 0).values
  pub top_row : (0 + 1) * width ≤ length (week_at tops 0).values
  pub is : opening table ≡ (get_or (row_at width (week_at lows 0).values 0) (width - 1) (pos 0), get_or (row_at width (week_at tops 0).values 0) (width - 1) (pos 0))
  pub low_small : IsWithin 1000000000000000000 (get_or (row_at width (week_at lows 0).values 0) (width - 1) (pos 0))
  pub top_small : IsWithin 1000000000000000000 (get_or (row_at width (week_at tops 0).values 0) (width - 1) (pos 0))

pub opening_is : (pairs : List (ℕ × Summary)) (units : List ℕ) (width : ℕ) (lows tops : List WeekRows) (table : List Entry) → entries_of pairs units width lows tops ≡ table → IsKept pairs units width lows tops → IsOpening units width lows tops table
opening_is pairs units width lows tops table e kept = with_first (at_week 0 pairs) refl kept.opens
  where
    with_first : (list : List Summary) → at_week 0 pairs ≡ list → 0 < length list → IsOpening units width lows tops table
    with_first [] is some = absurd (omega arith)
    with_first (s ∷ rest) is some =
        let among : IsAmong pairs 0 s = (0, ap (λ (l : List Summary). slice_get l 0) is) in
        let row : 0 ≡ place_of (at_week 0 pairs) s = sym (ap (λ (l : List Summary). place_of l s) is ∙ ap (λ b. cond b 0 (suc (place_of rest s))) (same_self s)) in
        let early : 0 < length lows = kept.low.weeks_done 0 s among in
        let also : 0 < length tops = kept.top.weeks_done 0 s among in
        let wide : 1 ≤ width = subst (λ n. 1 ≤ n) (sym kept.width_is) (lists_some units) in
        let inside : 0 < length (at_week 0 pairs) = subst (λ (l : List Summary). 0 < length l) (sym is) some in
        let low_size : length (row_at width (week_at lows 0).values 0) ≡ width = length-row_at width (length (at_week 0 pairs)) 0 (week_at lows 0).values (kept.low.values 0 early) inside in
        let top_size : length (row_at width (week_at tops 0).values 0) ≡ width = length-row_at width (length (at_week 0 pairs)) 0 (week_at tops 0).values (kept.top.values 0 also) inside in
        let lists : length (all_stocks units) ≡ width = ap length (all_stocks_are units) ∙ (length-numbers (stocks_at units) 0 (lists_of units) ∙ sym kept.width_is) in
        let pair_size : length (zip (row_at width (week_at lows 0).values 0) (row_at width (week_at tops 0).values 0)) ≡ width = length-zip (row_at width (week_at lows 0).values 0) (row_at width (week_at tops 0).values 0) ∙ both_same _ _ width low_size top_size in
        let size : length (zip (all_stocks units) (zip (row_at width (week_at lows 0).values 0) (row_at width (week_at tops 0).values 0))) ≡ width = length-zip (all_stocks units) (zip (row_at width (week_at lows 0).values 0) (row_at width (week_at tops 0).values 0)) ∙ both_same _ _ width lists pair_size in
        let lt : width - 1 < width = omega (arith, wide) in
        let values : option_map_or (λ (entry : Entry). entry.values) (find (λ entry. entry.done == 0) table) [] ≡ zip (all_stocks units) (zip (row_at width (week_at lows 0).values 0) (row_at width (week_at tops 0).values 0))
        = ap (λ (t : List Entry). option_map_or (λ (entry : Entry). entry.values) (find (λ entry. entry.done == 0) t) []) (sym e)
        ∙ (ap (λ (o : Option Entry). option_map_or (λ (entry : Entry). entry.values) o []) (first_entry pairs units width lows tops pairs s rest is)
        ∙ ap (λ n. zip (all_stocks units) (zip (row_at width (week_at lows 0).values n) (row_at width (week_at tops 0).values n))) (sym row)) in
        record {
          some = wide;
          early = early;
          also = also;
          low_row = row_in pairs width 0 0 (length (week_at lows 0).values) s among row (kept.low.values 0 early);
          top_row = row_in pairs width 0 0 (length (week_at tops 0).values) s among row (kept.top.values 0 also);
          is = ap (λ (items : List (List ℕ × (ℤ × ℤ))). (get_or items (length items - 1) ([], (pos 0, pos 0))).1) values
              ∙ (ap (λ n. (get_or (zip (all_stocks units) (zip (row_at width (week_at lows 0).values 0) (row_at width (week_at tops 0).values 0))) (n - 1) ([], (pos 0, pos 0))).1) size
              ∙ (ap (λ (item : List ℕ × (ℤ × ℤ)). item.1) (get_or-zip (all_stocks units) (zip (row_at width (week_at lows 0).values 0) (row_at width (week_at tops 0).values 0)) (width - 1) ([], (pos 0, pos 0)) (subst (λ n. width - 1 < n) (sym lists) lt) (subst (λ n. width - 1 < n) (sym pair_size) lt))
              ∙ get_or-zip (row_at width (week_at lows 0).values 0) (row_at width (week_at tops 0).values 0) (width - 1) (pos 0, pos 0) (subst (λ n. width - 1 < n) (sym low_size) lt) (subst (λ n. width - 1 < n) (sym top_size) lt)));
          low_small = value_small pairs width lows 0 0 (width - 1) s kept.low among row lt;
          top_small = value_small pairs width tops 0 0 (width - 1) s kept.top among row lt;
        }
