-- The conditions of a line, by what the tables keep.
use Rattle.std.proofs.Common.{◌≡◌, ℕ, ◌+◌, ◌-◌, ◌*◌, ◌%◌, ◌<◌, ◌≤◌, Bool, true, false, IsTrue, nat_lt, cond, ◌==◌, ◌&&◌, eq-eqb, drop, nat_abs, refl, sym, ap, ap₂, ◌∙◌, subst, arith, suc, zero, List, [], ◌∷◌, length, map, get_or, slice_get, Some, None, Option, ℤ, pos, ◌+ℤ◌, mul-le-mul, mul-le-mul_right, to_z, of_z, w64, ◌^◌}
use Rattle.std.specs.Prelude.{int_le, is_some, unsigned_abs}
use Rattle.std.specs.List.{filter, flat_map, list_all}
use Rattle.clr_average.specs.Average.{IsWithin}
use Rattle.clr_num.specs.Lists.{numbers}
use Rattle.clr_num.specs.Sums.{sum_of}
use Rattle.clr_rules.specs.declared.season_rules.Summary.{Summary}
use Rattle.clr_rules.specs.LiveSummaries.{IsIn, at_week, is_live_summary, live_pairs, live_summaries, summaries}
use Rattle.clr_rules.specs.Rules.{IsPath, Rulebook, summary}
use Rattle.clr_season.specs.Season.{Season, IsSeason}
use Rattle.clr_model.specs.Fits.{fits, stock_lists}
use Rattle.clr_model.specs.Revenue.{full_stocks, sum_stores}
use Rattle.clr_model.proofs.Sums.{sum_of-same}
use Rattle.clr_cert.specs.declared.place.Place.{Place}
use Rattle.clr_cert.specs.declared.place.Place.TheVariants.{Path, Mult, Low, High, Value, Joint, Revenue, Bound, Exact}
use Rattle.clr_cert.specs.declared.no.NoKind.TheVariants as kind
use Rattle.clr_cert.specs.Conditions.{at_least, at_most, conditions, joint_conditions, path_entry, path_of, total, value_conditions}
use Rattle.clr_cert.specs.Entries.{CertEntries, most_entry}
use Rattle.clr_cert.specs.Lines.{full_stock, opening, stocks_at, stocks_of}
use Rattle.clr_cert.specs.Places.{IsJointPlace, IsPlaceOf, IsWeekStore, places}
use Rattle.clr_cert.specs.Reading.{entries_in, index_of, is_joint_rung, is_rung, is_within, most_total, numbers_told, row_of, told}
use Rattle.clr_cert.proofs.Counting.{few_live}
use Rattle.clr_cert.proofs.Walking.{walk_next}
use Rattle.clr_check.specs.declared.faults.Fault.{Fault}
use Rattle.clr_check.specs.declared.faults.Bound.TheVariants.{Below, Above}
use Rattle.clr_check.specs.declared.tables.Tables.{Tables}
use Rattle.clr_check.specs.Faults.{AreMults, AreRows, HasRow, IsValueOf, compare_by, first_fault}
use Rattle.clr_check.specs.JointRows.{AreJointRows, HasLows, HasTops}
use Rattle.clr_check.specs.Rows.{AreRowsOf, kept_at}
use Rattle.clr_check.specs.Standing.{AreKept, AreTables, IsHeld, IsLineKept, live_place, mult_row, row_number, row_store, stock_count}
use Rattle.clr_check.specs.Weeks.{AreEntries}
use Rattle.clr_cert.proofs.Among.{Among, among_found, high_place, joint_place, low_place, mult_place, path_place, row_is, value_place}
use Rattle.clr_check.proofs.Apart.{row_number_less, row_store_is}
use Rattle.clr_check.proofs.Coming.{told_never}
use Rattle.clr_check.proofs.Kept.{live_at}
use Rattle.clr_check.proofs.ListNumbers.{full_index, index_at, one_list}
use Rattle.clr_check.proofs.Rows.{come_before, live_once, stage, walk_place}
use Rattle.clr_check.proofs.Told.{at_most_is, equal_is}
use Rattle.clr_check.proofs.ValueLemmas.{live_week}
use Rattle.clr_check.proofs.Firsts.{first_append, first_of, none_is}
use Rattle.clr_check.proofs.Holding.{all_small, live_here, rung_number}
use Rattle.clr_check.proofs.JointFaults.{place_low}
use Rattle.std.proofs.lemmas.Bool.{and_parts}
use Rattle.clr_check.proofs.Sides.{read_128, read_64}
use Rattle.clr_average.proofs.Reading.{within_128}
use Rattle.clr_average.proofs.Sums.{sum_of_more}
use Rattle.clr_average.proofs.Within.{within_more, within_pos, within_sum}
use Rattle.std.specs.Int.RustNames.{FitsSigned}
use mir.Syntax.{w128}

-- ---- what an earlier line told

pub held_line : (season : Season) (lines : List (List ℕ)) (row : ℕ) (place other : Place) (tables : Tables) (numbers : List ℤ) → IsSeason season → IsLineKept season lines row place tables numbers → Among (places season) other → stage season other < stage season place → IsHeld season place other → AreKept season tables other (told season lines other)
held_line season lines row place other tables numbers ok kept among early held =
    let before : row_of season other < row = come_before season row place other ok (walk_place season row place kept.here) among early in
    kept.keeps (row_of season other) other (row_is season other among) (omega (arith, before)) held

-- ---- the path

map-numbers : (f : ℕ → ℕ) (from count : ℕ) (xs : List ℕ) → length xs ≡ count → ((k : ℕ) → k < count → f (from + k) ≡ get_or xs k 0) → map f (numbers from count) ≡ xs
map-numbers f from zero [] size h = refl
map-numbers f from zero (x ∷ xs) size h = absurd (omega (arith, size))
map-numbers f from (suc count) [] size h = absurd (omega (arith, size))
map-numbers f from (suc count) (x ∷ xs) size h =
    let none : from + 0 ≡ from = omega arith in
    ap₂ (λ a b. a ∷ b) (ap f (sym none) ∙ h 0 (omega arith)) (map-numbers f (suc from) count xs (omega (arith, size)) (λ k less. ap f (step k) ∙ h (suc k) (omega (arith, less))))
  where
    step : (k : ℕ) → suc from + k ≡ from + suc k
    step k = omega arith

pub path_told : (season : Season) (lines : List (List ℕ)) (tables : Tables) → IsPath season.rules tables.path → AreKept season tables Path (told season lines Path) → path_of season (entries_in season lines) ≡ tables.path
unfolding entries_in
path_told season lines tables is kept = map-numbers (λ week. unsigned_abs (told season lines Path (week - 1))) 1 season.rules.weeks tables.path is.weeks (λ k less. ap (λ n. unsigned_abs (told season lines Path n)) (back k) ∙ ap unsigned_abs (sym (kept k less)))
  where
    back : (k : ℕ) → 1 + k - 1 ≡ k
    back k = omega arith

-- ---- rows of the tables

one_of : (n : ℕ) → 1 * n ≡ n
one_of n = omega arith

pub table_row : (season : Season) (store done : ℕ) (rows : List (List ℤ)) → 1 ≤ store → store ≤ length season.stores → AreRowsOf (2 * length season.stores) (λ row. 1 * stock_count season (row_store row)) most_entry rows → AreEntries season store (get_or rows (row_number store done) [])
table_row season store done rows low high are = record {
  size = are.sizes (row_number store done) (row_number_less store done (length season.stores) low high) ∙ (one_of (stock_count season (row_store (row_number store done))) ∙ ap (stock_count season) (row_store_is store done low));
  small = λ k less. are.small (row_number store done) k;
}

pub value_rows : (season : Season) (store done : ℕ) (tables : Tables) → 1 ≤ store → store ≤ length season.stores → done ≤ season.rules.weeks → AreTables season tables → AreRows season store done (get_or tables.values (row_number store done) [])
value_rows season store done tables low high early are = record {
  size = subst (λ n. length (live_summaries season.rules done) * stock_count season store ≤ n)
      (sym (are.values.sizes (row_number store done) (row_number_less store done (length season.stores) low high) ∙ ap (λ n. are.most * stock_count season n) (row_store_is store done low)))
      (mul-le-mul_right (stock_count season store) (are.room done early));
  small = λ k less. are.values.small (row_number store done) k;
}

pub mults_are : (season : Season) (row : ℕ) (tables : Tables) → row < length season.stores * season.rules.weeks → AreTables season tables → AreMults season (get_or tables.mults row [])
mults_are season row tables less are = record { size = are.mults.sizes row less; small = λ k inside. are.mults.small row k }

pub joint_rows_are : (season : Season) (done most : ℕ) (rows : List (List ℤ)) → length (live_summaries season.rules done) ≤ most → AreRowsOf 2 (λ row. most * stock_lists season.stores) most_entry rows → AreJointRows season done (get_or rows (done % 2) [])
joint_rows_are season done most rows room are = record {
  size = subst (λ n. length (live_summaries season.rules done) * stock_lists season.stores ≤ n) (sym (are.sizes (done % 2) (omega arith))) (mul-le-mul_right (stock_lists season.stores) room);
  small = λ k less. are.small (done % 2) k;
}

-- ---- the path's values

module _ (season : Season) (lines : List (List ℕ)) (row : ℕ) (tables : Tables) (numbers : List ℤ) (found : Option Fault) (ok : IsSeason season) where
  path_kept : (place : Place) → IsPath season.rules tables.path → IsLineKept season lines row place tables numbers → 2 < stage season place → path_of season (entries_in season lines) ≡ tables.path
  path_kept place is kept late = path_told season lines tables is (held_line season lines row place Path tables numbers ok kept (path_place season) late tt)

  pub low_is : (done store : ℕ) (after : List ℤ) → IsWeekStore season done store → IsPath season.rules tables.path → after ≡ get_or tables.lows (row_number store (suc done)) [] → IsLineKept season lines row (Low done store) tables numbers →
      ((table : ℕ → ℕ → ℕ → ℤ) → HasRow season store numbers (table done store) → (done < season.rules.weeks → HasRow season store after (table (suc done) store)) → found ≡ first_fault (map (path_entry (compare_by Below) season tables.path table done store) (stocks_of season store))) →
      found ≡ first_fault (conditions season (entries_in season lines) numbers (Low done store))
  unfolding conditions entries_in
  low_is done store after place is after_is kept all =
      all (λ d n k. told season lines (Low d n) k)
      (λ stock held. ap (λ (ns : List ℤ). get_or ns stock (pos 0)) kept.tells)
      (λ early stock held. sym (held_line season lines row (Low done store) (Low (suc done) store) tables numbers ok kept (low_place season (suc done) store (omega (arith, early)) place.first place.last) (omega (arith, early)) (omega arith) stock (omega (arith, held))) ∙ ap (λ (r : List ℤ). get_or r stock (pos 0)) (sym after_is))
      ∙ ap (λ p. first_fault (map (path_entry (at_most kind.Low) season p (λ d n k. told season lines (Low d n) k) done store) (stocks_of season store))) (sym (path_kept (Low done store) is kept (omega arith)))

  pub high_is : (done store : ℕ) (after : List ℤ) → IsWeekStore season done store → IsPath season.rules tables.path → after ≡ get_or tables.highs (row_number store (suc done)) [] → IsLineKept season lines row (High done store) tables numbers →
      ((table : ℕ → ℕ → ℕ → ℤ) → HasRow season store numbers (table done store) → (done < season.rules.weeks → HasRow season store after (table (suc done) store)) → found ≡ first_fault (map (path_entry (compare_by Above) season tables.path table done store) (stocks_of season store))) →
      found ≡ first_fault (conditions season (entries_in season lines) numbers (High done store))
  unfolding conditions entries_in
  high_is done store after place is after_is kept all =
      all (λ d n k. told season lines (High d n) k)
      (λ stock held. ap (λ (ns : List ℤ). get_or ns stock (pos 0)) kept.tells)
      (λ early stock held. sym (held_line season lines row (High done store) (High (suc done) store) tables numbers ok kept (high_place season (suc done) store (omega (arith, early)) place.first place.last) (omega (arith, early)) (omega arith) stock (omega (arith, held))) ∙ ap (λ (r : List ℤ). get_or r stock (pos 0)) (sym after_is))
      ∙ ap (λ p. first_fault (map (path_entry (at_least kind.High) season p (λ d n k. told season lines (High d n) k) done store) (stocks_of season store))) (sym (path_kept (High done store) is kept (omega arith)))

  -- ---- the stores' values

  pub value_is : (done store : ℕ) (s : Summary) (mults rows : List ℤ) → IsWeekStore season done store → done < season.rules.weeks → mults ≡ get_or tables.mults (mult_row season store (suc done)) [] → rows ≡ get_or tables.values (row_number store (suc done)) [] → IsLineKept season lines row (Value done store s) tables numbers →
      ((all : CertEntries) → IsValueOf season all done store mults rows → HasRow season store numbers (all.value done store s) → found ≡ first_fault (flat_map (value_conditions season all done store s) (stocks_of season store))) →
      found ≡ first_fault (conditions season (entries_in season lines) numbers (Value done store s))
  unfolding conditions entries_in
  value_is done store s mults rows place early mults_is rows_is kept all =
      all (entries_in season lines) (record {
        mults_are = λ rung low high.
            sym (held_line season lines row (Value done store s) (Mult (suc done) rung) tables numbers ok kept (mult_place season (suc done) rung (omega arith) (omega (arith, early)) low high) (omega arith) tt (store - 1) (omega (arith, place.first, place.last)))
            ∙ (ap (λ n. kept_at tables.mults (mult_row season n (suc done)) (rung - 1)) (again store place.first) ∙ ap (λ (r : List ℤ). get_or r (rung - 1) (pos 0)) (sym mults_is));
        rows_are = λ at stock t there held.
            let same : live_place season (suc done) t ≡ at = live_once season.rules (suc done) (live_place season (suc done) t) at t (live_at season (suc done) t (at, there)) there in
            sym (held_line season lines row (Value done store s) (Value (suc done) store t) tables numbers ok kept (value_place season (suc done) store t (omega (arith, early)) place.first place.last (record { at = at; here = there })) (omega (arith, early)) (omega arith) stock (omega (arith, held)))
            ∙ (ap (λ n. kept_at tables.values (row_number store (suc done)) (n * stock_count season store + stock)) same ∙ ap (λ (r : List ℤ). get_or r (at * stock_count season store + stock) (pos 0)) (sym rows_is));
      })
      (λ stock held. ap (λ (ns : List ℤ). get_or ns stock (pos 0)) kept.tells)
    where
      again : (n : ℕ) → 1 ≤ n → suc (n - 1) ≡ n
      again n h = omega arith

  pub last_value_is : (done store : ℕ) (s : Summary) → done ≡ season.rules.weeks → IsLineKept season lines row (Value done store s) tables numbers →
      ((all : CertEntries) → HasRow season store numbers (all.value season.rules.weeks store s) → found ≡ first_fault (flat_map (value_conditions season all season.rules.weeks store s) (stocks_of season store))) →
      found ≡ first_fault (conditions season (entries_in season lines) numbers (Value done store s))
  unfolding conditions entries_in
  last_value_is done store s e kept all =
      subst (λ n. found ≡ first_fault (flat_map (value_conditions season (entries_in season lines) n store s) (stocks_of season store))) (sym e)
      (all (entries_in season lines) (λ stock held. ap (λ n. told season lines (Value n store s) stock) (sym e) ∙ ap (λ (ns : List ℤ). get_or ns stock (pos 0)) kept.tells))

-- ---- live summaries

pub live_is_live : (season : Season) (done : ℕ) (s : Summary) → IsIn (live_summaries season.rules done) s → IsTrue (is_live_summary season.rules done s)
live_is_live season done s h = go (summaries season.rules) h.0 h.1
  where
    some_is : {y z : Summary} → Some y ≡ Some z → y ≡ z
    some_is e = cc

    go : (xs : List Summary) (k : ℕ) → slice_get (filter (is_live_summary season.rules done) xs) k ≡ Some s → IsTrue (is_live_summary season.rules done s)
    go [] k e = cc
    go (x ∷ xs) k e = by (is_live_summary season.rules done x) refl k e (go xs)
      where
        by : (b : Bool) → is_live_summary season.rules done x ≡ b → (k : ℕ) → slice_get (cond (is_live_summary season.rules done x) (x ∷ filter (is_live_summary season.rules done) xs) (filter (is_live_summary season.rules done) xs)) k ≡ Some s → ((n : ℕ) → slice_get (filter (is_live_summary season.rules done) xs) n ≡ Some s → IsTrue (is_live_summary season.rules done s)) → IsTrue (is_live_summary season.rules done s)
        by true is zero e later = let same : x ≡ s = some_is (sym (ap (λ b. slice_get (cond b (x ∷ filter (is_live_summary season.rules done) xs) (filter (is_live_summary season.rules done) xs)) zero) is) ∙ e) in subst (λ t. IsTrue (is_live_summary season.rules done t)) same is
        by true is (suc k) e later = later k (sym (ap (λ b. slice_get (cond b (x ∷ filter (is_live_summary season.rules done) xs) (filter (is_live_summary season.rules done) xs)) (suc k)) is) ∙ e)
        by false is k e later = later k (sym (ap (λ b. slice_get (cond b (x ∷ filter (is_live_summary season.rules done) xs) (filter (is_live_summary season.rules done) xs)) k) is) ∙ e)

-- ---- totals

-- one store more
pub total_more : (f : ℕ → ℤ) (at : ℕ) (sum raw : ℤ) → raw ≡ f at → IsWithin most_entry (f at) → at + 1 ≤ 64 → sum ≡ sum_of at f → IsWithin (at * most_entry) sum →
    (to_z w128 (of_z w128 (sum +ℤ to_z w128 (of_z w128 raw))) ≡ sum_of (at + 1) f) × IsWithin ((at + 1) * most_entry) (to_z w128 (of_z w128 (sum +ℤ to_z w128 (of_z w128 raw))))
total_more f at sum raw is small few so size =
    let one : to_z w128 (of_z w128 raw) ≡ f at = ap (λ z. to_z w128 (of_z w128 z)) is ∙ read_128 (f at) most_entry small (omega arith) in
    let wide : (at + 1) * most_entry ≡ at * most_entry + most_entry = omega arith in
    let both : IsWithin ((at + 1) * most_entry) (sum +ℤ f at) = subst (λ n. IsWithin n (sum +ℤ f at)) (sym wide) (within_sum (at * most_entry) most_entry sum (f at) size small) in
    let limit : (at + 1) * most_entry ≤ 64 * most_entry = mul-le-mul_right most_entry few in
    let all : to_z w128 (of_z w128 (sum +ℤ to_z w128 (of_z w128 raw))) ≡ (sum +ℤ f at) = ap (λ v. to_z w128 (of_z w128 (sum +ℤ v))) one ∙ read_128 (sum +ℤ f at) ((at + 1) * most_entry) both (omega (arith, limit)) in
    let next : at + 1 ≡ suc at = omega arith in (
      all ∙ (ap (λ v. v +ℤ f at) so ∙ (sym (sum_of_more at f) ∙ ap (λ n. sum_of n f) (sym next))),
      subst (IsWithin ((at + 1) * most_entry)) (sym all) both,
    )

pub total_fits : (f : ℕ → ℤ) (at : ℕ) (sum raw : ℤ) → raw ≡ f at → IsWithin most_entry (f at) → at + 1 ≤ 64 → IsWithin (at * most_entry) sum → FitsSigned w128 (sum +ℤ to_z w128 (of_z w128 raw))
total_fits f at sum raw is small few size =
    let one : to_z w128 (of_z w128 raw) ≡ f at = ap (λ z. to_z w128 (of_z w128 z)) is ∙ read_128 (f at) most_entry small (omega arith) in
    let limit : at * most_entry + most_entry ≤ 2 ^ 127 - 1 = limited at few in
    subst (λ v. FitsSigned w128 (sum +ℤ v)) (sym one) (within_128 (sum +ℤ f at) (within_more (at * most_entry + most_entry) (2 ^ 127 - 1) (sum +ℤ f at) (within_sum (at * most_entry) most_entry sum (f at) size small) limit))
  where
    limited : (n : ℕ) → n + 1 ≤ 64 → n * most_entry + most_entry ≤ 2 ^ 127 - 1
    limited n h = omega (arith, h)

-- the numbers of a line of totals
pub total_read : (numbers : List ℤ) (k : ℕ) → IsTrue (list_all (is_within most_total) numbers) → k < length numbers → to_z w128 (of_z w128 (get_or numbers k (pos 0))) ≡ get_or numbers k (pos 0)
total_read numbers k small less = read_128 (get_or numbers k (pos 0)) most_total (all_small most_total numbers small k less) (omega arith)

-- two totals, one after the other
pub first_total : (numbers : List ℤ) (low high : ℤ) (found : Option Fault) → found ≡ first_fault (total numbers 0 low ∷ []) → is_some found ≡ true → found ≡ first_fault (total numbers 0 low ∷ total numbers 1 high ∷ [])
first_total numbers low high None is some = cc
first_total numbers low high (Some fault) is some = sym (first_append (total numbers 0 low ∷ []) (total numbers 1 high ∷ []) ∙ ap (λ o. first_of o (first_fault (total numbers 1 high ∷ []))) (sym is))

pub second_total : (numbers : List ℤ) (low high : ℤ) (before found : Option Fault) → before ≡ first_fault (total numbers 0 low ∷ []) → is_some before ≡ false → found ≡ first_fault (total numbers 1 high ∷ []) → found ≡ first_fault (total numbers 0 low ∷ total numbers 1 high ∷ [])
second_total numbers low high before found was none is =
    is ∙ sym (first_append (total numbers 0 low ∷ []) (total numbers 1 high ∷ []) ∙ ap (λ o. first_of o (first_fault (total numbers 1 high ∷ []))) (sym was ∙ none_is before none))

-- an entry of a table, read at 64 bits
pub entry_read : (value x : ℤ) → value ≡ x → IsWithin most_entry x → to_z w64 (of_z w64 value) ≡ x
entry_read value x is small = ap (λ z. to_z w64 (of_z w64 z)) is ∙ read_64 x most_entry small (omega arith)

sum_zero : (n : ℕ) → sum_of n (λ i. pos 0) ≡ pos 0
sum_zero zero = refl
sum_zero (suc n) = ap (λ v. pos 0 +ℤ v) (sum_zero n)

module _ (season : Season) (lines : List (List ℕ)) (row : ℕ) (tables : Tables) (numbers : List ℤ) (found : Option Fault) (ok : IsSeason season) where
  pub revenue_is : (low high : ℤ) → low ≡ sum_stores season (λ store. kept_at tables.lows (row_number store 0) (full_stock season store)) → high ≡ sum_stores season (λ store. kept_at tables.highs (row_number store 0) (full_stock season store)) →
      found ≡ first_fault (total numbers 0 low ∷ total numbers 1 high ∷ []) → IsLineKept season lines row Revenue tables numbers → found ≡ first_fault (conditions season (entries_in season lines) numbers Revenue)
  unfolding conditions entries_in
  revenue_is low high low_is high_is is kept =
      is ∙ ap₂ (λ a b. first_fault (total numbers 0 a ∷ total numbers 1 b ∷ []))
      (low_is ∙ sum_of-same (length season.stores) (λ i. kept_at tables.lows (row_number (suc i) 0) (full_stock season (suc i))) (λ i. told season lines (Low 0 (suc i)) (full_stock season (suc i)))
      (λ i less. held_line season lines row Revenue (Low 0 (suc i)) tables numbers ok kept (low_place season 0 (suc i) (omega arith) (omega arith) (omega (arith, less))) (omega arith) (omega arith) (full_stock season (suc i)) (omega arith)))
      (high_is ∙ sum_of-same (length season.stores) (λ i. kept_at tables.highs (row_number (suc i) 0) (full_stock season (suc i))) (λ i. told season lines (High 0 (suc i)) (full_stock season (suc i)))
      (λ i less. held_line season lines row Revenue (High 0 (suc i)) tables numbers ok kept (high_place season 0 (suc i) (omega arith) (omega arith) (omega (arith, less))) (omega arith) (omega arith) (full_stock season (suc i)) (omega arith)))

  -- a place that isn't the season's tells nothing
  told_none : (place : Place) (k : ℕ) → (IsPlaceOf season place → ⊥) → told season lines place k ≡ pos 0
  told_none place k not_one = go (nat_lt (row_of season place) (length (places season))) refl
    where
      go : (b : Bool) → nat_lt (row_of season place) (length (places season)) ≡ b → told season lines place k ≡ pos 0
      go false e = ap (λ (ns : List ℤ). get_or ns k (pos 0)) (told_never season lines place e)
      go true e =
          let inside : row_of season place < length (places season) = grind arith in
          let among : Among (places season) place = among_found season place inside in
          absurd (not_one (walk_next season place among.at ok (walk_place season among.at place among.here)).within)

  pub bound_is : (at : ℕ) (sum : ℤ) → slice_get (live_summaries season.rules 0) at ≡ Some (opening season) → sum ≡ sum_stores season (λ store. kept_at tables.values (row_number store 0) (at * stock_count season store + full_stock season store)) →
      found ≡ first_fault (total numbers 0 sum ∷ []) → IsLineKept season lines row Bound tables numbers → found ≡ first_fault (conditions season (entries_in season lines) numbers Bound)
  unfolding conditions entries_in
  bound_is at sum there sum_is is kept =
      let same : live_place season 0 (opening season) ≡ at = live_once season.rules 0 (live_place season 0 (opening season)) at (opening season) (live_at season 0 (opening season) (at, there)) there in
      is ∙ ap (λ a. first_fault (total numbers 0 a ∷ []))
      (sum_is ∙ sum_of-same (length season.stores) (λ i. kept_at tables.values (row_number (suc i) 0) (at * stock_count season (suc i) + full_stock season (suc i))) (λ i. told season lines (Value 0 (suc i) (opening season)) (full_stock season (suc i)))
      (λ i less. ap (λ n. kept_at tables.values (row_number (suc i) 0) (n * stock_count season (suc i) + full_stock season (suc i))) (sym same) ∙ held_line season lines row Bound (Value 0 (suc i) (opening season)) tables numbers ok kept (value_place season 0 (suc i) (opening season) (omega arith) (omega arith) (omega (arith, less)) (record { at = at; here = there })) (omega arith) (omega arith) (full_stock season (suc i)) (omega arith)))

  pub bound_none : (IsIn (live_summaries season.rules 0) (opening season) → ⊥) → found ≡ first_fault (total numbers 0 (pos 0) ∷ []) → found ≡ first_fault (conditions season (entries_in season lines) numbers Bound)
  unfolding conditions entries_in
  bound_none none is =
      is ∙ ap (λ a. first_fault (total numbers 0 a ∷ []))
      (sym (sum_zero (length season.stores)) ∙ sum_of-same (length season.stores) (λ i. pos 0) (λ i. told season lines (Value 0 (suc i) (opening season)) (full_stock season (suc i))) (λ i less. sym (told_none (Value 0 (suc i) (opening season)) (full_stock season (suc i)) (λ p. none p.1))))

  pub exact_is : (at : ℕ) (low high : ℤ) → IsTrue (fits season) → slice_get (live_summaries season.rules 0) at ≡ Some (opening season) → low ≡ kept_at tables.joint_lows 0 (at * stock_lists season.stores + (stock_lists season.stores - 1)) → high ≡ kept_at tables.joint_tops 0 (at * stock_lists season.stores + (stock_lists season.stores - 1)) →
      found ≡ first_fault (total numbers 0 low ∷ total numbers 1 high ∷ []) → IsLineKept season lines row Exact tables numbers → found ≡ first_fault (conditions season (entries_in season lines) numbers Exact)
  unfolding conditions entries_in
  exact_is at low high fit there low_is high_is is kept =
      let same : live_place season 0 (opening season) ≡ at = live_once season.rules 0 (live_place season 0 (opening season)) at (opening season) (live_at season 0 (opening season) (at, there)) there in
      let index : index_of season (full_stocks season) ≡ stock_lists season.stores - 1 = full_index season in
      let held = held_line season lines row Exact (Joint 0 (opening season) (index_of season (full_stocks season))) tables numbers ok kept
      (joint_place season 0 (opening season) (index_of season (full_stocks season)) fit (omega arith) (record { at = at; here = there }) (some_lists (index_of season (full_stocks season)) (stock_lists season.stores) (one_list season.stores) index)) (omega arith) (omega arith) in
      let there_at : at * stock_lists season.stores + (stock_lists season.stores - 1) ≡ live_place season 0 (opening season) * stock_lists season.stores + index_of season (full_stocks season) = ap₂ (λ a b. a * stock_lists season.stores + b) (sym same) (sym index) in
      is ∙ ap₂ (λ a b. first_fault (total numbers 0 a ∷ total numbers 1 b ∷ [])) (low_is ∙ (ap (kept_at tables.joint_lows 0) there_at ∙ held.0)) (high_is ∙ (ap (kept_at tables.joint_tops 0) there_at ∙ held.1))
    where
      some_lists : (a b : ℕ) → 1 ≤ b → a ≡ b - 1 → a < b
      some_lists a b h e = omega arith

  pub exact_none : (IsIn (live_summaries season.rules 0) (opening season) → ⊥) → found ≡ first_fault (total numbers 0 (pos 0) ∷ total numbers 1 (pos 0) ∷ []) → found ≡ first_fault (conditions season (entries_in season lines) numbers Exact)
  unfolding conditions entries_in
  exact_none none is =
      is ∙ ap₂ (λ a b. first_fault (total numbers 0 a ∷ total numbers 1 b ∷ [])) (sym (told_none (Joint 0 (opening season) (index_of season (full_stocks season))) 1 (λ p. none p.live))) (sym (told_none (Joint 0 (opening season) (index_of season (full_stocks season))) 2 (λ p. none p.live)))

-- ---- the opening's place

-- where it is found, there it stands
pub opening_at : (season : Season) (live : List (ℕ × Summary)) (at : ℕ) (s : Summary) (rules : Rulebook) → live ≡ live_pairs season.rules → rules ≡ season.rules → s ≡ summary rules [] → slice_get (at_week 0 live) at ≡ Some s → slice_get (live_summaries season.rules 0) at ≡ Some (opening season)
opening_at season live at s rules is same start there = live_here season live 0 at s is (omega arith) there ∙ ap Some (start ∙ ap (λ r. summary r []) same)

-- where it isn't found, it isn't live
pub opening_none : (season : Season) (live : List (ℕ × Summary)) (s : Summary) (rules : Rulebook) (found : Option ℕ) → live ≡ live_pairs season.rules → rules ≡ season.rules → s ≡ summary rules [] → ((k : ℕ) → slice_get (at_week 0 live) k ≡ Some s → found ≡ Some k) → found ≡ None → IsIn (live_summaries season.rules 0) (opening season) → ⊥
opening_none season live s rules found is same start listed none h =
    let there : slice_get (at_week 0 live) h.0 ≡ Some s = ap (λ (l : List Summary). slice_get l h.0) (live_week season live 0 is (omega arith)) ∙ (h.1 ∙ ap Some (sym (start ∙ ap (λ r. summary r []) same))) in
    clash (sym none ∙ listed h.0 there)
  where
    clash : {X : Type 0} {x : X} → None ≡ Some x → ⊥
    clash e = cc

pub value_room : (season : Season) (live : List (ℕ × Summary)) (at store : ℕ) (s : Summary) (tables : Tables) → live ≡ live_pairs season.rules → slice_get (at_week 0 live) at ≡ Some s → 1 ≤ store → store ≤ length season.stores → AreTables season tables →
    (at + 1) * stock_count season store ≤ length (get_or tables.values (row_number store 0) [])
value_room season live at store s tables is there low high are =
    let rows : AreRows season store 0 (get_or tables.values (row_number store 0) []) = value_rows season store 0 tables low high (omega arith) are in
    let less : at < length (live_summaries season.rules 0) = place_low season 0 at s live is (omega arith) there in
    let part : (at + 1) * stock_count season store ≤ length (live_summaries season.rules 0) * stock_count season store = mul-le-mul_right (stock_count season store) (omega (arith, less)) in
    omega (arith, part, rows.size)

-- ---- the numbers of all stores

module _ (season : Season) (lines : List (List ℕ)) (row : ℕ) (tables : Tables) (numbers : List ℤ) (found : Option Fault) (ok : IsSeason season) where
  -- the line's own numbers
  answer_told : (done : ℕ) (s : Summary) (index rung : ℕ) (low top : ℤ) → index < stock_lists season.stores → pos rung ≡ get_or numbers 0 (pos 0) → low ≡ get_or numbers 1 (pos 0) → top ≡ get_or numbers 2 (pos 0) → numbers_told season lines (Joint done s index) ≡ numbers →
      (rung, low, top) ≡ (entries_in season lines).joint done s (stocks_at season index)
  unfolding entries_in
  answer_told done s index rung low top inside rung_is low_is top_is tells =
      let at : index_of season (stocks_at season index) ≡ index = index_at season index inside in
      let same : numbers ≡ numbers_told season lines (Joint done s (index_of season (stocks_at season index))) = sym tells ∙ ap (λ i. numbers_told season lines (Joint done s i)) (sym at) in
      ap₂ (λ n (v : ℤ × ℤ). three n v) (ap unsigned_abs rung_is) (ap₂ (λ a b. two a b) low_is top_is)
      ∙ ap (λ (ns : List ℤ). three (unsigned_abs (get_or ns 0 (pos 0))) (two (get_or ns 1 (pos 0)) (get_or ns 2 (pos 0)))) same
    where
      two : ℤ → ℤ → ℤ × ℤ
      two a b = (a, b)

      three : ℕ → ℤ × ℤ → ℕ × ℤ × ℤ
      three n v = (n, v.0, v.1)

  pub joint_is : (done : ℕ) (s : Summary) (index rung : ℕ) (low top : ℤ) (lows tops : List ℤ) → IsJointPlace season done s index → done < season.rules.weeks → pos rung ≡ get_or numbers 0 (pos 0) → low ≡ get_or numbers 1 (pos 0) → top ≡ get_or numbers 2 (pos 0) →
      lows ≡ get_or tables.joint_lows (suc done % 2) [] → tops ≡ get_or tables.joint_tops (suc done % 2) [] → IsLineKept season lines row (Joint done s index) tables numbers →
      ((entries : CertEntries) → HasLows season entries (suc done) lows → HasTops season entries (suc done) tops → found ≡ first_fault (joint_conditions season entries done s (stocks_at season index) (rung, low, top))) →
      found ≡ first_fault (conditions season (entries_in season lines) numbers (Joint done s index))
  unfolding conditions entries_in
  joint_is done s index rung low top lows tops place early rung_is low_is top_is lows_is tops_is kept all =
      all (entries_in season lines) (λ at i t there inside. (rows at i t there inside).0) (λ at i t there inside. (rows at i t there inside).1)
      ∙ ap (λ answer. first_fault (joint_conditions season (entries_in season lines) done s (stocks_at season index) answer)) (answer_told done s index rung low top place.within rung_is low_is top_is kept.tells)
    where
      rows : (at i : ℕ) (t : Summary) → slice_get (live_summaries season.rules (suc done)) at ≡ Some t → i < stock_lists season.stores →
          (((entries_in season lines).joint (suc done) t (stocks_at season i)).1 ≡ get_or lows (at * stock_lists season.stores + i) (pos 0)) × (((entries_in season lines).joint (suc done) t (stocks_at season i)).2 ≡ get_or tops (at * stock_lists season.stores + i) (pos 0))
      rows at i t there inside =
          let same : live_place season (suc done) t ≡ at = live_once season.rules (suc done) (live_place season (suc done) t) at t (live_at season (suc done) t (at, there)) there in
          let own : index_of season (stocks_at season i) ≡ i = index_at season i inside in
          let held = held_line season lines row (Joint done s index) (Joint (suc done) t i) tables numbers ok kept (joint_place season (suc done) t i place.fit (omega (arith, early)) (record { at = at; here = there }) inside) (omega (arith, early)) (omega arith) in (
            ap (λ n. told season lines (Joint (suc done) t n) 1) own ∙ (sym held.0 ∙ (ap (λ n. kept_at tables.joint_lows (suc done % 2) (n * stock_lists season.stores + i)) same ∙ ap (λ (r : List ℤ). get_or r (at * stock_lists season.stores + i) (pos 0)) (sym lows_is))),
            ap (λ n. told season lines (Joint (suc done) t n) 2) own ∙ (sym held.1 ∙ (ap (λ n. kept_at tables.joint_tops (suc done % 2) (n * stock_lists season.stores + i)) same ∙ ap (λ (r : List ℤ). get_or r (at * stock_lists season.stores + i) (pos 0)) (sym tops_is))),
          )

  pub last_joint_is : (done : ℕ) (s : Summary) (index : ℕ) (low top : ℤ) → IsJointPlace season done s index → done ≡ season.rules.weeks → pos 0 ≡ get_or numbers 0 (pos 0) → low ≡ get_or numbers 1 (pos 0) → top ≡ get_or numbers 2 (pos 0) → IsLineKept season lines row (Joint done s index) tables numbers →
      ((entries : CertEntries) (t : Summary) (rung : ℕ) → found ≡ first_fault (joint_conditions season entries season.rules.weeks t (stocks_at season index) (rung, low, top))) →
      found ≡ first_fault (conditions season (entries_in season lines) numbers (Joint done s index))
  unfolding conditions
  last_joint_is done s index low top place e rung_is low_is top_is kept all =
      all (entries_in season lines) s 0
      ∙ (ap (λ n. first_fault (joint_conditions season (entries_in season lines) n s (stocks_at season index) (0, low, top))) (sym e)
      ∙ ap (λ answer. first_fault (joint_conditions season (entries_in season lines) done s (stocks_at season index) answer)) (answer_told done s index 0 low top place.within rung_is low_is top_is kept.tells))

-- a row of one week has a number for each list of stocks
pub joint_room : (season : Season) (live : List (ℕ × Summary)) (at most : ℕ) (s : Summary) (rows : List (List ℤ)) → live ≡ live_pairs season.rules → slice_get (at_week 0 live) at ≡ Some s → length (live_summaries season.rules 0) ≤ most → AreRowsOf 2 (λ row. most * stock_lists season.stores) most_entry rows →
    at * stock_lists season.stores + (stock_lists season.stores - 1) < length (get_or rows 0 [])
joint_room season live at most s rows is there room are =
    let size : length (get_or rows 0 []) ≡ most * stock_lists season.stores = are.sizes 0 (omega arith) in
    let less : at < length (live_summaries season.rules 0) = place_low season 0 at s live is (omega arith) there in
    let part : suc at * stock_lists season.stores ≤ most * stock_lists season.stores = mul-le-mul_right (stock_lists season.stores) (omega (arith, less, room)) in
    let wide : suc at * stock_lists season.stores ≡ at * stock_lists season.stores + stock_lists season.stores = more at (stock_lists season.stores) in
    let some : 1 ≤ stock_lists season.stores = one_list season.stores in
    omega (arith, size, part, wide, some)
  where
    more : (a b : ℕ) → suc a * b ≡ a * b + b
    more a b = grind arith

pub joint_small : (season : Season) (live : List (ℕ × Summary)) (at lists : ℕ) (s : Summary) → IsSeason season → live ≡ live_pairs season.rules → slice_get (at_week 0 live) at ≡ Some s → lists ≤ 16032024008001 → at * lists ≤ 40000000000000000
joint_small season live at lists s ok is there few =
    let less : at < length (live_summaries season.rules 0) = place_low season 0 at s live is (omega arith) there in
    let most : length (live_summaries season.rules 0) ≤ 1872 = few_live season 0 ok in
    let small : at ≤ 2000 = omega (arith, less, most) in
    let p : at * lists ≤ 2000 * 16032024008001 = mul-le-mul small few in
    omega (arith, p)

-- the numbers of a line of all stores
pub joint_entries : (most : ℕ) (numbers : List ℤ) → length numbers ≡ 3 → IsTrue (list_all (is_within most) (drop 1 numbers)) → IsWithin most (get_or numbers 1 (pos 0)) × IsWithin most (get_or numbers 2 (pos 0))
joint_entries most [] size h = absurd (omega (arith, size))
joint_entries most (n ∷ rest) size h = (all_small most rest h 0 (omega (arith, size)), all_small most rest h 1 (omega (arith, size)))

pub joint_rung_read : (season : Season) (done : ℕ) (number : ℤ) → IsSeason season → done < season.rules.weeks → IsTrue (is_joint_rung season done number) → pos (nat_abs (to_z w128 (of_z w128 number))) ≡ number
joint_rung_read season done number ok early h =
    let other : (done == season.rules.weeks) ≡ false = grind arith in
    let rung : IsTrue (is_rung season number) = subst (λ b. IsTrue (cond b (int_le (pos 0) number && int_le number (pos 0)) (is_rung season number))) other h in
    let parts = and_parts (int_le (pos 1) number) (int_le number (pos (length season.rules.prices))) rung in
    let small = rung_number (length season.rules.prices) number (at_most_is (pos 1) number parts.0) (at_most_is number (pos (length season.rules.prices)) parts.1) in
    read number small.0 small.1.0 (below small.0 (length season.rules.prices) small.1.1.1 ok.rules.ladder.few)
  where
    below : (a b : ℕ) → a ≤ b → b ≤ 12 → a ≤ 12
    below a b p q = omega arith

    read : (z : ℤ) (n : ℕ) → z ≡ pos n → n ≤ 12 → pos (nat_abs (to_z w128 (of_z w128 z))) ≡ z
    read z n e few = ap (λ v. pos (nat_abs (to_z w128 (of_z w128 v)))) e ∙ (ap (λ v. pos (nat_abs v)) (read_128 (pos n) 12 (within_pos 12 n few) (omega arith)) ∙ sym e)

pub joint_none_read : (season : Season) (done : ℕ) (number : ℤ) → done ≡ season.rules.weeks → IsTrue (is_joint_rung season done number) → pos 0 ≡ number
joint_none_read season done number e h =
    let same : (done == season.rules.weeks) ≡ true = eq-eqb done season.rules.weeks e in
    equal_is (pos 0) number (subst (λ b. IsTrue (cond b (int_le (pos 0) number && int_le number (pos 0)) (is_rung season number))) same h)
