-- The numbers of a line: as many as its place asks for, each in its range.
use Rattle.std.proofs.Common.{◌≡◌, ℕ, ◌+◌, ◌*◌, ◌-◌, ◌<◌, ◌≤◌, Bool, true, false, cond, ◌==◌, ◌&&◌, refl, sym, ap, ◌∙◌, subst, arith, suc, zero, List, [], ◌∷◌, length, map, IsTrue, ℤ, pos, eqb→eq, Contains, le-leb, le_trans}
use Rattle.std.specs.Prelude.{int_le, unsigned_abs}
use Rattle.std.specs.Bool.{passes}
use Rattle.std.specs.List.{list_all}
use Rattle.std.proofs.lemmas.Bool.{and_from}
use Rattle.std.proofs.lemmas.Int.{ints}
use lib.ListN.{length-map}
use Rattle.clr_num.specs.Lists.{numbers}
use Rattle.clr_num.specs.Sums.{sum_of}
use Rattle.clr_average.specs.Average.{IsWithin}
use Rattle.clr_average.proofs.Within.{within_more, within_pos, within_sum}
use Rattle.clr_rules.specs.declared.season_rules.Summary.{Summary}
use Rattle.clr_rules.specs.Rules.{is_live}
use Rattle.clr_rules.proofs.GridLemmas.{length-numbers}
use Rattle.clr_season.specs.Season.{Season, IsSeason, store_at}
use Rattle.clr_model.specs.Fits.{stock_lists}
use Rattle.clr_model.specs.Revenue.{full_stocks}
use Rattle.clr_model.proofs.JointNumbers.{All-map_in}
use Rattle.clr_cert.specs.declared.place.Place.{Place}
use Rattle.clr_cert.specs.declared.place.Place.TheVariants.{Head, Lengths, Path, Mult, Low, High, Value, Joint, Revenue, Bound, Exact, End}
use Rattle.clr_cert.specs.Entries.{AreInRange, CertEntries, IsCell, IsJointAnswer, IsJointCell, ask_high, ask_joint, ask_low, ask_mult, ask_rung, ask_value, most_entry, most_mult}
use Rattle.clr_cert.specs.Lines.{full_stock, numbers_at, opening, opening_sum, stocks_at, stocks_of}
use Rattle.clr_cert.specs.Places.{IsPlaceOf, IsWeekStore, all_stocks, store_numbers, week_numbers}
use Rattle.clr_cert.specs.Reading.{are_in_range, count_at, is_joint_rung, is_rung, is_within, most_total}
use Rattle.clr_cert.proofs.StockLists.{last_list, list_held}
use Rattle.clr_cert.proofs.Walking.{is_live_in, some_stocks}
use Rattle.clr_written.proofs.Alls.{All-numbers, before_end, is_at_most, is_equal, size_within, tests_all}
use Rattle.clr_written.proofs.Keys.{units_few}
use Rattle.clr_written.proofs.Spelled.{AreTold, most_told}

-- ---- how many

pub count_is : (season : Season) (entries : CertEntries) (place : Place) → length (numbers_at season entries place) ≡ count_at season place
unfolding numbers_at
count_is season entries Head = refl
count_is season entries Lengths = refl
count_is season entries Path = length-map (week_numbers season) (λ week. pos (entries.rung week)) ∙ length-numbers 1 season.rules.weeks
count_is season entries (Mult week rung) = length-map (store_numbers season) (λ store. entries.mult store week rung) ∙ length-numbers 1 (length season.stores)
count_is season entries (Low done store) = length-map (stocks_of season store) (entries.low done store) ∙ length-numbers 0 (suc (store_at season store).units)
count_is season entries (High done store) = length-map (stocks_of season store) (entries.high done store) ∙ length-numbers 0 (suc (store_at season store).units)
count_is season entries (Value done store s) = length-map (stocks_of season store) (entries.value done store s) ∙ length-numbers 0 (suc (store_at season store).units)
count_is season entries (Joint done s index) = refl
count_is season entries Revenue = refl
count_is season entries Bound = refl
count_is season entries Exact = refl
count_is season entries End = refl

units_most : (season : Season) (store : ℕ) → IsSeason season → 1 ≤ store → suc (store_at season store).units ≤ 2001
units_most season zero ok first = absurd (omega arith)
units_most season (suc i) ok first = let few = units_few season i ok in omega (arith, few)

pub count_few : (season : Season) (place : Place) → IsSeason season → IsPlaceOf season place → count_at season place ≤ 2001
count_few season Head ok of = omega arith
count_few season Lengths ok of = omega arith
count_few season Path ok of = let weeks : season.rules.weeks ≤ 52 = ok.rules.last_week in omega (arith, weeks)
count_few season (Mult week rung) ok of = let stores : length season.stores ≤ 64 = ok.stores.few in omega (arith, stores)
count_few season (Low done store) ok of = units_most season store ok of.first
count_few season (High done store) ok of = units_most season store ok of.first
count_few season (Value done store s) ok of = units_most season store ok of.0.first
count_few season (Joint done s index) ok of = omega arith
count_few season Revenue ok of = omega arith
count_few season Bound ok of = omega arith
count_few season Exact ok of = omega arith
count_few season End ok of = omega arith

-- ---- ranges

-- numbers that pass a test, and can be told
pub record AreRanged (test : Bool) (numbers : List ℤ) : Type 0 where
  pub range : test ≡ true
  pub told : AreTold numbers

within_is : (most : ℕ) (number : ℤ) → IsWithin most number → is_within most number ≡ true
within_is most number h = le-leb (unsigned_abs number) most (size_within most number h)

told_is : (most : ℕ) (number : ℤ) → most ≤ most_told → IsWithin most number → unsigned_abs number ≤ most_told
told_is most number le h = let size = size_within most number h in omega (arith, size, le)

row_ranged : (most : ℕ) (f : ℕ → ℤ) (from count : ℕ) → most ≤ most_told → ((n : ℕ) → from ≤ n → n < from + count → IsWithin most (f n)) → AreRanged (list_all (is_within most) (map f (numbers from count))) (map f (numbers from count))
row_ranged most f from count le h = record {
  range = tests_all (is_within most) (map f (numbers from count)) (All-map_in (λ number. is_within most number ≡ true) f (numbers from count) (All-numbers (λ n. is_within most (f n) ≡ true) from count (λ n low high. within_is most (f n) (h n low high))));
  told = All-map_in (λ number. unsigned_abs number ≤ most_told) f (numbers from count) (All-numbers (λ n. unsigned_abs (f n) ≤ most_told) from count (λ n low high. told_is most (f n) le (h n low high)));
}

rung_is : (season : Season) (rung : ℕ) → 1 ≤ rung → rung ≤ length season.rules.prices → is_rung season (pos rung) ≡ true
rung_is season rung low high = and_from (int_le (pos 1) (pos rung)) (int_le (pos rung) (pos (length season.rules.prices))) (is_at_most (pos 1) (pos rung) (omega (arith, ints))) (is_at_most (pos rung) (pos (length season.rules.prices)) (omega (arith, ints)))

-- of three numbers the first passes one test, and the others lie within the limit of an entry
three_ranged : (test : Bool) (rung : ℕ) (low top : ℤ) → test ≡ true → rung ≤ 12 → IsWithin most_entry low → IsWithin most_entry top → AreRanged (test && list_all (is_within most_entry) (low ∷ top ∷ [])) (pos rung ∷ low ∷ top ∷ [])
three_ranged test rung low top pass few a b = record {
  range = and_from test (list_all (is_within most_entry) (low ∷ top ∷ [])) pass (and_from (is_within most_entry low) (is_within most_entry top && true) (within_is most_entry low a) (and_from (is_within most_entry top) true (within_is most_entry top b) refl));
  told = (omega (arith, few), (told_is most_entry low (omega arith) a, (told_is most_entry top (omega arith) b, tt)));
}

one_ranged : (sum : ℤ) → IsWithin most_total sum → AreRanged (list_all (is_within most_total) (sum ∷ [])) (sum ∷ [])
one_ranged sum h = record { range = and_from (is_within most_total sum) true (within_is most_total sum h) refl; told = (told_is most_total sum (omega arith) h, tt) }

two_ranged : (low high : ℤ) → IsWithin most_total low → IsWithin most_total high → AreRanged (list_all (is_within most_total) (low ∷ high ∷ [])) (low ∷ high ∷ [])
two_ranged low high a b = record {
  range = and_from (is_within most_total low) (is_within most_total high && true) (within_is most_total low a) (and_from (is_within most_total high) true (within_is most_total high b) refl);
  told = (told_is most_total low (omega arith) a, (told_is most_total high (omega arith) b, tt));
}

-- ---- sums over the stores

sum_within : (count : ℕ) (f : ℕ → ℤ) → ((i : ℕ) → i < count → IsWithin most_entry (f i)) → IsWithin (count * most_entry) (sum_of count f)
sum_within zero f h = within_pos (0 * most_entry) 0 (omega arith)
sum_within (suc count) f h =
    let more : most_entry + count * most_entry ≡ suc count * most_entry = omega arith in
    subst (λ n. IsWithin n (sum_of (suc count) f)) more
    (within_sum most_entry (count * most_entry) (f 0) (sum_of count (λ i. f (suc i))) (h 0 (omega arith)) (sum_within count (λ i. f (suc i)) (λ i less. h (suc i) (omega arith))))

opening_within : (season : Season) (value : ℕ → ℕ → ℤ) → IsSeason season → ((store : ℕ) → IsCell season 0 store (full_stock season store) → IsWithin most_entry (value store (full_stock season store))) → IsWithin most_total (opening_sum season value)
opening_within season value ok h =
    let stores : length season.stores ≤ 64 = ok.stores.few in
    within_more (length season.stores * most_entry) most_total (opening_sum season value)
    (sum_within (length season.stores) (λ i. value (suc i) (full_stock season (suc i))) (λ i less. h (suc i) (record { early = omega arith; first = omega arith; last = less; held = omega arith })))
    (omega (arith, stores))

-- ---- the numbers of a place

pub full_held : (season : Season) → Contains (all_stocks season.stores) (full_stocks season)
full_held season = let some = some_stocks season.stores in list_held season.stores (stock_lists season.stores - 1) (full_stocks season) (omega (arith, some)) (sym (last_list season.stores))

module _ (season : Season) (entries : CertEntries) (ok : IsSeason season) (any : IsTrue (is_live season.rules [])) (range : AreInRange season entries) where
  cell_of : (done store stock : ℕ) → IsWeekStore season done store → stock < 0 + suc (store_at season store).units → IsCell season done store stock
  cell_of done store stock of less = record { early = of.early; first = of.first; last = of.last; held = omega arith }

  joint_ranged : (done : ℕ) (s : Summary) (stocks : List ℕ) → IsJointCell season done s stocks → IsJointAnswer season done (entries.joint done s stocks)
  joint_ranged done s stocks of = range (ask_joint done s stocks) of

  path_ranged : AreRanged (list_all (is_rung season) (map (λ week. pos (entries.rung week)) (week_numbers season))) (map (λ week. pos (entries.rung week)) (week_numbers season))
  path_ranged =
      let few : length season.rules.prices ≤ 12 = ok.rules.ladder.few in
      let each : (week : ℕ) → 1 ≤ week → week < 1 + season.rules.weeks → (1 ≤ entries.rung week) × (entries.rung week ≤ length season.rules.prices) = λ week low high. range (ask_rung week) (low, omega arith) in
      record {
        range =
            tests_all (is_rung season) (map (λ week. pos (entries.rung week)) (week_numbers season))
            (All-map_in (λ number. is_rung season number ≡ true) (λ week. pos (entries.rung week)) (week_numbers season)
            (All-numbers (λ week. is_rung season (pos (entries.rung week)) ≡ true) 1 season.rules.weeks (λ week low high. let r = each week low high in rung_is season (entries.rung week) r.0 r.1)));
        told =
            All-map_in (λ number. unsigned_abs number ≤ most_told) (λ week. pos (entries.rung week)) (week_numbers season)
            (All-numbers (λ week. unsigned_abs (pos (entries.rung week)) ≤ most_told) 1 season.rules.weeks (λ week low high. small (entries.rung week) (each week low high).1 few));
      }
    where
      small : (rung : ℕ) → rung ≤ length season.rules.prices → length season.rules.prices ≤ 12 → unsigned_abs (pos rung) ≤ most_told
      small rung a b = omega (arith, a, b)

  joint_line : (done : ℕ) (answer : ℕ × ℤ × ℤ) → done ≤ season.rules.weeks → IsJointAnswer season done answer →
      AreRanged (is_joint_rung season done (pos answer.0) && list_all (is_within most_entry) (answer.1 ∷ answer.2 ∷ [])) (pos answer.0 ∷ answer.1 ∷ answer.2 ∷ [])
  joint_line done answer early h = by_week (done == season.rules.weeks) refl
    where
      shape : Bool → Bool
      shape b = cond b (int_le (pos 0) (pos answer.0) && int_le (pos answer.0) (pos 0)) (is_rung season (pos answer.0))

      by_week : (b : Bool) → (done == season.rules.weeks) ≡ b → AreRanged (is_joint_rung season done (pos answer.0) && list_all (is_within most_entry) (answer.1 ∷ answer.2 ∷ [])) (pos answer.0 ∷ answer.1 ∷ answer.2 ∷ [])
      by_week true e =
          let none : answer.0 ≡ 0 = h.none (eqb→eq done season.rules.weeks (passes _ e)) in
          three_ranged (is_joint_rung season done (pos answer.0)) answer.0 answer.1 answer.2 (ap shape e ∙ is_equal (pos 0) (pos answer.0) (ap pos (sym none))) (omega (arith, none)) h.low h.top
      by_week false e =
          let some = h.rung (before_end done season.rules.weeks early e) in
          let few : length season.rules.prices ≤ 12 = ok.rules.ladder.few in
          three_ranged (is_joint_rung season done (pos answer.0)) answer.0 answer.1 answer.2 (ap shape e ∙ rung_is season answer.0 some.0 some.1) (le_trans some.1 few) h.low h.top

  pub ranged : (place : Place) → IsPlaceOf season place → AreRanged (are_in_range season place (numbers_at season entries place)) (numbers_at season entries place)
  unfolding numbers_at
  ranged Head of = record { range = refl; told = tt }
  ranged Lengths of = record { range = refl; told = tt }
  ranged Path of = path_ranged
  ranged (Mult week rung) of =
      row_ranged most_mult (λ store. entries.mult store week rung) 1 (length season.stores) (omega arith)
      (λ store low high. range (ask_mult store week rung) (record { first_store = low; last_store = omega arith; first_week = of.first_week; last_week = of.last_week; first_rung = of.first_rung; last_rung = of.last_rung }))
  ranged (Low done store) of = row_ranged most_entry (entries.low done store) 0 (suc (store_at season store).units) (omega arith) (λ stock low high. range (ask_low done store stock) (cell_of done store stock of high))
  ranged (High done store) of = row_ranged most_entry (entries.high done store) 0 (suc (store_at season store).units) (omega arith) (λ stock low high. range (ask_high done store stock) (cell_of done store stock of high))
  ranged (Value done store s) of =
      row_ranged most_entry (entries.value done store s) 0 (suc (store_at season store).units) (omega arith)
      (λ stock low high. range (ask_value done store s stock) (record { cell = cell_of done store stock of.0 high; live = is_live_in season done s ok of.0.early of.1 }))
  ranged (Joint done s index) of =
      let cell : IsJointCell season done s (stocks_at season index) = record { fit = of.fit; early = of.early; live = is_live_in season done s ok of.early of.live; held = list_held season.stores index (stocks_at season index) of.within refl } in
      joint_line done (entries.joint done s (stocks_at season index)) of.early (joint_ranged done s (stocks_at season index) cell)
  ranged Revenue of = two_ranged (opening_sum season (entries.low 0)) (opening_sum season (entries.high 0)) (opening_within season (entries.low 0) ok (λ store cell. range (ask_low 0 store (full_stock season store)) cell)) (opening_within season (entries.high 0) ok (λ store cell. range (ask_high 0 store (full_stock season store)) cell))
  ranged Bound of =
      one_ranged (opening_sum season (λ store stock. entries.value 0 store (opening season) stock))
      (opening_within season (λ store stock. entries.value 0 store (opening season) stock) ok (λ store cell. range (ask_value 0 store (opening season) (full_stock season store)) (record { cell = cell; live = ([], refl, any, refl) })))
  ranged Exact of =
      let answer : IsJointAnswer season 0 (entries.joint 0 (opening season) (full_stocks season)) = joint_ranged 0 (opening season) (full_stocks season) (record { fit = of; early = omega arith; live = ([], refl, any, refl); held = full_held season }) in
      two_ranged (entries.joint 0 (opening season) (full_stocks season)).1 (entries.joint 0 (opening season) (full_stocks season)).2 (within_more most_entry most_total _ answer.low (omega arith)) (within_more most_entry most_total _ answer.top (omega arith))
  ranged End of = record { range = refl; told = tt }
