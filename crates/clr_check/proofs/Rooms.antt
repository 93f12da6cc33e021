-- Room for the numbers of a line, and the tables after it.
use Rattle.std.proofs.Common.{◌≡◌, ℕ, ◌*◌, ◌%◌, ◌<◌, ◌≤◌, IsTrue, ap, ◌∙◌, ◌&&◌, arith, List, [], ◌∷◌, length, get_or, drop, ℤ, pos, to_z, of_z, mul-le-mul_right}
use mir.Syntax.{w128}
use Rattle.std.specs.List.{list_all}
use Rattle.std.proofs.lemmas.Bool.{and_parts}
use Rattle.clr_average.specs.Average.{IsWithin}
use Rattle.clr_rules.specs.LiveSummaries.{live_summaries}
use Rattle.clr_season.specs.Season.{Season}
use Rattle.clr_model.specs.Fits.{stock_lists}
use Rattle.clr_cert.specs.Entries.{most_entry}
use Rattle.clr_cert.specs.Places.{IsWeekStore}
use Rattle.clr_cert.specs.Reading.{is_joint_rung, is_within, most_total}
use Rattle.clr_check.specs.declared.tables.Tables.{Tables}
use Rattle.clr_check.specs.Rows.{AreRowsOf, AreSmall, IsPut}
use Rattle.clr_check.specs.Standing.{AreTables, HasJointRoom, HasValueRoom, row_number, stock_count}
use Rattle.clr_check.proofs.Apart.{put_rows, row_number_less, row_store_is}
use Rattle.clr_check.proofs.Holding.{all_small}
use Rattle.clr_check.proofs.Kept.{with_highs, with_joints, with_lows, with_values}
use Rattle.clr_check.proofs.Sides.{read_128}

-- ---- room

pub value_room : (season : Season) (done store : ℕ) (tables : Tables) → IsWeekStore season done store → AreTables season tables → HasValueRoom season done store tables.values
value_room season done store tables place are =
    let inside : row_number store done < 2 * length season.stores = row_number_less store done (length season.stores) place.first place.last in
    let size : length (get_or tables.values (row_number store done) []) ≡ are.most * stock_count season store = are.values.sizes (row_number store done) inside ∙ ap (λ n. are.most * stock_count season n) (row_store_is store done place.first) in
    let room : length (live_summaries season.rules done) * stock_count season store ≤ are.most * stock_count season store = mul-le-mul_right (stock_count season store) (are.room done place.early) in
    record { count = omega (arith, inside, are.values.count); size = omega (arith, size, room) }

pub joint_room : (season : Season) (done most : ℕ) (rows : List (List ℤ)) → length (live_summaries season.rules done) ≤ most → AreRowsOf 2 (λ row. most * stock_lists season.stores) most_entry rows → HasJointRoom season done rows
joint_room season done most rows fewer are =
    let inside : done % 2 < 2 = omega arith in
    let size : length (get_or rows (done % 2) []) ≡ most * stock_lists season.stores = are.sizes (done % 2) inside in
    let room : length (live_summaries season.rules done) * stock_lists season.stores ≤ most * stock_lists season.stores = mul-le-mul_right (stock_lists season.stores) fewer in
    record { count = omega (arith, inside, are.count); size = omega (arith, size, room) }

-- ---- tables with other rows

module _ (season : Season) (t : Tables) (numbers : List ℤ) (are : AreTables season t) where
  pub lows_stay : (row from : ℕ) (rows : List (List ℤ)) → AreSmall most_entry numbers → IsPut t.lows row from numbers rows → AreTables season (with_lows t rows)
  lows_stay row from rows small put = record { most = are.most; path = are.path; room = are.room; mults = are.mults; lows = put_rows _ _ most_entry t.lows rows row from numbers are.lows small put; highs = are.highs; values = are.values; joint_lows = are.joint_lows; joint_tops = are.joint_tops }

  pub highs_stay : (row from : ℕ) (rows : List (List ℤ)) → AreSmall most_entry numbers → IsPut t.highs row from numbers rows → AreTables season (with_highs t rows)
  highs_stay row from rows small put = record { most = are.most; path = are.path; room = are.room; mults = are.mults; lows = are.lows; highs = put_rows _ _ most_entry t.highs rows row from numbers are.highs small put; values = are.values; joint_lows = are.joint_lows; joint_tops = are.joint_tops }

  pub values_stay : (row from : ℕ) (rows : List (List ℤ)) → AreSmall most_entry numbers → IsPut t.values row from numbers rows → AreTables season (with_values t rows)
  values_stay row from rows small put = record { most = are.most; path = are.path; room = are.room; mults = are.mults; lows = are.lows; highs = are.highs; values = put_rows _ _ most_entry t.values rows row from numbers are.values small put; joint_lows = are.joint_lows; joint_tops = are.joint_tops }

  pub joints_stay : (row from : ℕ) (ones twos : List ℤ) (lows tops : List (List ℤ)) → AreSmall most_entry ones → AreSmall most_entry twos → IsPut t.joint_lows row from ones lows → IsPut t.joint_tops row from twos tops → AreTables season (with_joints t lows tops)
  joints_stay row from ones twos lows tops small_ones small_twos put_low put_top = record {
    most = are.most;
    path = are.path;
    room = are.room;
    mults = are.mults;
    lows = are.lows;
    highs = are.highs;
    values = are.values;
    joint_lows = λ fit. put_rows _ _ most_entry t.joint_lows lows row from ones (are.joint_lows fit) small_ones put_low;
    joint_tops = λ fit. put_rows _ _ most_entry t.joint_tops tops row from twos (are.joint_tops fit) small_twos put_top;
  }

-- ---- the numbers of all stores

-- the two values in their range
pub joint_small : (season : Season) (done : ℕ) (numbers : List ℤ) → length numbers ≡ 3 → IsTrue (is_joint_rung season done (get_or numbers 0 (pos 0)) && list_all (is_within most_entry) (drop 1 numbers)) → IsWithin most_entry (get_or numbers 1 (pos 0)) × IsWithin most_entry (get_or numbers 2 (pos 0))
joint_small season done [] size h = absurd (omega (arith, size))
joint_small season done (n ∷ numbers) size h =
    let parts = and_parts (is_joint_rung season done n) (list_all (is_within most_entry) numbers) h in
    (all_small most_entry numbers parts.1 0 (omega (arith, size)), all_small most_entry numbers parts.1 1 (omega (arith, size)))

-- ---- totals

pub read_total : (numbers : List ℤ) (k : ℕ) → IsTrue (list_all (is_within most_total) numbers) → k < length numbers → to_z w128 (of_z w128 (get_or numbers k (pos 0))) ≡ get_or numbers k (pos 0)
read_total numbers k h less = read_128 (get_or numbers k (pos 0)) most_total (all_small most_total numbers h k less) (omega arith)
