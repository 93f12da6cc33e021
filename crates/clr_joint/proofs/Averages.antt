-- A week's averages, by summary and list of stocks.
use Rattle.std.proofs.Common.{◌≡◌, ℕ, suc, ◌+◌, ◌-◌, ◌*◌, ◌^◌, ◌≤◌, ◌<◌, ℤ, pos, ◌+ℤ◌, ◌*ℤ◌, List, ◌++◌, length, get_or, slice_get, Some, arith, ap, ap₂, sym, ◌∙◌, subst, inl, inr, length-append}
use Rattle.std.proofs.Math.ListN.{get_or-append}
use mathlib.Core.Path.{fun_ext}
use Rattle.std.proofs.lemmas.Bool.{cases_lt}
use Rattle.std.proofs.lemmas.List.{get_or-append-add}
use Rattle.clr_num.specs.Direction.{IsDirection}
use Rattle.clr_rules.specs.declared.season_rules.Summary.{Summary}
use Rattle.clr_season.specs.Season.{Season, IsSeason}
use Rattle.clr_average.specs.Average.{IsWithin}
use Rattle.clr_average.proofs.Sums.{sum_over-same}
use Rattle.clr_average.proofs.Within.{within_more, within_quotient}
use Rattle.clr_model.specs.Expected.{week_chance}
use Rattle.clr_model.specs.JointFold.{fold_stores}
use Rattle.clr_model.specs.JointWeek.{joint_base, joint_weighed}
use Rattle.clr_model.specs.Policies.{joint_demands}
use Rattle.clr_model.specs.Revenue.{earn, full_stocks, of_store, stocks_left, sum_stores}
use Rattle.clr_model.proofs.JointFold.{joint_sum_by_stores_lem}
use Rattle.clr_rows.specs.Rows.{AreRows, AreWithin, row_at}
use Rattle.clr_rows.proofs.Lists.{get_or-row_at}
use Rattle.clr_joint.specs.BySummary.{average_into, by_place, summary_value}
use Rattle.clr_joint.specs.Folds.{AreFolded, fold_reach}
use Rattle.clr_model.specs.Stocks.{lists_of, place_in, stocks_at}
use Rattle.clr_joint.proofs.Grid.{AreHeld, held_at, held_left, last_units_all, length-full_stocks, length-stocks_at, place_inside, stocks_back}

-- ---- one row

-- all stores are folded into the sum over the joint demands
pub all_folded : (season : Season) (done rung place : ℕ) (row items : List ℤ) → IsSeason season → done < season.rules.weeks → 1 ≤ rung → rung ≤ length season.rules.prices → length row ≡ lists_of (full_stocks season) →
    AreFolded season done rung (length season.stores) row items → place < length row →
    get_or items place (pos 0) ≡ joint_weighed season done rung rung (stocks_at (full_stocks season) place) (λ week rest. get_or row (place_in (full_stocks season) rest) (pos 0))
all_folded season done rung place row items is early low high size are lt =
    let start : suc (length season.stores - length season.stores) ≡ 1 = omega arith in
    let here : 0 * lists_of (full_stocks season) + place ≡ place = omega arith in
    let all : get_or items (0 * lists_of (full_stocks season) + place) (pos 0)
    ≡ fold_stores season done rung rung (suc (length season.stores - length season.stores)) (stocks_at (full_stocks season) place) (λ rest. get_or row (0 * lists_of (full_stocks season) + place_in (full_stocks season) rest) (pos 0))
    = subst (λ (us : List ℕ). place < lists_of us → 0 * lists_of us + place < length row → get_or items (0 * lists_of us + place) (pos 0) ≡ fold_stores season done rung rung (suc (length season.stores - length season.stores)) (stocks_at us place) (λ rest. get_or row (0 * lists_of us + place_in us rest) (pos 0)))
    (last_units_all season) (are.each 0 place) (subst (λ n. place < n) size lt) (subst (λ n. n < length row) (sym here) lt) in
    ap (λ n. get_or items n (pos 0)) (sym here)
    ∙ (all
    ∙ (ap₂ (λ n (v : List ℕ → ℤ). fold_stores season done rung rung n (stocks_at (full_stocks season) place) v) start (fun_ext (λ rest. ap (λ n. get_or row n (pos 0)) (blockless (lists_of (full_stocks season)) (place_in (full_stocks season) rest))))
    ∙ sym (joint_sum_by_stores_lem season done rung rung (stocks_at (full_stocks season) place) (λ rest. get_or row (place_in (full_stocks season) rest) (pos 0)) is (length-stocks_at (full_stocks season) place ∙ length-full_stocks season) early low high)))
  where
    blockless : (a b : ℕ) → 0 * a + b ≡ b
    blockless a b = omega arith

pub quotient_small : (leans : ℤ → ℤ → Type 0) (div : ℤ → ℕ → ℤ) → IsDirection leans div → (season : Season) (item : ℤ) → length season.stores ≤ 4 → 1 ≤ season.base ^ length season.stores → IsWithin (fold_reach season.base (length season.stores)) item →
    IsWithin 2000000000000000000 (div item (joint_base season))
quotient_small leans div laws season item few some within =
    within_more (1000000000000000000 + length season.stores * 20000000000000000) 2000000000000000000 (div item (joint_base season)) (within_quotient leans div laws item (joint_base season) (1000000000000000000 + length season.stores * 20000000000000000) some within) (omega (arith, few))

-- ---- the averages of a summary

weighed_same : (season : Season) (done rung : ℕ) (stocks : List ℕ) (f g : List ℕ → ℤ) → AreHeld (full_stocks season) stocks → ((rest : List ℕ) → AreHeld (full_stocks season) rest → f rest ≡ g rest) →
    joint_weighed season done rung rung stocks (λ week rest. f rest) ≡ joint_weighed season done rung rung stocks (λ week rest. g rest)
weighed_same season done rung stocks f g held h =
    sum_over-same (joint_demands season) (λ week. week_chance season (suc done) rung week *ℤ (sum_stores season (λ store. earn season store rung rung (of_store stocks store) (of_store week store)) +ℤ f (stocks_left stocks week)))
    (λ week. week_chance season (suc done) rung week *ℤ (sum_stores season (λ store. earn season store rung rung (of_store stocks store) (of_store week store)) +ℤ g (stocks_left stocks week)))
    (λ week. ap (λ t. week_chance season (suc done) rung week *ℤ (sum_stores season (λ store. earn season store rung rung (of_store stocks store) (of_store week store)) +ℤ t)) (h (stocks_left stocks week) (held_left (full_stocks season) stocks week held)))

pub average_is : (div : ℤ → ℕ → ℤ) (season : Season) (done width place stocks_place : ℕ) (list : List Summary) (s : Summary) (after row : List ℤ) → width ≡ lists_of (full_stocks season) →
    AreRows (pos 0) width list (length list) (by_place season (summary_value div season (suc done))) after → slice_get list place ≡ Some s → place < length list → row ≡ row_at width after place → stocks_place < width →
    div (joint_weighed season done s.last s.last (stocks_at (full_stocks season) stocks_place) (λ week rest. get_or row (place_in (full_stocks season) rest) (pos 0))) (joint_base season) ≡ average_into div season done s (stocks_at (full_stocks season) stocks_place)
average_is div season done width place stocks_place list s after row width_is are at inside is lt =
    ap (λ t. div t (joint_base season))
    (weighed_same season done s.last (stocks_at (full_stocks season) stocks_place) (λ rest. get_or row (place_in (full_stocks season) rest) (pos 0)) (summary_value div season (suc done) s) (held_at (full_stocks season) stocks_place (subst (λ n. stocks_place < n) width_is lt))
    (λ rest held.
    let low : place_in (full_stocks season) rest < width = subst (λ n. place_in (full_stocks season) rest < n) (sym width_is) (place_inside (full_stocks season) rest held) in
    ap (λ (r : List ℤ). get_or r (place_in (full_stocks season) rest) (pos 0)) is
    ∙ (get_or-row_at width place (place_in (full_stocks season) rest) after (pos 0) low
    ∙ (are.each place (place_in (full_stocks season) rest) s inside at low ∙ ap (summary_value div season (suc done) s) (stocks_back (full_stocks season) rest held)))))

-- ---- rows one after another

pub within_append : (limit : ℕ) (xs ys : List ℤ) → AreWithin limit xs → AreWithin limit ys → AreWithin limit (xs ++ ys)
within_append limit xs ys first second k lt = elim (cases_lt k (length xs)) [
  | inl low ↦ subst (IsWithin limit) (sym (get_or-append xs ys (pos 0) k low)) (first k low)
  | inr late ↦
      let both : length (xs ++ ys) ≡ length xs + length ys = length-append xs ys in
      let back : length xs + (k - length xs) ≡ k = omega (arith, late) in
      subst (IsWithin limit) (sym (ap (λ n. get_or (xs ++ ys) n (pos 0)) (sym back) ∙ get_or-append-add xs ys (k - length xs) (pos 0))) (second (k - length xs) (omega (arith, lt, both, late)))
]
