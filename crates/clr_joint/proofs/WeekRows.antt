-- The rows of a week of all stores.
use Rattle.std.proofs.Common.{◌≡◌, ℕ, zero, suc, ◌+◌, ◌-◌, ◌*◌, ◌^◌, ◌<◌, ◌≤◌, ℤ, pos, neg_ℤ, ◌+ℤ◌, ◌≤ℤ◌, true, List, [], ◌∷◌, ◌++◌, length, get_or, slice_get, Some, refl, ap, sym, ◌∙◌, subst, subst₂, arith, le_trans, length-append, mul-le-mul, mul-le-mul_left}
use Rattle.std.proofs.Math.Nat.{pow-le-pow_right, pow-zero}
use Rattle.std.proofs.lemmas.Option.{slice_get-get_or}
use Rattle.clr_num.specs.Direction.{IsDirection}
use Rattle.clr_num.specs.Sums.{sum_of}
use Rattle.clr_stock.specs.Stock.{no_store}
use Rattle.clr_rules.specs.declared.season_rules.Summary.{Summary}
use Rattle.clr_rules.specs.LiveSummaries.{is_live_summary}
use Rattle.clr_rules.specs.Rules.{Rulebook}
use Rattle.clr_season.specs.Season.{Season, IsSeason, store_at}
use Rattle.clr_average.specs.Average.{IsWithin}
use Rattle.clr_average.proofs.Ring.{linear}
use Rattle.clr_model.specs.JointValue.{end_value, joint_value}
use Rattle.clr_model.specs.JointWeek.{joint_base}
use Rattle.clr_model.specs.Revenue.{full_stocks}
use Rattle.clr_model.proofs.Sizes.{store_within}
use Rattle.clr_model.proofs.Sums.{sum_of-le}
use Rattle.clr_rows.specs.Summaries.{live_week, summary_prefix}
use Rattle.clr_rows.specs.Rows.{AreRows, AreWithin, WeekRows}
use Rattle.clr_rows.proofs.Lists.{each_more}
use Rattle.clr_rows.proofs.Prefixes.{prefix_is}
use Rattle.clr_rows.proofs.WeekRows.{ends_by, in_some_row, live_at}
use Rattle.clr_joint.specs.BySummary.{by_place, summary_value}
use Rattle.clr_model.specs.Stocks.{lists_of, stocks_at}
use Rattle.clr_joint.specs.Weeks.{AreWeeks, IsWeek}
use Rattle.clr_joint.proofs.Grid.{AreHeld, held_at, units_at}
use Rattle.clr_joint.proofs.Sizes.{value_high, value_low, worth}

-- ---- how large

held_each : (units stocks : List ℕ) (i : ℕ) → AreHeld units stocks → get_or stocks i 0 ≤ get_or units i 0
held_each [] [] i held = omega arith
held_each [] (stock ∷ stocks) i held = absurd held
held_each (unit ∷ units) [] i held = absurd held
held_each (unit ∷ units) (stock ∷ stocks) zero held = held.0
held_each (unit ∷ units) (stock ∷ stocks) (suc i) held = held_each units stocks i held.1

all_same : (n k : ℕ) → sum_of n (λ i. pos k) ≡ pos (n * k)
all_same zero k = let none : 0 * k ≡ 0 = omega arith in ap pos (sym none)
all_same (suc n) k =
    let more : k + n * k ≡ suc n * k = omega arith in
    ap (λ t. pos k +ℤ t) (all_same n k) ∙ ap pos more

worth_most : (season : Season) (stocks : List ℕ) (is : IsSeason season) → AreHeld (full_stocks season) stocks → worth season is stocks ≤ℤ pos (length season.stores * 20000000000000000)
worth_most season stocks is held =
    subst (λ t. worth season is stocks ≤ℤ t) (all_same (length season.stores) 20000000000000000)
    (sum_of-le (length season.stores) (λ i. pos (10000000000000 * get_or stocks i 0)) (λ i. pos 20000000000000000)
    (λ i lt.
    let few : (store_at season (suc i)).units ≤ 2000 = (store_within season (suc i) is (omega arith) (omega (arith, lt))).units in
    let units : get_or (full_stocks season) i 0 ≡ (store_at season (suc i)).units = units_at season.stores i no_store lt in
    let kept : get_or stocks i 0 ≤ 2000 = omega (arith, held_each (full_stocks season) stocks i held, units, few) in
    at_most (10000000000000 * get_or stocks i 0) (mul-le-mul_left 10000000000000 kept)))
  where
    at_most : (n : ℕ) → n ≤ 10000000000000 * 2000 → pos n ≤ℤ pos 20000000000000000
    at_most n le = omega (arith, linear)

value_within : (low high : ℕ) (value : ℤ) → low ≤ 1000000000000000000 → high ≤ 1000000000000000000 → neg_ℤ (pos low) ≤ℤ value → value ≤ℤ pos high → IsWithin 1000000000000000000 value
value_within low high value a b p q = record { low = omega (arith, linear); high = omega (arith, linear) }

above : (value top : ℤ) (high : ℕ) → value ≤ℤ top → top ≤ℤ pos high → value ≤ℤ pos high
above value top high p q = omega (arith, linear)

module _ (leans : ℤ → ℤ → Type 0) (div : ℤ → ℕ → ℤ) (laws : IsDirection leans div) (season : Season) (is : IsSeason season) (few : length season.stores ≤ 4) where
  base_some : 1 ≤ joint_base season
  base_some = let power : season.base ^ 0 ≡ 1 = pow-zero season.base in let none : 1 ≤ season.base ^ 0 = omega (arith, power) in let some : 0 ≤ length season.stores = omega arith in le_trans none (pow-le-pow_right is.least_base some)

  pub summary_within : (done : ℕ) (s : Summary) (stocks : List ℕ) → done ≤ season.rules.weeks → is_live_summary season.rules done s ≡ true → AreHeld (full_stocks season) stocks → IsWithin 1000000000000000000 (summary_value div season done s stocks)
  summary_within done s stocks early live held =
      let of = prefix_is season.rules done s live in
      let weeks : ℕ = season.rules.weeks - length (summary_prefix season.rules done s) in
      let whole : length (summary_prefix season.rules done s) + (season.rules.weeks - length (summary_prefix season.rules done s)) ≡ season.rules.weeks = omega (arith, of.long, early) in
      let most : season.rules.weeks - length (summary_prefix season.rules done s) ≤ 52 = omega (arith, is.rules.last_week) in
      let cost : length season.stores * 10000000000000 * (season.rules.weeks - length (summary_prefix season.rules done s)) ≤ (4 * 10000000000000) * 52 = mul-le-mul (four few) most in
      value_within (length season.stores * 10000000000000 * (season.rules.weeks - length (summary_prefix season.rules done s))) (length season.stores * 20000000000000000) (summary_value div season done s stocks) (omega (arith, cost)) (omega (arith, few))
      (value_low season is leans div laws base_some (season.rules.weeks - length (summary_prefix season.rules done s)) (summary_prefix season.rules done s) stocks whole of.live)
      (above (summary_value div season done s stocks) (worth season is stocks) (length season.stores * 20000000000000000)
      (value_high season is leans div laws base_some (season.rules.weeks - length (summary_prefix season.rules done s)) (summary_prefix season.rules done s) stocks whole of.live)
      (worth_most season stocks is held))
    where
      four : length season.stores ≤ 4 → length season.stores * 10000000000000 ≤ 4 * 10000000000000
      four le = omega (arith, le)

  pub values_small : (done : ℕ) (items : List ℤ) → done ≤ season.rules.weeks → AreRows (pos 0) (lists_of (full_stocks season)) (live_week season.rules done) (length (live_week season.rules done)) (by_place season (summary_value div season done)) items → AreWithin 1000000000000000000 items
  values_small done items early are k lt =
      let (place, x, inside, low, e) = in_some_row (lists_of (full_stocks season)) (length (live_week season.rules done)) k (subst (λ n. k < n) are.size lt) in
      let s : Summary = get_or (live_week season.rules done) place (record { last = 1; count = 0; age = 1 }) in
      let at : slice_get (live_week season.rules done) place ≡ Some s = slice_get-get_or (live_week season.rules done) place (record { last = 1; count = 0; age = 1 }) inside in
      subst (IsWithin 1000000000000000000) (sym (ap (λ n. get_or items n (pos 0)) e ∙ are.each place x s inside at low))
      (summary_within done s (stocks_at (full_stocks season) x) early (live_at season.rules done place s early at) (held_at (full_stocks season) x low))

-- ---- at the end of the season

pub end_is : (div : ℤ → ℕ → ℤ) (season : Season) (s : Summary) (stocks : List ℕ) → is_live_summary season.rules season.rules.weeks s ≡ true → end_value season stocks ≡ summary_value div season season.rules.weeks s stocks
end_is div season s stocks live =
    let of = prefix_is season.rules season.rules.weeks s live in
    let none : 0 ≡ season.rules.weeks - length (summary_prefix season.rules season.rules.weeks s) = omega (arith, of.long) in
    ap (λ n. joint_value div season n (summary_prefix season.rules season.rules.weeks s) stocks) none

pub ends_are : (div : ℤ → ℕ → ℤ) (season : Season) (rules : Rulebook) (row items : List ℤ) → rules ≡ season.rules → length row ≡ lists_of (full_stocks season) → ((x : ℕ) → x < lists_of (full_stocks season) → get_or row x (pos 0) ≡ end_value season (stocks_at (full_stocks season) x)) →
    AreRows (pos 0) (length row) (live_week rules rules.weeks) (length (live_week rules rules.weeks)) (λ s x. get_or row x (pos 0)) items →
    AreRows (pos 0) (lists_of (full_stocks season)) (live_week season.rules season.rules.weeks) (length (live_week season.rules season.rules.weeks)) (by_place season (summary_value div season season.rules.weeks)) items
ends_are div season rules row items rules_is size worth are =
    ends_by rules season.rules (lists_of (full_stocks season)) row items (by_place season (summary_value div season season.rules.weeks)) rules_is size are (λ s x live lt. worth x lt ∙ end_is div season s (stocks_at (full_stocks season) x) live)

-- ---- one week more

pub weeks_more : (div : ℤ → ℕ → ℤ) (season : Season) (count : ℕ) (weeks : List WeekRows) (week : WeekRows) → AreWeeks div season count weeks → IsWeek div season (season.rules.weeks - count) week → AreWeeks div season (count + 1) (weeks ++ week ∷ [])
weeks_more div season count weeks week are here = record {
  size = length-append weeks (week ∷ []) ∙ ap (λ n. n + 1) are.size;
  each = each_more (λ k. IsWeek div season (season.rules.weeks - k)) weeks week (record { values = []; choices = [] }) count are.size are.each here;
}
