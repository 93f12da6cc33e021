-- The values of a policy's parts.
use Rattle.std.proofs.Common.{◌≡◌, ℕ, zero, suc, ◌+◌, ◌-◌, ◌*◌, ◌≤◌, ◌<◌, min, ℤ, ◌+ℤ◌, ◌*ℤ◌, sym, ap, ◌∙◌, arith, List, [], ◌∷◌, ◌++◌, length, map, get_or, take, drop, mul-le-mul}
use Rattle.std.proofs.Math.Seq.{take-append_seam}
use Rattle.clr_average.proofs.Sums.{sum_over-same}
use Rattle.clr_stock.specs.Stock.{Store}
use Rattle.clr_season.specs.Season.{Season, IsSeason}
use Rattle.clr_model.specs.Policies.{joint_demands}
use Rattle.clr_model.specs.Revenue.{earn, full_stocks, left, of_store, stocks_left, sum_stores}
use Rattle.clr_model.specs.Expected.{week_chance}
use Rattle.clr_model.specs.JointWeek.{joint_base, joint_weighed}
use Rattle.clr_policy.specs.Written.{Written, finish, choose, ask, object_count, IsPolicy, IsPolicyFor}
use Rattle.clr_policy.specs.Judged.{most_policy_size, policy_size, stock_demands}
use Rattle.clr_policy.proofs.Enclosures.{no_weeks}
use Rattle.clr_policy.specs.Unrolled.{tree_value, unroll}
use Rattle.clr_model.specs.Stocks.{lists_of, place_in}
use Rattle.clr_policy.specs.StockLists.{AreValues, AreWithin, at_place, most_gain, most_reach, most_total, reach_left}
use Rattle.std.proofs.lemmas.Int.{to_z-of_z}
use mir.Syntax.{w128}
use Rattle.clr_average.specs.Average.{IsWithin}
use Rattle.clr_average.proofs.Reading.{read}
use Rattle.clr_average.proofs.Within.{within_more}
use Rattle.clr_policy.proofs.StockSums.{in_128}

-- what a list holds after a write to all of it
pub written_back : (items now : List ℤ) (len : ℕ) → length now ≡ length items → len ≡ length items → take len (now ++ drop (length now) items) ≡ now
written_back items now len same is =
    let all : len ≡ length now = is ∙ sym same in
    ap (λ n. take n (now ++ drop (length now) items)) all ∙ take-append_seam now (drop (length now) items)

left_within : (mosts stocks week : List ℕ) → AreWithin mosts stocks → AreWithin mosts (stocks_left stocks week)
left_within [] [] week h = tt
left_within [] (stock ∷ stocks) week h = absurd h
left_within (most ∷ mosts) [] week h = absurd h
left_within (most ∷ mosts) (stock ∷ stocks) [] h = h
left_within (most ∷ mosts) (stock ∷ stocks) (demand ∷ week) h = (less h.0, left_within mosts stocks week h.1)
  where
    less : stock ≤ most → left stock demand ≤ most
    less p = omega arith

-- a week in front of a policy
pub week_valued : (div : ℤ → ℕ → ℤ) (season : Season) (done next before rung : ℕ) (after : Written) (later now : List ℤ) → next ≡ suc done →
    AreValues (full_stocks season) (λ stocks. tree_value div season next rung stocks (unroll after stocks)) later → length now ≡ length later →
    ((stocks : List ℕ) → AreWithin (full_stocks season) stocks → at_place now (place_in (full_stocks season) stocks)
    ≡ div (joint_weighed season done before rung stocks (λ demands rest. at_place later (place_in (full_stocks season) rest))) (joint_base season)) →
    AreValues (full_stocks season) (λ stocks. tree_value div season done before stocks (unroll (choose rung after) stocks)) now
week_valued div season done next before rung after later now next_is are same each = record {
  size = same ∙ are.size;
  each = λ stocks held.
      each stocks held
      ∙ ap (λ n. div n (joint_base season))
      (sum_over-same (joint_demands season) _ _ (λ week. ap (λ t. week_chance season (suc done) rung week *ℤ (sum_stores season (λ store. earn season store before rung (of_store stocks store) (of_store week store)) +ℤ t))
      (are.each (stocks_left stocks week) (left_within (full_stocks season) stocks week held)
      ∙ ap (λ n. tree_value div season n rung (stocks_left stocks week) (unroll after (stocks_left stocks week))) next_is)));
}

pub reach_small : (weeks done : ℕ) → weeks ≤ 52 → reach_left (weeks - done) ≤ most_reach
reach_small weeks done short = let left : weeks - done + 1 ≤ 53 = omega (arith, short) in let gain : 64 * most_gain ≤ 64 * most_gain = omega arith in let few : (weeks - done + 1) * (64 * most_gain) ≤ 53 * (64 * most_gain) = mul-le-mul left gain in omega (arith, few)

pub reach_week : (weeks done : ℕ) → done < weeks → reach_left (weeks - (done + 1)) + 64 * most_gain ≡ reach_left (weeks - done)
reach_week weeks done lt = let more : weeks - done ≡ (weeks - (done + 1)) + 1 = omega (arith, lt) in rw more (omega arith)

-- ---- the size of a policy

-- a policy for some weeks has an object
some_object : (season : Season) (weeks : ℕ) (policy : Written) → 1 ≤ weeks → IsPolicyFor season weeks policy → 1 ≤ object_count policy
some_object season weeks finish some is = absurd (none (no_weeks season weeks is))
  where
    none : 0 ≡ weeks → ⊥
    none e = omega (arith, some, e)
some_object season weeks (choose rung after) some is = omega arith
some_object season weeks (ask store limit below above) some is = omega arith

count_le : (top : ℕ) (stores : List Store) → lists_of (map (λ store. store.units) stores) ≤ stock_demands top stores
count_le top [] = omega arith
count_le top (store ∷ stores) =
    let whole : store.units + 1 ≤ store.units + 1 = omega arith in
    let demands : 1 ≤ min top store.units + 1 = omega arith in
    let row : (store.units + 1) * 1 ≤ (store.units + 1) * (min top store.units + 1) = mul-le-mul whole demands in
    let all : ((store.units + 1) * 1) * lists_of (map (λ s. s.units) stores) ≤ (store.units + 1) * (min top store.units + 1) * stock_demands top stores = mul-le-mul row (count_le top stores) in
    omega (arith, all)

pub few_lists : (season : Season) (policy : Written) → IsSeason season → IsPolicy season policy → policy_size season policy ≤ most_policy_size → lists_of (full_stocks season) ≤ most_policy_size
few_lists season policy ok is size =
    let some : 1 ≤ object_count policy = some_object season season.rules.weeks policy ok.rules.first_week is in
    let count : lists_of (full_stocks season) ≤ stock_demands season.top season.stores = count_le season.top season.stores in
    let all : 1 * lists_of (full_stocks season) ≤ object_count policy * stock_demands season.top season.stores = mul-le-mul some count in
    let held : object_count policy * stock_demands season.top season.stores ≤ most_policy_size = omega (arith, size) in
    omega (arith, all, held)

-- ---- the last list of stocks is the full one

pub full_within : (mosts : List ℕ) → AreWithin mosts mosts
full_within [] = tt
full_within (most ∷ mosts) = (omega arith, full_within mosts)

pub last_place : (mosts : List ℕ) → place_in mosts mosts + 1 ≡ lists_of mosts
last_place [] = omega arith
last_place (most ∷ mosts) = let rest = last_place mosts in let split : suc most * lists_of mosts ≡ most * lists_of mosts + lists_of mosts = omega arith in omega (arith, rest, split)

pub last_value : (season : Season) (value : List ℕ → ℤ) (values : List ℤ) (len : ℕ) → AreValues (full_stocks season) value values → len ≡ length values → at_place values (len - 1) ≡ value (full_stocks season)
last_value season value values len are is =
    let last = last_place (full_stocks season) in
    let place : len - 1 ≡ place_in (full_stocks season) (full_stocks season) = omega (arith, is, are.size, last) in
    ap (at_place values) place ∙ are.each (full_stocks season) (full_within (full_stocks season))

pub some_values : (season : Season) (value : List ℕ → ℤ) (values : List ℤ) → AreValues (full_stocks season) value values → 1 ≤ length values
some_values season value values are = let last = last_place (full_stocks season) in omega (arith, last, are.size)

pub item_is : (values : List ℤ) (i : ℕ) (d x : ℤ) → i < length values → x ≡ get_or values i d → x ≡ at_place values i
item_is [] i d x lt is = absurd (none lt)
  where
    none : i < 0 → ⊥
    none p = omega arith
item_is (value ∷ values) zero d x lt is = is
item_is (value ∷ values) (suc i) d x lt is = item_is values i d x (omega arith) is

pub reads_back : (most : ℕ) (z : ℤ) → most ≤ most_total → IsWithin most z → read w128 z ≡ z
reads_back most z le h = to_z-of_z w128 z (in_128 z (within_more most most_total z h le))
