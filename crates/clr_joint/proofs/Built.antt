-- What a built table gives.
use Rattle.std.proofs.Common.{◌≡◌, ℕ, zero, suc, ◌+◌, ◌-◌, ◌*◌, ◌^◌, ◌<◌, ◌≤◌, ◌||◌, Bool, true, false, cond, ℤ, pos, ◌+ℤ◌, ◌*ℤ◌, ◌≤ℤ◌, List, [], ◌∷◌, length, map, get_or, slice_get, Some, IsTrue, nat_lt, nat_eq, refl, ap, ap₂, sym, ◌∙◌, subst, arith}
use Rattle.std.proofs.lemmas.Bool.{lt-ltb}
use Rattle.std.specs.Cmp.Lexicographic.{pointwise, same_text}
use Rattle.std.proofs.lemmas.Cmp.{nat_list_eq_equiv}
use Rattle.std.specs.List.{find, list_any}
use Rattle.std.specs.Option.{option_map_or}
use lib.IntN.{*ℤ_comm}
use Rattle.clr_num.specs.DirectionLaws.{add_mul, floor_is_direction, linear}
use Rattle.clr_num.specs.Lists.{numbers}
use Rattle.clr_num.specs.Rounding.{ceil, floor}
use Rattle.clr_rules.specs.declared.season_rules.Summary.{Summary}
use Rattle.clr_rules.specs.Rules.{is_live, summary}
use Rattle.clr_rules.specs.LiveSummaries.{IsAmong, at_week, live_pairs}
use Rattle.clr_rules.proofs.LiveLaw.{live_pairs_lem}
use Rattle.clr_rules.proofs.LiveLists.{same_self}
use Rattle.clr_season.specs.Season.{Season, IsSeason}
use Rattle.clr_model.specs.Fits.{fits}
use Rattle.clr_model.specs.JointValue.{joint_low, joint_rung_at, joint_table, joint_top, joint_value_at}
use Rattle.clr_model.specs.Revenue.{cent, full_stocks}
use Rattle.clr_rows.specs.Rows.{IsInside, WeekRows, place_of, row_at, week_at}
use Rattle.clr_rows.proofs.Lists.{got_inside}
use Rattle.clr_rows.proofs.Places.{get_or-numbers}
use Rattle.clr_joint.specs.Rows.{IsKept, entries_of}
use Rattle.clr_model.specs.Stocks.{all_stocks, lists_of, place_in, stocks_at}
use Rattle.clr_joint.specs.Tables.{Entry, HasStocks, IsEnclosed, IsJointOf, IsNearBest, at_stocks, choices_of, is_at, opening}
use Rattle.clr_joint.specs.Weeks.{AreWeeks}
use Rattle.clr_joint.proofs.Grid.{AreHeld, all_stocks_are, held_self, last_list, place_inside, stocks_back}
use Rattle.clr_joint.proofs.Limits.{lists_most, lists_some}
use Rattle.clr_model.specs.Expected.{den, season_earned, Encloses, Tops}
use Rattle.clr_model.proofs.JointBounds.{joint_table_enclosed_lem, joint_tops_lem, joint_values_close_lem}
use Rattle.clr_joint.proofs.Tables.{among_live, inside_is, opening_is, value_row}

module _ (season : Season) (pairs : List (ℕ × Summary)) (units : List ℕ) (width : ℕ) (lows tops : List WeekRows) (season_is : IsSeason season) (small : IsTrue (fits season)) (is : pairs ≡ live_pairs season.rules) (any : is_live season.rules [] ≡ true) (units_are : units ≡ full_stocks season) (width_is : width ≡ lists_of units)
    (low : AreWeeks floor season (suc season.rules.weeks) lows) (top : AreWeeks ceil season (suc season.rules.weeks) tops) where
  wide : lists_of (full_stocks season) ≡ width
  wide = sym (width_is ∙ ap lists_of units_are)

  among_start : IsAmong pairs 0 (summary season.rules [])
  among_start = among_live floor season pairs lows season_is.rules is any low [] any

  pub kept_is : IsKept pairs units width lows tops
  kept_is = record {
    opens = some_in (at_week 0 pairs) (summary season.rules []) among_start;
    width_is = width_is;
    few = subst (λ n. n ≤ 1000000) wide (lists_most season season_is small);
    low = subst (λ n. IsInside pairs n lows) wide (inside_is floor season pairs lows season_is.rules is any low);
    top = subst (λ n. IsInside pairs n tops) wide (inside_is ceil season pairs tops season_is.rules is any top);
    weeks = low.size ∙ sym top.size;
  }
    where
      some_in : (list : List Summary) (s : Summary) → (k : ℕ) × (slice_get list k ≡ Some s) → 0 < length list
      some_in list s (k, at) = below k (length list) (got_inside list k s at)
        where
          below : (a b : ℕ) → a < b → 0 < b
          below a b lt = omega arith

  -- the first summary before the first week is that of no weeks
  start_first : place_of (at_week 0 pairs) (summary season.rules []) ≡ 0
  start_first = with_first (at_week 0 pairs) refl among_start
    where
      only : (s : Summary) → IsAmong pairs 0 s → s ≡ summary season.rules []
      only s among =
          let (prefix, long, live, same) = (((live_pairs_lem season.rules season_is.rules).pairs 0 s).0 (subst (λ (ps : List (ℕ × Summary)). IsAmong ps 0 s) is among)).1 in
          sym same ∙ ap (summary season.rules) (empty prefix long)
        where
          empty : (xs : List ℕ) → length xs ≡ 0 → xs ≡ []
          empty [] e = refl
          empty (x ∷ xs) e = absurd (omega (arith, e))

      with_first : (list : List Summary) → at_week 0 pairs ≡ list → (k : ℕ) × (slice_get list k ≡ Some (summary season.rules [])) → place_of list (summary season.rules []) ≡ 0
      with_first [] e (k, at) = cc
      with_first (s ∷ rest) e h =
          let first : s ≡ summary season.rules [] = only s (0, ap (λ (l : List Summary). slice_get l 0) e) in
          subst (λ t. place_of (t ∷ rest) (summary season.rules []) ≡ 0) (sym first) (ap (λ b. cond b 0 (suc (place_of rest (summary season.rules [])))) (same_self (summary season.rules [])))

  last_value : (div : ℤ → ℕ → ℤ) (weeks : List WeekRows) → AreWeeks div season (suc season.rules.weeks) weeks → get_or (row_at width (week_at weeks 0).values 0) (width - 1) (pos 0) ≡ joint_value_at div season [] (full_stocks season)
  last_value div weeks are =
      let some : 1 ≤ width = subst (λ n. 1 ≤ n) (sym width_is) (lists_some units) in
      let lt : width - 1 < width = omega (arith, some) in
      let zeroed : 0 + (width - 1) ≡ lists_of (full_stocks season) - 1 = omega (arith, wide) in
      ap₂ (λ n k. get_or (row_at n (week_at weeks 0).values k) (width - 1) (pos 0)) (sym wide) (sym start_first)
      ∙ (ap (λ (r : List ℤ). get_or r (width - 1) (pos 0)) (value_row div season pairs weeks season_is.rules is any are [] any)
      ∙ (get_or-numbers (λ k. joint_value_at div season [] (stocks_at (full_stocks season) k)) 0 (lists_of (full_stocks season)) (width - 1) (pos 0) (subst (λ n. width - 1 < n) (sym wide) lt)
      ∙ ap (joint_value_at div season []) (ap (stocks_at (full_stocks season)) zeroed ∙ last_list (full_stocks season))))

  pub opening_are : opening (entries_of pairs units width lows tops) ≡ (joint_low season, joint_top season)
  opening_are = (opening_is pairs units width lows tops (entries_of pairs units width lows tops) refl kept_is).is ∙ ap₂ (λ a b. (a, b)) (last_value floor lows low) (last_value ceil tops top)

-- ---- what stands in a table with a list of stocks

same_stocks : (stocks : List ℕ) → pointwise nat_eq stocks stocks ≡ true
same_stocks stocks = nat_list_eq_equiv.refl stocks

-- beside each list of stocks stands what a function gives
found_beside : {X : Type 0} (f : List ℕ → X) (lists : List (List ℕ)) (stocks : List ℕ) (d : X) → HasStocks (map (λ stocks. (stocks, f stocks)) lists) stocks → at_stocks (map (λ stocks. (stocks, f stocks)) lists) stocks d ≡ f stocks
found_beside f [] stocks d has = cc
found_beside f (list ∷ lists) stocks d has = by_test (pointwise nat_eq list stocks) refl (found_beside f lists stocks d)
  where
    by_test : (b : Bool) → pointwise nat_eq list stocks ≡ b → (HasStocks (map (λ stocks. (stocks, f stocks)) lists) stocks → at_stocks (map (λ stocks. (stocks, f stocks)) lists) stocks d ≡ f stocks) →
        option_map_or (λ item. item.1) (cond b (Some (list, f list)) (find (is_at stocks) (map (λ stocks. (stocks, f stocks)) lists))) d ≡ f stocks
    by_test true e rest = ap f (same_text list stocks (sym e))
    by_test false e rest = rest (ap (λ b. b || list_any (is_at stocks) (map (λ stocks. (stocks, f stocks)) lists)) (sym e) ∙ has)

listed : {X : Type 0} (f : List ℕ → X) (units stocks : List ℕ) (from count k : ℕ) → k < count → stocks_at units (from + k) ≡ stocks → HasStocks (map (λ stocks. (stocks, f stocks)) (map (stocks_at units) (numbers from count))) stocks
listed f units stocks from zero k lt at = absurd (omega arith)
listed f units stocks from (suc count) zero lt at =
    let none : from + 0 ≡ from = omega arith in
    let here : pointwise nat_eq (stocks_at units from) stocks ≡ true = subst (λ (xs : List ℕ). pointwise nat_eq xs stocks ≡ true) (sym (ap (stocks_at units) (sym none) ∙ at)) (same_stocks stocks) in
    ap (λ b. b || list_any (is_at stocks) (map (λ stocks. (stocks, f stocks)) (map (stocks_at units) (numbers (suc from) count)))) here
listed f units stocks from (suc count) (suc k) lt at =
    let moved : suc from + k ≡ from + suc k = omega arith in
    or_right (pointwise nat_eq (stocks_at units from) stocks) _ (listed f units stocks (suc from) count k (omega arith) (ap (stocks_at units) moved ∙ at))
  where
    or_right : (a b : Bool) → b ≡ true → (a || b) ≡ true
    or_right true b h = refl
    or_right false b h = h

pub has_held : {X : Type 0} (f : List ℕ → X) (units stocks : List ℕ) → AreHeld units stocks → HasStocks (map (λ stocks. (stocks, f stocks)) (all_stocks units)) stocks
has_held f units stocks held =
    let none : 0 + place_in units stocks ≡ place_in units stocks = omega arith in
    subst (λ (lists : List (List ℕ)). HasStocks (map (λ stocks. (stocks, f stocks)) lists) stocks) (sym (all_stocks_are units))
    (listed f units stocks 0 (lists_of units) (place_in units stocks) (place_inside units stocks held) (ap (stocks_at units) none ∙ stocks_back units stocks held))

pub at_held : {X : Type 0} (f : List ℕ → X) (units stocks : List ℕ) (d : X) → AreHeld units stocks → at_stocks (map (λ stocks. (stocks, f stocks)) (all_stocks units)) stocks d ≡ f stocks
at_held f units stocks d held = found_beside f (all_stocks units) stocks d (has_held f units stocks held)

pub first_choice : (season : Season) (table : List Entry) → IsSeason season → is_live season.rules [] ≡ true → IsJointOf season table → at_stocks (choices_of table 0 (summary season.rules [])) (full_stocks season) 0 ≡ joint_rung_at season [] (full_stocks season)
first_choice season table is any of =
    let early : nat_lt 0 season.rules.weeks ≡ true = lt-ltb 0 season.rules.weeks is.rules.first_week in
    ap (λ (items : List (List ℕ × ℕ)). at_stocks items (full_stocks season) 0) (of.choices [] any ∙ ap (λ b. cond b (map (λ stocks. (stocks, joint_rung_at season [] stocks)) (all_stocks (full_stocks season))) []) early)
    ∙ at_held (joint_rung_at season []) (full_stocks season) (full_stocks season) 0 (held_self (full_stocks season))

-- ---- what the two values at the opening say

pub tops_all : (season : Season) (table : List Entry) → IsSeason season → opening table ≡ (joint_low season, joint_top season) → Tops season (opening table).1
tops_all season table is values = subst (Tops season) (sym (ap (λ (p : ℤ × ℤ). p.1) values)) (joint_tops_lem season is)

pub enclosed : (season : Season) (table : List Entry) → IsSeason season → is_live season.rules [] ≡ true → opening table ≡ (joint_low season, joint_top season) → IsEnclosed season table
enclosed season table is any values =
    let known = joint_table_enclosed_lem season is any in
    record {
      abides = known.abides;
      encloses = subst (λ (p : ℤ × ℤ). Encloses season p.0 p.1 (joint_table season)) (sym values) known.encloses;
    }

pub close : (season : Season) (table : List Entry) → IsSeason season → is_live season.rules [] ≡ true → opening table ≡ (joint_low season, joint_top season) → (opening table).1 ≤ℤ ((opening table).0 +ℤ pos season.rules.weeks)
close season table is any values =
    let all : season.rules.weeks - 0 ≡ season.rules.weeks = omega arith in
    subst (λ (p : ℤ × ℤ). p.1 ≤ℤ (p.0 +ℤ pos season.rules.weeks)) (sym values)
    (subst (λ n. joint_top season ≤ℤ (joint_low season +ℤ pos n)) all (joint_values_close_lem season [] (full_stocks season) is any))

scaled : (k : ℕ) (a b : ℤ) → a ≤ℤ b → (a *ℤ pos k) ≤ℤ (b *ℤ pos k)
scaled k a b h = rw (*ℤ_comm a (pos k), *ℤ_comm b (pos k)) (floor_is_direction.scales k a b h)

pub near_best : (season : Season) → IsSeason season → is_live season.rules [] ≡ true → IsNearBest season
near_best season is any tree abides =
    let all : season.rules.weeks - 0 ≡ season.rules.weeks = omega arith in
    let near : joint_top season ≤ℤ (joint_low season +ℤ pos season.rules.weeks) = subst (λ n. joint_top season ≤ℤ (joint_low season +ℤ pos n)) all (joint_values_close_lem season [] (full_stocks season) is any) in
    let most : (pos cent *ℤ season_earned season tree) ≤ℤ (joint_top season *ℤ den season season.rules.weeks) = joint_tops_lem season is tree abides in
    let least : (joint_low season *ℤ den season season.rules.weeks) ≤ℤ (pos cent *ℤ season_earned season (joint_table season)) = (joint_table_enclosed_lem season is any).encloses.least in
    let wide : (joint_top season *ℤ den season season.rules.weeks) ≤ℤ ((joint_low season +ℤ pos season.rules.weeks) *ℤ den season season.rules.weeks) = scaled (season.base ^ (length season.stores * season.rules.weeks)) (joint_top season) (joint_low season +ℤ pos season.rules.weeks) near in
    let split : (joint_low season +ℤ pos season.rules.weeks) *ℤ den season season.rules.weeks ≡ joint_low season *ℤ den season season.rules.weeks +ℤ pos season.rules.weeks *ℤ den season season.rules.weeks = add_mul (joint_low season) (pos season.rules.weeks) (den season season.rules.weeks) in
    omega (arith, linear)
