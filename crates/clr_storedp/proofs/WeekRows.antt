-- The rows of a week, summary by summary.
use Rattle.std.proofs.Common.{◌≡◌, ℕ, zero, suc, ◌+◌, ◌-◌, ◌*◌, ◌<◌, ◌≤◌, ℤ, pos, neg_ℤ, ◌+ℤ◌, ◌*ℤ◌, ◌≤ℤ◌, true, List, length, get_or, slice_get, Some, refl, ap, sym, ◌∙◌, subst, subst₂, arith, mul-le-mul_left}
use Rattle.std.proofs.lemmas.Option.{slice_get-get_or}
use Rattle.clr_num.specs.Direction.{IsDirection}
use Rattle.clr_rules.specs.declared.season_rules.Summary.{Summary}
use Rattle.clr_rules.specs.LiveSummaries.{is_live_summary}
use Rattle.clr_rules.specs.Rules.{Rulebook}
use Rattle.clr_season.specs.Season.{Season, IsPlace, IsSeason, demands, store_at, weight}
use Rattle.clr_average.specs.Average.{IsWithin}
use Rattle.clr_average.proofs.Ring.{linear}
use Rattle.clr_average.proofs.Sums.{sum_over-same}
use Rattle.clr_model.specs.PathValue.{weighed}
use Rattle.clr_model.specs.Revenue.{cent, earn, left, salvage_cents}
use Rattle.clr_model.specs.StoreValue.{Multipliers, store_value}
use Rattle.clr_mult.specs.Tables.{Table, mult_at}
use Rattle.clr_model.proofs.Sizes.{store_within}
use Rattle.clr_rows.specs.Summaries.{live_week, summary_prefix}
use Rattle.clr_storedp.specs.BySummary.{average_into, summary_value}
use Rattle.clr_rows.specs.Rows.{AreRows, AreWithin}
use Rattle.clr_storedp.specs.Rows.{AreAverages}
use Rattle.clr_storedp.specs.Tables.{AreOfSeason, AreSmall}
use Rattle.clr_rows.proofs.Lists.{get_or-row_at}
use Rattle.clr_rows.proofs.Prefixes.{prefix_is}
use Rattle.clr_rows.proofs.WeekRows.{ends_by, in_some_row, live_at, on_ladder}
use Rattle.clr_storedp.proofs.Sizes.{IsBetween, SmallMultipliers, average_high, average_low, swing, value_between}

-- ---- multipliers

pub small_of : (season : Season) (table : Table ℤ) → AreOfSeason season table → AreSmall table → SmallMultipliers season (mult_at table)
small_of season table of small store week rung place =
    let h = small store week rung (record { store_from = place.first_store; store_to = subst (λ n. store ≤ n) (sym of.stores) place.last_store; week_from = place.first_week; week_to = subst (λ n. week ≤ n) (sym of.weeks) place.last_week; rung_from = place.first_rung; rung_to = subst (λ n. rung ≤ n) (sym of.rungs) place.last_rung }) in
    record { low = h.low; high = h.high }

-- ---- values and averages

weighed_same : (season : Season) (store done before rung stock : ℕ) (f g : ℕ → ℤ) → ((rest : ℕ) → rest ≤ stock → f rest ≡ g rest) → weighed season store done before rung stock f ≡ weighed season store done before rung stock g
weighed_same season store done before rung stock f g h =
    sum_over-same (demands season) _ _ (λ demand. ap (λ t. pos (weight season store (suc done) rung demand) *ℤ (earn season store before rung stock demand +ℤ t)) (h (left stock demand) (omega arith)))

pub averages_are : (div : ℤ → ℕ → ℤ) (m : Multipliers) (season : Season) (store done width : ℕ) (list : List Summary) (after items : List ℤ) → list ≡ live_week season.rules (suc done) →
    AreRows (pos 0) width (live_week season.rules (suc done)) (length (live_week season.rules (suc done))) (summary_value div m season store (suc done)) after → AreAverages div season store done width list after (length list) items →
    AreRows (pos 0) width (live_week season.rules (suc done)) (length (live_week season.rules (suc done))) (average_into div m season store done) items
averages_are div m season store done width list after items is values are =
    let now : AreAverages div season store done width (live_week season.rules (suc done)) after (length (live_week season.rules (suc done))) items = subst (λ l. AreAverages div season store done width l after (length l) items) is are in
    record {
      size = now.size;
      each = λ place stock s lt at low.
          now.each place stock s lt at low
          ∙ ap (λ t. div t season.base) (weighed_same season store done s.last s.last stock _ (summary_value div m season store (suc done) s)
          (λ rest le. get_or-row_at width place rest after (pos 0) (omega arith) ∙ values.each place rest s lt at (omega arith)));
    }

module _ (leans : ℤ → ℤ → Type 0) (div : ℤ → ℕ → ℤ) (laws : IsDirection leans div) (m : Multipliers) (season : Season) (i : ℕ) (is : IsSeason season) (last : i < length season.stores) (small : SmallMultipliers season m) where
  at_most : (weeks stock units : ℕ) (value : ℤ) → weeks ≤ 52 → stock ≤ units → units ≤ 2000 → IsBetween leans div laws m season i is last small stock (swing * weeks) value → IsWithin 1000000000000000000 value
  at_most weeks stock units value few held most h =
      let least : neg_ℤ (pos (swing * weeks)) ≤ℤ value = h.low in
      let top : value ≤ℤ pos (10000000000000 * stock + swing * weeks) = h.high in
      let a : swing * weeks ≤ swing * 52 = mul-le-mul_left swing few in
      let few_units : stock ≤ 2000 = omega arith in
      let b : 10000000000000 * stock ≤ 10000000000000 * 2000 = mul-le-mul_left 10000000000000 few_units in
      record { low = omega (arith, linear); high = omega (arith, linear) }

  summary_between : (done stock : ℕ) (s : Summary) → done ≤ season.rules.weeks → is_live_summary season.rules done s ≡ true → IsBetween leans div laws m season i is last small stock (swing * (season.rules.weeks - done)) (summary_value div m season (suc i) done s stock)
  summary_between done stock s early live =
      let of = prefix_is season.rules done s live in
      subst (λ n. IsBetween leans div laws m season i is last small stock (swing * (season.rules.weeks - n)) (summary_value div m season (suc i) done s stock)) of.long
      (value_between leans div laws m season i is last small (season.rules.weeks - length (summary_prefix season.rules done s)) (summary_prefix season.rules done s) stock (whole (length (summary_prefix season.rules done s)) (subst (λ n. n ≤ season.rules.weeks) (sym of.long) early)) of.live)
    where
      whole : (n : ℕ) → n ≤ season.rules.weeks → n + (season.rules.weeks - n) ≡ season.rules.weeks
      whole n h = omega arith

  pub values_within : (done width : ℕ) (items : List ℤ) → done ≤ season.rules.weeks → width ≡ suc (store_at season (suc i)).units → AreRows (pos 0) width (live_week season.rules done) (length (live_week season.rules done)) (summary_value div m season (suc i) done) items → AreWithin 1000000000000000000 items
  values_within done width items early width_is are k lt =
      let (place, stock, inside, low, e) = in_some_row width (length (live_week season.rules done)) k (subst (λ n. k < n) are.size lt) in
      let s : Summary = get_or (live_week season.rules done) place (record { last = 1; count = 0; age = 1 }) in
      let at : slice_get (live_week season.rules done) place ≡ Some s = slice_get-get_or (live_week season.rules done) place (record { last = 1; count = 0; age = 1 }) inside in
      subst (IsWithin 1000000000000000000) (sym (ap (λ n. get_or items n (pos 0)) e ∙ are.each place stock s inside at low))
      (at_most (season.rules.weeks - done) stock (store_at season (suc i)).units (summary_value div m season (suc i) done s stock) (omega (arith, is.rules.last_week)) (omega (arith, low, width_is)) (store_within season (suc i) is (omega arith) last).units
      (summary_between done stock s early (live_at season.rules done place s early at)))

  pub averages_within : (done width : ℕ) (items : List ℤ) → done < season.rules.weeks → width ≡ suc (store_at season (suc i)).units → AreRows (pos 0) width (live_week season.rules (suc done)) (length (live_week season.rules (suc done))) (average_into div m season (suc i) done) items → AreWithin 2000000000000000000 items
  averages_within done width items early width_is are k lt =
      let (place, stock, inside, low, e) = in_some_row width (length (live_week season.rules (suc done))) k (subst (λ n. k < n) are.size lt) in
      let s : Summary = get_or (live_week season.rules (suc done)) place (record { last = 1; count = 0; age = 1 }) in
      let at : slice_get (live_week season.rules (suc done)) place ≡ Some s = slice_get-get_or (live_week season.rules (suc done)) place (record { last = 1; count = 0; age = 1 }) inside in
      let live : is_live_summary season.rules (suc done) s ≡ true = live_at season.rules (suc done) place s early at in
      let ladder = on_ladder season.rules (suc done) is.rules early place s at in
      let between : (rest : ℕ) → IsBetween leans div laws m season i is last small rest (swing * (season.rules.weeks - suc done)) (summary_value div m season (suc i) (suc done) s rest) = λ rest. summary_between (suc done) rest s early live in
      let spot : IsPlace season (suc i) (suc done) s.last = record { first_store = omega arith; last_store = last; first_week = omega arith; last_week = early; first_rung = ladder.0; last_rung = ladder.1 } in
      subst (IsWithin 2000000000000000000) (sym (ap (λ n. get_or items n (pos 0)) e ∙ are.each place stock s inside at low))
      (sized (season.rules.weeks - suc done) stock (average_into div m season (suc i) done s stock) (omega (arith, is.rules.last_week)) (held stock (store_at season (suc i)).units width low width_is (store_within season (suc i) is (omega arith) last).units)
      (average_low leans div laws m season i is last small done s.last s.last stock (swing * (season.rules.weeks - suc done)) (summary_value div m season (suc i) (suc done) s) spot (λ rest le. (between rest).low))
      (average_high leans div laws m season i is last small done s.last s.last stock (swing * (season.rules.weeks - suc done)) (summary_value div m season (suc i) (suc done) s) spot (λ rest le. (between rest).high)))
    where
      held : (x units width : ℕ) → x < width → width ≡ suc units → units ≤ 2000 → x ≤ 2000
      held x units width a b c = omega arith

      sized : (weeks x : ℕ) (value : ℤ) → weeks ≤ 52 → x ≤ 2000 → neg_ℤ (pos (swing * weeks + 10000000000000)) ≤ℤ value → value ≤ℤ pos (10000000000000 * x + swing * weeks) → IsWithin 2000000000000000000 value
      sized weeks x value few most least top =
          let a : swing * weeks ≤ swing * 52 = mul-le-mul_left swing few in
          let b : 10000000000000 * x ≤ 10000000000000 * 2000 = mul-le-mul_left 10000000000000 most in
          record { low = omega (arith, linear); high = omega (arith, linear) }

-- ---- by the store's number

module _ (leans : ℤ → ℤ → Type 0) (div : ℤ → ℕ → ℤ) (laws : IsDirection leans div) (m : Multipliers) (season : Season) (is : IsSeason season) (small : SmallMultipliers season m) where
  pub values_small : (store done width : ℕ) (items : List ℤ) → 1 ≤ store → store ≤ length season.stores → done ≤ season.rules.weeks → width ≡ suc (store_at season store).units →
      AreRows (pos 0) width (live_week season.rules done) (length (live_week season.rules done)) (summary_value div m season store done) items → AreWithin 1000000000000000000 items
  values_small zero done width items first last early width_is are = absurd (omega arith)
  values_small (suc i) done width items first last early width_is are = values_within leans div laws m season i is (omega arith) small done width items early width_is are

  pub averages_small : (store done width : ℕ) (items : List ℤ) → 1 ≤ store → store ≤ length season.stores → done < season.rules.weeks → width ≡ suc (store_at season store).units →
      AreRows (pos 0) width (live_week season.rules (suc done)) (length (live_week season.rules (suc done))) (average_into div m season store done) items → AreWithin 2000000000000000000 items
  averages_small zero done width items first last early width_is are = absurd (omega arith)
  averages_small (suc i) done width items first last early width_is are = averages_within leans div laws m season i is (omega arith) small done width items early width_is are

-- ---- at the end of the season

pub end_value : (div : ℤ → ℕ → ℤ) (m : Multipliers) (season : Season) (store : ℕ) (s : Summary) (stock : ℕ) → is_live_summary season.rules season.rules.weeks s ≡ true →
    pos cent *ℤ salvage_cents season store stock ≡ summary_value div m season store season.rules.weeks s stock
end_value div m season store s stock live =
    let of = prefix_is season.rules season.rules.weeks s live in
    let none : 0 ≡ season.rules.weeks - length (summary_prefix season.rules season.rules.weeks s) = omega (arith, of.long) in
    ap (λ n. store_value div m season store n (summary_prefix season.rules season.rules.weeks s) stock) none

pub ends_are : (div : ℤ → ℕ → ℤ) (m : Multipliers) (season : Season) (store width : ℕ) (rules : Rulebook) (row items : List ℤ) → rules ≡ season.rules → length row ≡ width → ((stock : ℕ) → stock < width → get_or row stock (pos 0) ≡ pos cent *ℤ salvage_cents season store stock) →
    AreRows (pos 0) (length row) (live_week rules rules.weeks) (length (live_week rules rules.weeks)) (λ s x. get_or row x (pos 0)) items →
    AreRows (pos 0) width (live_week season.rules season.rules.weeks) (length (live_week season.rules season.rules.weeks)) (summary_value div m season store season.rules.weeks) items
ends_are div m season store width rules row items rules_is size worth are =
    ends_by rules season.rules width row items (summary_value div m season store season.rules.weeks) rules_is size are (λ s x live lt. worth x lt ∙ end_value div m season store s x live)
