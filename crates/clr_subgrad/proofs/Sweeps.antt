-- What has come in, and what was used, by the masses of a week, summary by summary.
use Rattle.std.proofs.Common.{◌≡◌, ℕ, zero, suc, ◌+◌, ◌-◌, ◌*◌, ◌<◌, ◌≤◌, ◌==◌, Bool, true, false, cond, refl, sym, ap, ap₂, ◌∙◌, subst, subst₂, arith, List, [], ◌∷◌, ◌++◌, map, length, take, drop, get_or, slice_get, Some, None, inl, inr, sum, add-mul, replicate, ◌&&◌}
use Rattle.std.proofs.Math.Seq.{take-add}
use Rattle.std.proofs.lemmas.Bool.{eqb-true, eq-eqb, lt-ltb}
use Rattle.std.proofs.lemmas.List.{length-replicate, take_all, take_more}
use Rattle.std.proofs.lemmas.List.Sums.{sum_by-append, sum_by-cons, sum_by-take-le, sum_by_push}
use Rattle.std.proofs.lemmas.Option.{slice_get_cases}
use Rattle.std.specs.List.{sum_by}
use Rattle.clr_num.specs.Lists.{numbers}
use Rattle.clr_num.specs.Rounding.{ceil}
use Rattle.clr_rules.specs.declared.season_rules.Summary.{Summary}
use Rattle.clr_rules.specs.LiveSummaries.{at_week, is_live_summary, leads_at, live_pairs}
use Rattle.clr_rules.specs.Rules.{HasSummary}
use Rattle.clr_rules.proofs.LiveLaw.{week_is}
use Rattle.clr_rules.proofs.LiveLists.{bool_ext, leads-live}
use Rattle.clr_rules.proofs.SummaryLemmas.{live-keeps}
use Rattle.clr_season.specs.Season.{Season, store_at}
use Rattle.clr_model.specs.StoreValue.{Multipliers, rung_value, store_choice_at, store_value}
use Rattle.clr_model.specs.Usage.{choice_at, held_stocks, mass, usage}
use Rattle.clr_model.proofs.JointBounds.{best_live}
use Rattle.clr_mult.specs.Tables.{Table, usage_at}
use Rattle.clr_mult.proofs.Places.{get_or-repeated}
use Rattle.clr_rows.specs.Summaries.{summary_prefix}
use Rattle.clr_rows.specs.Rows.{AreRows, row_at}
use Rattle.clr_storedp.specs.Tables.{Entry, IsTableOf, choices_of, stocks}
use Rattle.clr_rows.proofs.Lists.{get_or-row_at, got, got_inside, length-row_at, row_end}
use Rattle.clr_rows.proofs.Prefixes.{prefix_is}
use Rattle.clr_rows.proofs.Places.{get_or-numbers, length-numbers}
use Rattle.clr_rows.proofs.WeekRows.{live_at}
use Rattle.clr_subgrad.specs.Masses.{CameIn, IsUsed, arriving}
use Rattle.clr_subgrad.proofs.Leaving.{used_both}

-- what comes to a summary and a stock from a summary, at all its stocks
abbrev pub came_of : Multipliers → Season → ℕ → ℕ → Summary → ℕ → Summary → ℕ
came_of m season store done t rest s = sum_by (λ stock. arriving season store done s stock (choice_at m season store done s stock) (mass m season store done s stock) t rest) (held_stocks season store)

-- what comes from some summaries
abbrev pub came_from : Multipliers → Season → ℕ → ℕ → List Summary → Summary → ℕ → ℕ
came_from m season store done from t rest = sum_by (came_of m season store done t rest) from

-- the masses at a summary whose choice is a rung
abbrev pub used_of : Multipliers → Season → ℕ → ℕ → ℕ → Summary → ℕ
used_of m season store done rung s = sum_by (λ stock. cond (choice_at m season store done s stock == rung) (mass m season store done s stock) 0) (held_stocks season store)

-- those at some summaries
abbrev pub used_from : Multipliers → Season → ℕ → ℕ → List Summary → ℕ → ℕ
used_from m season store done from rung = sum_by (used_of m season store done rung) from

-- how far the sweep of a week has come: the masses at the first summaries have been counted and have come in
pub record IsSwept (m : Multipliers) (season : Season) (store done place : ℕ) (week next : List Summary) (masses : List ℕ) (first : Table ℕ) (after : List ℕ) (used : Table ℕ) : Type 0 where
  pub size : length after ≡ length next * suc (store_at season store).units
  pub came :
      (k stock : ℕ) (t : Summary) → slice_get next k ≡ Some t → suc stock ≤ suc (store_at season store).units →
      get_or after (k * suc (store_at season store).units + stock) 0 ≡ came_from m season store done (take place week) t stock
  pub total : sum after ≤ sum (take (place * suc (store_at season store).units) masses)
  pub most : (rung : ℕ) → 1 ≤ rung → rung ≤ length season.rules.prices → usage_at used store (suc done) rung ≤ sum (take (place * suc (store_at season store).units) masses)
  pub used_is : IsUsed store (suc done) (used_from m season store done (take place week)) first used

-- what the masses at a summary leave
pub record IsLeft (season : Season) (store done : ℕ) (s : Summary) (next : List Summary) (choices row before after : List ℕ) (first used : Table ℕ) : Type 0 where
  pub size : length after ≡ length before
  pub came :
      CameIn (suc (store_at season store).units) next
      (λ t rest. sum_by (λ stock. arriving season store done s stock (get_or choices stock 0) (get_or row stock 0) t rest) (numbers 0 (length row))) before after
  pub total : sum after ≤ sum before + sum row
  pub part : (rung : ℕ) → 1 ≤ rung → rung ≤ length season.rules.prices → usage_at used store (suc done) rung ≤ usage_at first store (suc done) rung + sum row
  pub counted : IsUsed store (suc done) (λ rung. sum_by (λ stock. cond (rung == get_or choices stock 0) (get_or row stock 0) 0) (numbers 0 (length row))) first used

-- ---- sums

sum_numbers : (f g : ℕ → ℕ) (from count : ℕ) → ((x : ℕ) → x < from + count → f x ≡ g x) → sum_by f (numbers from count) ≡ sum_by g (numbers from count)
sum_numbers f g from zero h = refl
sum_numbers f g from (suc count) h =
    let rest : sum_by f (numbers (suc from) count) ≡ sum_by g (numbers (suc from) count) = sum_numbers f g (suc from) count (λ x lt. h x (omega arith)) in
    let here : f from ≡ g from = h from (omega arith) in
    omega (arith, sum_by-cons f from (numbers (suc from) count), sum_by-cons g from (numbers (suc from) count), rest, here)

eq_turned : (a b : ℕ) → (a == b) ≡ (b == a)
eq_turned a b = bool_ext (a == b) (b == a) (λ h. eq-eqb b a (sym (eqb-true a b h))) (λ h. eq-eqb a b (sym (eqb-true b a h)))

-- one item more of a list's sum
sum_more : (f : Summary → ℕ) (week : List Summary) (place : ℕ) (s : Summary) → slice_get week place ≡ Some s → sum_by f (take (place + 1) week) ≡ sum_by f (take place week) + f s
sum_more f week place s at =
    ap (sum_by f) (take_more week place s (got_inside week place s at) ∙ ap (λ x. take place week ++ x ∷ []) (got week place s s at))
    ∙ sum_by_push f (take place week) s

-- one row more of a sum of rows
sum_row : (width place : ℕ) (items : List ℕ) → sum (take ((place + 1) * width) items) ≡ sum (take (place * width) items) + sum (row_at width items place)
sum_row width place items =
    let split : (place + 1) * width ≡ place * width + width = omega (arith, add-mul place 1 width) in
    ap (λ n. sum (take n items)) split ∙ (ap sum (take-add (place * width) width items) ∙ sum_by-append (λ x. x) (take (place * width) items) (take width (drop (place * width) items)))

-- ---- the choices of a table

module _ (m : Multipliers) (season : Season) (store done : ℕ) (early : done < season.rules.weeks) (s : Summary) (live : is_live_summary season.rules done s ≡ true) where
  pub choice_leads : (stock : ℕ) → leads_at season.rules done s (choice_at m season store done s stock) ≡ true
  choice_leads stock =
      let of = prefix_is season.rules done s live in
      let has : HasSummary season.rules done s (summary_prefix season.rules done s) = record { weeks = of.long; keeps = live-keeps season.rules (summary_prefix season.rules done s) of.live; same = of.same } in
      leads-live season.rules done s (summary_prefix season.rules done s) (choice_at m season store done s stock) has
      ∙ best_live season (summary_prefix season.rules done s)
      (λ rung. rung_value ceil m season store (summary_prefix season.rules done s) rung stock (λ rest. store_value ceil m season store (season.rules.weeks - suc (length (summary_prefix season.rules done s))) (summary_prefix season.rules done s ++ rung ∷ []) rest))
      of.live (subst (λ n. n < season.rules.weeks) (sym of.long) early)

  pub choices_are : (table : List Entry) → IsTableOf ceil m season store table → choices_of table done s ≡ map (choice_at m season store done s) (stocks season store)
  choices_are table is =
      let of = prefix_is season.rules done s live in
      subst₂ (λ n t. choices_of table n t ≡ map (choice_at m season store done s) (stocks season store)) of.long of.same
      (is.choices (summary_prefix season.rules done s) of.live
      ∙ ap (λ b. cond b (map (store_choice_at ceil m season store (summary_prefix season.rules done s)) (stocks season store)) [])
      (lt-ltb (length (summary_prefix season.rules done s)) season.rules.weeks (subst (λ n. n < season.rules.weeks) (sym of.long) early)))

-- ---- one summary more

module _ (m : Multipliers) (season : Season) (store done place : ℕ) (early : done < season.rules.weeks) (pairs : List (ℕ × Summary)) (is : pairs ≡ live_pairs season.rules) (table : List Entry) (table_is : IsTableOf ceil m season store table) (masses : List ℕ)
    (rows : AreRows 0 (suc (store_at season store).units) (at_week done pairs) (length (at_week done pairs)) (mass m season store done) masses) (s : Summary) (at : slice_get (at_week done pairs) place ≡ Some s) where
  pub live_here : is_live_summary season.rules done s ≡ true
  live_here = live_at season.rules done place s (omega arith) (subst (λ (ps : List (ℕ × Summary)). slice_get (at_week done ps) place ≡ Some s) is at)

  pub inside : place < length (at_week done pairs)
  inside = got_inside (at_week done pairs) place s at

  pub choices_size : length (choices_of table done s) ≡ suc (store_at season store).units
  choices_size = ap length (choices_are m season store done early s live_here table table_is) ∙ length-numbers (choice_at m season store done s) 0 (suc (store_at season store).units)

  choice_here : (stock : ℕ) → stock < suc (store_at season store).units → get_or (choices_of table done s) stock 0 ≡ choice_at m season store done s stock
  choice_here stock lt =
      let none : 0 + stock ≡ stock = omega arith in
      ap (λ xs. get_or xs stock 0) (choices_are m season store done early s live_here table table_is)
      ∙ (get_or-numbers (choice_at m season store done s) 0 (suc (store_at season store).units) stock 0 lt ∙ ap (choice_at m season store done s) none)

  pub choices_lead : (stock : ℕ) → stock < length (choices_of table done s) → leads_at season.rules done s (get_or (choices_of table done s) stock 0) ≡ true
  choices_lead stock lt = subst (λ r. leads_at season.rules done s r ≡ true) (sym (choice_here stock (subst (λ n. stock < n) choices_size lt))) (choice_leads m season store done early s live_here stock)

  pub row_size : length (row_at (suc (store_at season store).units) masses place) ≡ suc (store_at season store).units
  row_size = length-row_at (suc (store_at season store).units) (length (at_week done pairs)) place masses rows.size inside

  pub row_inside : (place + 1) * suc (store_at season store).units ≤ length masses
  row_inside = subst (λ n. (place + 1) * suc (store_at season store).units ≤ n) (sym rows.size) (row_end (suc (store_at season store).units) (length (at_week done pairs)) place inside)

  mass_here : (stock : ℕ) → stock < suc (store_at season store).units → get_or (row_at (suc (store_at season store).units) masses place) stock 0 ≡ mass m season store done s stock
  mass_here stock lt = get_or-row_at (suc (store_at season store).units) place stock masses 0 lt ∙ rows.each place stock s inside at lt

  came_here : (t : Summary) (rest : ℕ) →
      sum_by (λ stock. arriving season store done s stock (get_or (choices_of table done s) stock 0) (get_or (row_at (suc (store_at season store).units) masses place) stock 0) t rest) (numbers 0 (length (row_at (suc (store_at season store).units) masses place)))
      ≡ came_of m season store done t rest s
  came_here t rest =
      ap (λ n. sum_by (λ stock. arriving season store done s stock (get_or (choices_of table done s) stock 0) (get_or (row_at (suc (store_at season store).units) masses place) stock 0) t rest) (numbers 0 n)) row_size
      ∙ sum_numbers (λ stock. arriving season store done s stock (get_or (choices_of table done s) stock 0) (get_or (row_at (suc (store_at season store).units) masses place) stock 0) t rest)
      (λ stock. arriving season store done s stock (choice_at m season store done s stock) (mass m season store done s stock) t rest) 0 (suc (store_at season store).units)
      (λ x lt. ap₂ (λ r u. arriving season store done s x r u t rest) (choice_here x (low x lt)) (mass_here x (low x lt)))
    where
      low : (x : ℕ) → x < 0 + suc (store_at season store).units → x < suc (store_at season store).units
      low x lt = omega (arith, lt)

  used_here : (rung : ℕ) →
      sum_by (λ stock. cond (rung == get_or (choices_of table done s) stock 0) (get_or (row_at (suc (store_at season store).units) masses place) stock 0) 0) (numbers 0 (length (row_at (suc (store_at season store).units) masses place))) ≡ used_of m season store done rung s
  used_here rung =
      ap (λ n. sum_by (λ stock. cond (rung == get_or (choices_of table done s) stock 0) (get_or (row_at (suc (store_at season store).units) masses place) stock 0) 0) (numbers 0 n)) row_size
      ∙ sum_numbers (λ stock. cond (rung == get_or (choices_of table done s) stock 0) (get_or (row_at (suc (store_at season store).units) masses place) stock 0) 0)
      (λ stock. cond (choice_at m season store done s stock == rung) (mass m season store done s stock) 0) 0 (suc (store_at season store).units)
      (λ x lt. ap₂ (λ b u. cond b u 0) (ap (λ r. rung == r) (choice_here x (low x lt)) ∙ eq_turned rung (choice_at m season store done s x)) (mass_here x (low x lt)))
    where
      low : (x : ℕ) → x < 0 + suc (store_at season store).units → x < suc (store_at season store).units
      low x lt = omega (arith, lt)

  module _ (next : List Summary) (first used : Table ℕ) (after : List ℕ) (so_far : IsSwept m season store done place (at_week done pairs) next masses first after used) (total : sum masses ≤ 1000000) where
    pub room_here : sum after + sum (row_at (suc (store_at season store).units) masses place) ≤ 1000000
    room_here =
        omega (arith, so_far.total, sum_row (suc (store_at season store).units) place masses, sum_by-take-le (λ x. x) masses ((place + 1) * suc (store_at season store).units), total)

    pub part_here : (rung : ℕ) → 1 ≤ rung → rung ≤ length season.rules.prices → usage_at used store (suc done) rung + sum (row_at (suc (store_at season store).units) masses place) ≤ 1000000
    part_here rung low high =
        omega (arith, so_far.most rung low high, sum_row (suc (store_at season store).units) place masses, sum_by-take-le (λ x. x) masses ((place + 1) * suc (store_at season store).units), total)

    pub swept_more : (now : List ℕ) (counted : Table ℕ) → IsLeft season store done s next (choices_of table done s) (row_at (suc (store_at season store).units) masses place) after now used counted →
        IsSwept m season store done (place + 1) (at_week done pairs) next masses first now counted
    swept_more now counted left = record {
      size = left.size ∙ so_far.size;
      came = λ k stock t there low.
          left.came k stock t there low
          ∙ (ap₂ ◌+◌ (so_far.came k stock t there low) (came_here t stock) ∙ sym (sum_more (came_of m season store done t stock) (at_week done pairs) place s at));
      total = omega (arith, left.total, so_far.total, sum_row (suc (store_at season store).units) place masses);
      most = λ rung low high. omega (arith, left.part rung low high, so_far.most rung low high, sum_row (suc (store_at season store).units) place masses);
      used_is = used_both store (suc done) _ _ _ first used counted
          (λ rung. sum_more (used_of m season store done rung) (at_week done pairs) place s at ∙ ap (λ n. used_from m season store done (take place (at_week done pairs)) rung + n) (sym (used_here rung))) so_far.used_is left.counted;
    }

-- ---- no summary yet

zero_or : (b : Bool) (n : ℕ) → n ≡ n + cond b 0 0
zero_or true n = omega arith
zero_or false n = omega arith

pub swept_none : (m : Multipliers) (season : Season) (store done size : ℕ) (week next : List Summary) (masses : List ℕ) (first : Table ℕ) (after : List ℕ) → size ≡ length next * suc (store_at season store).units → after ≡ replicate size 0 →
    ((rung : ℕ) → 1 ≤ rung → rung ≤ length season.rules.prices → usage_at first store (suc done) rung ≡ 0) → IsSwept m season store done 0 week next masses first after first
swept_none m season store done size week next masses first after size_is is none = record {
  size = ap length is ∙ (length-replicate size 0 ∙ size_is);
  came = λ k stock t there low. ap (λ xs. get_or xs (k * suc (store_at season store).units + stock) 0) is ∙ get_or-repeated size (k * suc (store_at season store).units + stock) 0;
  total = let zeros : sum after ≡ 0 = ap sum is ∙ no_sum size in omega (arith, zeros);
  most = λ rung low high. omega (arith, none rung low high);
  used_is = record {
    sizes = record { stores = refl; weeks = refl; rungs = refl };
    count = refl;
    entries = λ s w rung within. zero_or ((s == store) && (w == suc done)) (usage_at first s w rung);
  };
}
  where
    no_sum : (n : ℕ) → sum (replicate n 0) ≡ 0
    no_sum zero = refl
    no_sum (suc n) = let rest : sum (replicate n 0) ≡ 0 = no_sum n in omega (arith, rest)

-- ---- a row cut out of the masses

pub cut : (place width units : ℕ) (masses : List ℕ) → width ≡ suc units → take (place * width + width - place * width) (drop (place * width) masses) ≡ row_at (suc units) masses place
cut place width units masses is =
    let size : place * width + width - place * width ≡ width = omega arith in
    ap (λ n. take n (drop (place * width) masses)) size ∙ ap (λ w. row_at w masses place) is

pub cut_inside : (place width units : ℕ) (masses : List ℕ) → width ≡ suc units → (place + 1) * suc units ≤ length masses → place * width + width ≤ length masses
cut_inside place width units masses is inside =
    let split : (place + 1) * suc units ≡ place * suc units + 1 * suc units = add-mul place 1 (suc units) in
    subst (λ w. place * w + w ≤ length masses) (sym is) (omega (arith, split, inside))

-- ---- the whole week

-- a list has no item past its end
pub none_after : (week : List Summary) (place : ℕ) → slice_get week place ≡ None → length week ≤ place
none_after week place none = elim (slice_get_cases week place).1 [
  | inl (s, lt, at, e) ↦ let clash : Some s ≡ None = sym at ∙ none in cc
  | inr (past, e) ↦ past
]

module _ (m : Multipliers) (season : Season) (store done place : ℕ) (early : done < season.rules.weeks) (pairs : List (ℕ × Summary)) (is : pairs ≡ live_pairs season.rules) (masses : List ℕ) (next : List Summary) (first used : Table ℕ) (after : List ℕ)
    (so_far : IsSwept m season store done place (at_week done pairs) next masses first after used) (all : length (at_week done pairs) ≤ place) where
  whole : take place (at_week done pairs) ≡ at_week done (live_pairs season.rules)
  whole = take_all place (at_week done pairs) all ∙ ap (at_week done) is

  pub rows_after : AreRows 0 (suc (store_at season store).units) next (length next) (mass m season store (suc done)) after
  rows_after = record {
    size = so_far.size;
    each = λ k stock t lt there low. so_far.came k stock t there low ∙ ap (λ (from : List Summary). came_from m season store done from t stock) (whole ∙ week_is season.rules done (omega arith));
  }

  pub used_after : IsUsed store (suc done) (usage m season store (suc done)) first used
  used_after = subst (λ (from : List Summary). IsUsed store (suc done) (used_from m season store done from) first used) (whole ∙ week_is season.rules done (omega arith)) so_far.used_is
