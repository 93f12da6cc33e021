-- The tables keep one line more.
use Rattle.std.proofs.Common.{◌≡◌, ℕ, ◌+◌, ◌-◌, ◌*◌, ◌%◌, ◌<◌, ◌≤◌, refl, sym, ap, ap₂, ◌∙◌, subst, subst₂, arith, suc, List, length, get_or, slice_get, Some, ◌⊎◌, inl, inr, ℤ, pos}
use Rattle.std.proofs.lemmas.Option.{get_or_from_slice_get, slice_get_within}
use Rattle.clr_rules.specs.declared.season_rules.Summary.{Summary}
use Rattle.clr_rules.specs.LiveSummaries.{IsIn, live_summaries, same_summary}
use Rattle.clr_rules.proofs.LiveLists.{same_is, same_self}
use Rattle.clr_season.specs.Season.{Season, IsSeason}
use Rattle.clr_model.specs.Fits.{stock_lists}
use Rattle.clr_cert.specs.declared.place.Place.{Place}
use Rattle.clr_cert.specs.declared.place.Place.TheVariants.{Path, Mult, Low, High, Value, Joint, Revenue, Bound, Exact, End}
use Rattle.clr_cert.specs.Places.{IsJointPlace, IsPlaceOf, IsWeekRung, IsWeekStore, places, walk}
use Rattle.clr_cert.specs.Reading.{numbers_told, row_of, told}
use Rattle.clr_cert.proofs.Walking.{walk_next}
use Rattle.clr_check.specs.declared.tables.Tables.{Tables}
use Rattle.clr_check.specs.Rows.{IsPut, kept_at}
use Rattle.clr_check.specs.Standing.{AreKept, AreMultsKept, IsHeld, IsLineKept, Keeps, live_place, mult_row, row_number, stock_count}
use Rattle.clr_cert.proofs.Among.{FirstPassing, first_passing}
use Rattle.clr_check.proofs.Apart.{one_segment, order, put_after, put_before, put_else, put_there, rows_apart, segment_after, segment_before}
use Rattle.clr_check.proofs.Rows.{rises, row_at, stage, walk_place}

-- ---- one line more

-- lines that have come are of no later stage
stage_before : (season : Season) (at row : ℕ) (other place : Place) → IsSeason season → slice_get (places season) at ≡ Some other → slice_get (places season) row ≡ Some place → at ≤ row → stage season other ≤ stage season place
stage_before season at row other place ok there here le =
    let inside : row < length (places season) = slice_get_within (places season) row place here in
    let up : stage season (get_or (walk season) at End) ≤ stage season (get_or (walk season) (at + (row - at)) End) = rises season at (row - at) ok (omega (arith, inside, le)) in
    let e : at + (row - at) ≡ row = omega (arith, le) in
    let first : get_or (walk season) at End ≡ other = get_or_from_slice_get (walk season) at other End (walk_place season at other there) in
    let last : get_or (walk season) (at + (row - at)) End ≡ place = ap (λ n. get_or (walk season) n End) e ∙ get_or_from_slice_get (walk season) row place End (walk_place season row place here) in
    subst₂ (λ x y. stage season x ≤ stage season y) first last up

-- the numbers of another line that is held stay
abbrev Stays : Season → Place → Tables → Tables → Type 0
Stays season place old new =
    (other : Place) → IsPlaceOf season other → IsHeld season place other → stage season other ≤ stage season place → (other ≡ place → ⊥) → (f : ℕ → ℤ) → AreKept season old other f → AreKept season new other f

keeps_more : (season : Season) (lines : List (List ℕ)) (row : ℕ) (place : Place) (old new : Tables) (numbers : List ℤ) → IsSeason season → slice_get (places season) row ≡ Some place → numbers_told season lines place ≡ numbers →
    AreKept season new place (λ k. get_or numbers k (pos 0)) → Stays season place old new → Keeps season lines row place old → IsLineKept season lines row place new numbers
keeps_more season lines row place old new numbers ok here is own stays before = record {
  here = here;
  tells = is;
  keeps = λ at other there less held. elim (split at row less) [
    | inl l ↦ stays other (walk_next season other at ok (walk_place season at other there)).within held (stage_before season at row other place ok there here (omega arith)) (λ e. no_two at other there l e) (told season lines other) (before at other there l held)
    | inr e ↦ subst (λ p. AreKept season new p (told season lines p)) (some_is (sym here ∙ (ap (slice_get (places season)) (sym e) ∙ there))) (subst (λ (ns : List ℤ). AreKept season new place (λ k. get_or ns k (pos 0))) (sym is) own)
  ];
}
  where
    split : (a b : ℕ) → a < suc b → (a < b) ⊎ (a ≡ b)
    split a b h = grind arith

    some_is : {X : Type 0} {x y : X} → Some x ≡ Some y → x ≡ y
    some_is e = cc

    no_two : (at : ℕ) (other : Place) → slice_get (places season) at ≡ Some other → at < row → other ≡ place → ⊥
    no_two at other there l e =
        let a : row_of season other ≡ at = row_at season at other ok there in
        let b : row_of season place ≡ row = row_at season row place ok here in
        let c : row_of season other ≡ row_of season place = ap (row_of season) e in
        omega (arith, a, b, c, l)

-- ---- live summaries by their places

-- a live summary stands at its place
pub live_at : (season : Season) (done : ℕ) (s : Summary) → IsIn (live_summaries season.rules done) s → slice_get (live_summaries season.rules done) (live_place season done s) ≡ Some s
live_at season done s h =
    let first : FirstPassing (same_summary s) (live_summaries season.rules done) = first_passing (same_summary s) (live_summaries season.rules done) s (record { at = h.0; here = h.1 }) (same_self s) in
    first.here ∙ ap Some (sym (same_is s first.item first.passing))

one_live : (season : Season) (done : ℕ) (s t : Summary) → IsIn (live_summaries season.rules done) s → IsIn (live_summaries season.rules done) t → live_place season done s ≡ live_place season done t → s ≡ t
one_live season done s t h k e = some_is (sym (live_at season done s h) ∙ (ap (slice_get (live_summaries season.rules done)) e ∙ live_at season done t k))
  where
    some_is : {X : Type 0} {x y : X} → Some x ≡ Some y → x ≡ y
    some_is e = cc

-- ---- tables with other rows

module _ (t : Tables) where
  abbrev pub with_path : List ℕ → Tables
  with_path path = record { path = path; mults = t.mults; lows = t.lows; highs = t.highs; values = t.values; joint_lows = t.joint_lows; joint_tops = t.joint_tops; low = t.low; high = t.high; bound = t.bound; exact = t.exact }

  abbrev pub with_mults : List (List ℤ) → Tables
  with_mults rows = record { path = t.path; mults = rows; lows = t.lows; highs = t.highs; values = t.values; joint_lows = t.joint_lows; joint_tops = t.joint_tops; low = t.low; high = t.high; bound = t.bound; exact = t.exact }

  abbrev pub with_lows : List (List ℤ) → Tables
  with_lows rows = record { path = t.path; mults = t.mults; lows = rows; highs = t.highs; values = t.values; joint_lows = t.joint_lows; joint_tops = t.joint_tops; low = t.low; high = t.high; bound = t.bound; exact = t.exact }

  abbrev pub with_highs : List (List ℤ) → Tables
  with_highs rows = record { path = t.path; mults = t.mults; lows = t.lows; highs = rows; values = t.values; joint_lows = t.joint_lows; joint_tops = t.joint_tops; low = t.low; high = t.high; bound = t.bound; exact = t.exact }

  abbrev pub with_values : List (List ℤ) → Tables
  with_values rows = record { path = t.path; mults = t.mults; lows = t.lows; highs = t.highs; values = rows; joint_lows = t.joint_lows; joint_tops = t.joint_tops; low = t.low; high = t.high; bound = t.bound; exact = t.exact }

  abbrev pub with_joints : List (List ℤ) → List (List ℤ) → Tables
  with_joints lows tops = record { path = t.path; mults = t.mults; lows = t.lows; highs = t.highs; values = t.values; joint_lows = lows; joint_tops = tops; low = t.low; high = t.high; bound = t.bound; exact = t.exact }

  abbrev pub with_revenue : ℤ → ℤ → Tables
  with_revenue low high = record { path = t.path; mults = t.mults; lows = t.lows; highs = t.highs; values = t.values; joint_lows = t.joint_lows; joint_tops = t.joint_tops; low = low; high = high; bound = t.bound; exact = t.exact }

  abbrev pub with_bound : ℤ → Tables
  with_bound bound = record { path = t.path; mults = t.mults; lows = t.lows; highs = t.highs; values = t.values; joint_lows = t.joint_lows; joint_tops = t.joint_tops; low = t.low; high = t.high; bound = bound; exact = t.exact }

  abbrev pub with_exact : ℤ × ℤ → Tables
  with_exact exact = record { path = t.path; mults = t.mults; lows = t.lows; highs = t.highs; values = t.values; joint_lows = t.joint_lows; joint_tops = t.joint_tops; low = t.low; high = t.high; bound = t.bound; exact = exact }

-- ---- each kind of line

from_none : (k : ℕ) → k ≡ 0 + k
from_none k = omega arith

-- later weeks of an earlier or the same stage
weeks_back : (season : Season) (done later : ℕ) → done ≤ season.rules.weeks → later ≤ season.rules.weeks → 4 + (season.rules.weeks - later) ≤ 4 + (season.rules.weeks - done) → done ≤ later
weeks_back season done later a b h = omega arith

pub same_low : {d d' s s' : ℕ} → d ≡ d' → s ≡ s' → Low d s ≡ Low d' s'
same_low p q = ap₂ (λ d s. Low d s) p q

pub same_high : {d d' s s' : ℕ} → d ≡ d' → s ≡ s' → High d s ≡ High d' s'
same_high p q = ap₂ (λ d s. High d s) p q

module _ (season : Season) (lines : List (List ℕ)) (row : ℕ) (old : Tables) (numbers : List ℤ) (ok : IsSeason season) where
  pub low_kept : (done store : ℕ) (rows : List (List ℤ)) → slice_get (places season) row ≡ Some (Low done store) → numbers_told season lines (Low done store) ≡ numbers → IsWeekStore season done store → length numbers ≡ stock_count season store →
      IsPut old.lows (row_number store done) 0 numbers rows → Keeps season lines row (Low done store) old → IsLineKept season lines row (Low done store) (with_lows old rows) numbers
  low_kept done store rows here is place size put before =
      keeps_more season lines row (Low done store) old (with_lows old rows) numbers ok here is (λ k less. ap (kept_at rows (row_number store done)) (from_none k) ∙ put_there old.lows rows (row_number store done) 0 k numbers put (omega (arith, less, size))) stays before
    where
      stays : Stays season (Low done store) old (with_lows old rows)
      stays (Low later other) within held earlier apart f h = λ k less. put_else old.lows rows (row_number store done) 0 (row_number other later) k numbers put
          (rows_apart store other done later place.first within.first (weeks_back season done later place.early within.early earlier) held (λ p q. apart (same_low q p))) ∙ h k less
      stays _ within held earlier apart f h = h

  pub high_kept : (done store : ℕ) (rows : List (List ℤ)) → slice_get (places season) row ≡ Some (High done store) → numbers_told season lines (High done store) ≡ numbers → IsWeekStore season done store → length numbers ≡ stock_count season store →
      IsPut old.highs (row_number store done) 0 numbers rows → Keeps season lines row (High done store) old → IsLineKept season lines row (High done store) (with_highs old rows) numbers
  high_kept done store rows here is place size put before =
      keeps_more season lines row (High done store) old (with_highs old rows) numbers ok here is (λ k less. ap (kept_at rows (row_number store done)) (from_none k) ∙ put_there old.highs rows (row_number store done) 0 k numbers put (omega (arith, less, size))) stays before
    where
      stays : Stays season (High done store) old (with_highs old rows)
      stays (High later other) within held earlier apart f h = λ k less. put_else old.highs rows (row_number store done) 0 (row_number other later) k numbers put
          (rows_apart store other done later place.first within.first (weeks_back season done later place.early within.early earlier) held (λ p q. apart (same_high q p))) ∙ h k less
      stays _ within held earlier apart f h = h

  pub head_kept : (place : Place) → AreKept season old place (λ k. get_or numbers k (pos 0)) → slice_get (places season) row ≡ Some place → numbers_told season lines place ≡ numbers → Keeps season lines row place old → IsLineKept season lines row place old numbers
  head_kept place own here is before = keeps_more season lines row place old old numbers ok here is own (λ other within held earlier apart f h. h) before

-- ---- the other kinds of lines

module _ (season : Season) (lines : List (List ℕ)) (row : ℕ) (old : Tables) (numbers : List ℤ) (ok : IsSeason season) where
  pub path_kept : (path : List ℕ) → slice_get (places season) row ≡ Some Path → numbers_told season lines Path ≡ numbers → ((k : ℕ) → k < season.rules.weeks → pos (get_or path k 0) ≡ get_or numbers k (pos 0)) → Keeps season lines row Path old → IsLineKept season lines row Path (with_path old path) numbers
  path_kept path here is there before = keeps_more season lines row Path old (with_path old path) numbers ok here is there stays before
    where
      stays : Stays season Path old (with_path old path)
      stays Path within held earlier apart f h = absurd (apart refl)
      stays _ within held earlier apart f h = h

  pub revenue_kept : (low high : ℤ) → slice_get (places season) row ≡ Some Revenue → numbers_told season lines Revenue ≡ numbers → low ≡ get_or numbers 0 (pos 0) → high ≡ get_or numbers 1 (pos 0) → Keeps season lines row Revenue old → IsLineKept season lines row Revenue (with_revenue old low high) numbers
  revenue_kept low high here is a b before = keeps_more season lines row Revenue old (with_revenue old low high) numbers ok here is (a, b) stays before
    where
      stays : Stays season Revenue old (with_revenue old low high)
      stays Revenue within held earlier apart f h = absurd (apart refl)
      stays _ within held earlier apart f h = h

  pub bound_kept : (bound : ℤ) → slice_get (places season) row ≡ Some Bound → numbers_told season lines Bound ≡ numbers → bound ≡ get_or numbers 0 (pos 0) → Keeps season lines row Bound old → IsLineKept season lines row Bound (with_bound old bound) numbers
  bound_kept bound here is a before = keeps_more season lines row Bound old (with_bound old bound) numbers ok here is a stays before
    where
      stays : Stays season Bound old (with_bound old bound)
      stays Bound within held earlier apart f h = absurd (apart refl)
      stays _ within held earlier apart f h = h

  pub exact_kept : (low top : ℤ) → slice_get (places season) row ≡ Some Exact → numbers_told season lines Exact ≡ numbers → low ≡ get_or numbers 0 (pos 0) → top ≡ get_or numbers 1 (pos 0) → Keeps season lines row Exact old → IsLineKept season lines row Exact (with_exact old (low, top)) numbers
  exact_kept low top here is a b before = keeps_more season lines row Exact old (with_exact old (low, top)) numbers ok here is (a, b) stays before
    where
      stays : Stays season Exact old (with_exact old (low, top))
      stays Exact within held earlier apart f h = absurd (apart refl)
      stays _ within held earlier apart f h = h

  pub mults_kept : (week rung : ℕ) (rows : List (List ℤ)) → slice_get (places season) row ≡ Some (Mult week rung) → numbers_told season lines (Mult week rung) ≡ numbers → IsWeekRung season week rung → AreMultsKept season week rung numbers (length season.stores) old.mults rows → Keeps season lines row (Mult week rung) old → IsLineKept season lines row (Mult week rung) (with_mults old rows) numbers
  mults_kept week rung rows here is place put before = keeps_more season lines row (Mult week rung) old (with_mults old rows) numbers ok here is put.there stays before
    where
      less : {a n : ℕ} → 1 ≤ a → a ≤ n → a - 1 < n
      less p q = omega arith

      same : (a b : ℕ) → 1 ≤ a → 1 ≤ b → a - 1 ≡ b - 1 → a ≡ b
      same a b p q e = omega arith

      stays : Stays season (Mult week rung) old (with_mults old rows)
      stays (Mult later other) within held earlier apart f h = λ k inside. put.others (mult_row season (suc k) later) (other - 1)
          (λ i i_less e at. apart (ap₂ (λ w r. Mult w r) (same later week within.first_week place.first_week (one_segment season.rules.weeks (suc k - 1) (suc i - 1) (later - 1) (week - 1) (less within.first_week within.last_week) (less place.first_week place.last_week) e).1) (same other rung within.first_rung place.first_rung at))) ∙ h k inside
      stays _ within held earlier apart f h = h

-- ---- values of live summaries

module _ (season : Season) (lines : List (List ℕ)) (row : ℕ) (old : Tables) (numbers : List ℤ) (ok : IsSeason season) where
  pub value_kept : (done store : ℕ) (s : Summary) (rows : List (List ℤ)) → slice_get (places season) row ≡ Some (Value done store s) → numbers_told season lines (Value done store s) ≡ numbers → IsPlaceOf season (Value done store s) → length numbers ≡ stock_count season store →
      IsPut old.values (row_number store done) (live_place season done s * stock_count season store) numbers rows → Keeps season lines row (Value done store s) old → IsLineKept season lines row (Value done store s) (with_values old rows) numbers
  value_kept done store s rows here is place size put before =
      keeps_more season lines row (Value done store s) old (with_values old rows) numbers ok here is (λ k less. put_there old.values rows (row_number store done) (live_place season done s * stock_count season store) k numbers put (omega (arith, less, size))) stays before
    where
      same_week : (t : Summary) → IsIn (live_summaries season.rules done) t → (Value done store t ≡ Value done store s → ⊥) → (k : ℕ) → k < stock_count season store →
          kept_at rows (row_number store done) (live_place season done t * stock_count season store + k) ≡ kept_at old.values (row_number store done) (live_place season done t * stock_count season store + k)
      same_week t live apart k less = elim (order (live_place season done t) (live_place season done s)) [
        | inl l ↦ put_before old.values rows (row_number store done) (live_place season done s * stock_count season store) (live_place season done t * stock_count season store + k) numbers put (segment_before (live_place season done s) (live_place season done t) (stock_count season store) k l less)
        | inr m ↦ elim m [
          | inl g ↦ put_after old.values rows (row_number store done) (live_place season done s * stock_count season store) (live_place season done t * stock_count season store + k) numbers put
              (let past : live_place season done s * stock_count season store + stock_count season store ≤ live_place season done t * stock_count season store + k = segment_after (live_place season done s) (live_place season done t) (stock_count season store) k g in omega (arith, past, size))
          | inr e ↦ absurd (apart (ap (λ x. Value done store x) (one_live season done t s live place.1 e)))
        ]
      ]

      turned : (later other : ℕ) (t : Summary) → done ≡ later → store ≡ other → IsIn (live_summaries season.rules later) t → (Value later other t ≡ Value done store s → ⊥) → (k : ℕ) → k < stock_count season other →
          kept_at rows (row_number other later) (live_place season later t * stock_count season other + k) ≡ kept_at old.values (row_number other later) (live_place season later t * stock_count season other + k)
      turned later other t p q = subst₂ (λ d o. IsIn (live_summaries season.rules d) t → (Value d o t ≡ Value done store s → ⊥) → (k : ℕ) → k < stock_count season o →
          kept_at rows (row_number o d) (live_place season d t * stock_count season o + k) ≡ kept_at old.values (row_number o d) (live_place season d t * stock_count season o + k)) p q (same_week t)

      other_row : (later other k : ℕ) → IsWeekStore season later other → done ≤ later → later ≤ suc done → (other ≡ store → later ≡ done → ⊥) → kept_at rows (row_number other later) k ≡ kept_at old.values (row_number other later) k
      other_row later other k within low high apart = put_else old.values rows (row_number store done) (live_place season done s * stock_count season store) (row_number other later) k numbers put (rows_apart store other done later place.0.first within.first low high apart)

      stays : Stays season (Value done store s) old (with_values old rows)
      stays (Value later other t) within held earlier apart f h = λ k less. elim (order later done) [
        | inl l ↦ other_row later other (live_place season later t * stock_count season other + k) within.0 (weeks_back season done later place.0.early within.0.early earlier) held (λ p q. absurd (omega (arith, l, q))) ∙ h k less
        | inr m ↦ elim m [
          | inl g ↦ other_row later other (live_place season later t * stock_count season other + k) within.0 (weeks_back season done later place.0.early within.0.early earlier) held (λ p q. absurd (omega (arith, g, q))) ∙ h k less
          | inr q ↦ elim (order other store) [
            | inl l ↦ other_row later other (live_place season later t * stock_count season other + k) within.0 (weeks_back season done later place.0.early within.0.early earlier) held (λ p r. absurd (omega (arith, l, p))) ∙ h k less
            | inr n ↦ elim n [
              | inl g ↦ other_row later other (live_place season later t * stock_count season other + k) within.0 (weeks_back season done later place.0.early within.0.early earlier) held (λ p r. absurd (omega (arith, g, p))) ∙ h k less
              | inr p ↦ turned later other t (sym q) (sym p) within.1 apart k less ∙ h k less
            ]
          ]
        ]
      ]
      stays _ within held earlier apart f h = h

-- one number of a live summary and a list of stocks is put, and those of others stay
one_else : (season : Season) (old new : List (List ℤ)) (done : ℕ) (s : Summary) (index : ℕ) (one : List ℤ) → IsJointPlace season done s index → length one ≡ 1 → IsPut old (done % 2) (live_place season done s * stock_lists season.stores + index) one new →
    (later : ℕ) (t : Summary) (other : ℕ) → IsJointPlace season later t other → done ≤ later → later ≤ suc done → (Joint later t other ≡ Joint done s index → ⊥) →
    kept_at new (later % 2) (live_place season later t * stock_lists season.stores + other) ≡ kept_at old (later % 2) (live_place season later t * stock_lists season.stores + other)
one_else season old new done s index one place size put later t other within low high apart = elim (order done later) [
  | inl l ↦ put_else old new (done % 2) (live_place season done s * stock_lists season.stores + index) (later % 2) (live_place season later t * stock_lists season.stores + other) one put (two_rows (omega (arith, l, high)))
  | inr m ↦ elim m [
    | inl g ↦ absurd (omega (arith, g, low))
    | inr e ↦ turned e within apart
  ]
]
  where
    two_rows : later ≡ suc done → (later % 2 < done % 2) ⊎ (done % 2 < later % 2)
    two_rows e = grind arith

    same_week : IsJointPlace season done t other → (Joint done t other ≡ Joint done s index → ⊥) → kept_at new (done % 2) (live_place season done t * stock_lists season.stores + other) ≡ kept_at old (done % 2) (live_place season done t * stock_lists season.stores + other)
    same_week here distinct = elim (order (live_place season done t * stock_lists season.stores + other) (live_place season done s * stock_lists season.stores + index)) [
      | inl l ↦ put_before old new (done % 2) (live_place season done s * stock_lists season.stores + index) (live_place season done t * stock_lists season.stores + other) one put l
      | inr m ↦ elim m [
        | inl g ↦ put_after old new (done % 2) (live_place season done s * stock_lists season.stores + index) (live_place season done t * stock_lists season.stores + other) one put (omega (arith, g, size))
        | inr e ↦ let parts = one_segment (stock_lists season.stores) (live_place season done t) (live_place season done s) other index here.within place.within e in absurd (distinct (ap₂ (λ x i. Joint done x i) (one_live season done t s here.live place.live parts.0) parts.1))
      ]
    ]

    turned : done ≡ later → IsJointPlace season later t other → (Joint later t other ≡ Joint done s index → ⊥) → kept_at new (later % 2) (live_place season later t * stock_lists season.stores + other) ≡ kept_at old (later % 2) (live_place season later t * stock_lists season.stores + other)
    turned e = subst (λ d. IsJointPlace season d t other → (Joint d t other ≡ Joint done s index → ⊥) → kept_at new (d % 2) (live_place season d t * stock_lists season.stores + other) ≡ kept_at old (d % 2) (live_place season d t * stock_lists season.stores + other)) e same_week

module _ (season : Season) (lines : List (List ℕ)) (row : ℕ) (old : Tables) (numbers : List ℤ) (ok : IsSeason season) where
  pub joint_kept : (done : ℕ) (s : Summary) (index : ℕ) (ones twos : List ℤ) (lows tops : List (List ℤ)) → slice_get (places season) row ≡ Some (Joint done s index) → numbers_told season lines (Joint done s index) ≡ numbers → IsJointPlace season done s index →
      length ones ≡ 1 → get_or ones 0 (pos 0) ≡ get_or numbers 1 (pos 0) → length twos ≡ 1 → get_or twos 0 (pos 0) ≡ get_or numbers 2 (pos 0) →
      IsPut old.joint_lows (done % 2) (live_place season done s * stock_lists season.stores + index) ones lows → IsPut old.joint_tops (done % 2) (live_place season done s * stock_lists season.stores + index) twos tops →
      Keeps season lines row (Joint done s index) old → IsLineKept season lines row (Joint done s index) (with_joints old lows tops) numbers
  joint_kept done s index ones twos lows tops here is place one one_is two two_is put_low put_top before =
      keeps_more season lines row (Joint done s index) old (with_joints old lows tops) numbers ok here is (there old.joint_lows lows ones one put_low ∙ one_is, there old.joint_tops tops twos two put_top ∙ two_is) stays before
    where
      from_all : (n : ℕ) → n ≡ n + 0
      from_all n = omega arith

      there : (before after : List (List ℤ)) (one : List ℤ) → length one ≡ 1 → IsPut before (done % 2) (live_place season done s * stock_lists season.stores + index) one after → kept_at after (done % 2) (live_place season done s * stock_lists season.stores + index) ≡ get_or one 0 (pos 0)
      there before after one size put = ap (kept_at after (done % 2)) (from_all (live_place season done s * stock_lists season.stores + index)) ∙ put_there before after (done % 2) (live_place season done s * stock_lists season.stores + index) 0 one put (omega (arith, size))

      stays : Stays season (Joint done s index) old (with_joints old lows tops)
      stays (Joint later t other) within held earlier apart f h = (
        one_else season old.joint_lows lows done s index ones place one put_low later t other within (weeks_back season done later place.early within.early earlier) held apart ∙ h.0,
        one_else season old.joint_tops tops done s index twos place two put_top later t other within (weeks_back season done later place.early within.early earlier) held apart ∙ h.1,
      )
      stays _ within held earlier apart f h = h
