-- What holds of rows whose sums balance at each place of a season.
use Rattle.std.proofs.Common.{◌≡◌, ◌≤◌, ◌<◌, ◌+◌, ◌*◌, ◌-◌, ◌/◌, ◌%◌, ◌∙◌, ℕ, zero, suc, List, [], ◌∷◌, length, map, get_or, refl, ap, sym, arith, Bool, true, false, div-add-mod', div-lt_iff_lt-mul, get_or-append-add, length-append, mod-lt, mul_assoc}
use Rattle.std.specs.Prelude.{cond, find, flat_map, not, Option, None, Some, Ok}
use Rattle.std.proofs.lemmas.List.{get_or_append_left}
use Rattle.clr_num.specs.Lists.{numbers}
use Rattle.clr_demand.proofs.PlaceLemmas.{radix-less}
use Rattle.clr_demand.proofs.RowLemmas.{bound}
use Rattle.clr_demand.proofs.WeightLemmas.{get_or-map-numbers, length-map-numbers}
use Rattle.clr_demand.specs.Demand.{Listed, Place, Sizes, balanced, balances, is_unbalanced, listed_of, places, rows_of, total, unless_refused}
use Rattle.clr_demand.specs.Weights.{row_number}

-- ---- lists of one length, one after another

flat-length : {X : Type 0} (f : ℕ → List X) (width from count : ℕ) → ((n : ℕ) → length (f n) ≡ width) → length (flat_map f (numbers from count)) ≡ count * width
flat-length f width from zero long = omega arith
flat-length f width from (suc count) long =
    let ih = flat-length f width (suc from) count long in
    length-append (f from) (flat_map f (numbers (suc from) count)) ∙ omega (arith, ih, long from)

flat-item : {X : Type 0} (f : ℕ → List X) (width from count i j : ℕ) (d : X) → ((n : ℕ) → length (f n) ≡ width) → i < count → j < width →
    get_or (flat_map f (numbers from count)) (i * width + j) d ≡ get_or (f (from + i)) j d
flat-item f width from zero i j d long less under = absurd (omega arith)
flat-item f width from (suc count) zero j d long less under =
    let here : from + 0 ≡ from = omega arith in
    let plain : 0 * width + j ≡ j = omega arith in
    rw (plain, here) (get_or_append_left (f from) (flat_map f (numbers (suc from) count)) d j (omega (arith, long from, under)))
flat-item f width from (suc count) (suc i) j d long less under =
    let next : suc from + i ≡ from + suc i = omega arith in
    let past : suc i * width + j ≡ length (f from) + (i * width + j) = omega (arith, long from) in
    rw past (get_or-append-add (f from) (flat_map f (numbers (suc from) count)) (i * width + j) d) ∙ (flat-item f width (suc from) count i j d long (omega arith) under ∙ ap (λ n. get_or (f n) j d) next)

-- ---- the first item that passes a test

find-none : {X : Type 0} (test : X → Bool) (xs : List X) (d : X) → ((i : ℕ) → i < length xs → test (get_or xs i d) ≡ false) → find test xs ≡ None
find-none test [] d none = refl
find-none test (x ∷ xs) d none =
    let here : test x ≡ false = none 0 (omega arith) in
    rw here (find-none test xs d (λ i less. none (suc i) (omega arith)))

find-at : {X : Type 0} (test : X → Bool) (xs : List X) (i : ℕ) (d : X) → i < length xs → test (get_or xs i d) ≡ true → ((j : ℕ) → j < i → test (get_or xs j d) ≡ false) →
    find test xs ≡ Some (get_or xs i d)
find-at test [] i d less passes before = absurd (omega arith)
find-at test (x ∷ xs) zero d less passes before = let here : test x ≡ true = passes in rw here refl
find-at test (x ∷ xs) (suc i) d less passes before =
    let here : test x ≡ false = before 0 (omega arith) in
    rw here (find-at test xs i d (omega arith) passes (λ j under. before (suc j) (omega arith)))

cond-none : {X : Type 0} (b : Bool) (x : X) (o : Option X) → cond b (Some x) o ≡ None → (b ≡ false) × (o ≡ None)
cond-none true x o e = cc e
cond-none false x o e = (refl, e)

none-at : {X : Type 0} (test : X → Bool) (xs : List X) (i : ℕ) (d : X) → find test xs ≡ None → i < length xs → test (get_or xs i d) ≡ false
none-at test [] i d none less = absurd (omega arith)
none-at test (x ∷ xs) zero d none less = (cond-none (test x) x (find test xs) none).0
none-at test (x ∷ xs) (suc i) d none less = none-at test xs i d (cond-none (test x) x (find test xs) none).1 (omega arith)

-- ---- the places of a season

abbrev place_of : ℕ → ℕ → ℕ → Place
place_of store week rung = record { store = store; week = week; rung = rung }

abbrev week_places : Sizes → ℕ → ℕ → List Place
week_places sizes store week = map (λ rung. place_of store week rung) (numbers 1 sizes.rungs)

abbrev store_places : Sizes → ℕ → List Place
store_places sizes store = flat_map (week_places sizes store) (numbers 1 sizes.weeks)

week-length : (sizes : Sizes) (store week : ℕ) → length (week_places sizes store week) ≡ sizes.rungs
week-length sizes store week = length-map-numbers (λ rung. place_of store week rung) 1 sizes.rungs

store-length : (sizes : Sizes) (store : ℕ) → length (store_places sizes store) ≡ sizes.weeks * sizes.rungs
store-length sizes store = flat-length (week_places sizes store) sizes.rungs 1 sizes.weeks (week-length sizes store)

places-length : (stores : ℕ) (sizes : Sizes) → length (places stores sizes) ≡ stores * sizes.weeks * sizes.rungs
places-length stores sizes = flat-length (store_places sizes) (sizes.weeks * sizes.rungs) 1 stores (store-length sizes) ∙ sym (mul_assoc stores sizes.weeks sizes.rungs)

-- a store, a week and a rung of so many
pub record IsPlace (stores weeks rungs : ℕ) (at : Place) : Type 0 where
  pub store_low : 1 ≤ at.store
  pub store_high : at.store ≤ stores
  pub week_low : 1 ≤ at.week
  pub week_high : at.week ≤ weeks
  pub rung_low : 1 ≤ at.rung
  pub rung_high : at.rung ≤ rungs

places-item : (stores : ℕ) (sizes : Sizes) (at d : Place) → IsPlace stores sizes.weeks sizes.rungs at → get_or (places stores sizes) (row_number sizes.weeks sizes.rungs at.store at.week at.rung) d ≡ at
places-item stores sizes at d is =
    let s = at.store - 1 in
    let w = at.week - 1 in
    let r = at.rung - 1 in
    let turn : (s * sizes.weeks + w) * sizes.rungs + r ≡ s * (sizes.weeks * sizes.rungs) + (w * sizes.rungs + r) = omega (arith, mul_assoc s sizes.weeks sizes.rungs) in
    let low : w < sizes.weeks = omega (arith, is.week_low, is.week_high) in
    let small : r < sizes.rungs = omega (arith, is.rung_low, is.rung_high) in
    let under : w * sizes.rungs + r < sizes.weeks * sizes.rungs = radix-less w r sizes.weeks sizes.rungs low small in
    let store : 1 + s ≡ at.store = omega (arith, is.store_low) in
    let week : 1 + w ≡ at.week = omega (arith, is.week_low) in
    let rung : 1 + r ≡ at.rung = omega (arith, is.rung_low) in
    ap (λ i. get_or (places stores sizes) i d) turn
    ∙ (flat-item (store_places sizes) (sizes.weeks * sizes.rungs) 1 stores s (w * sizes.rungs + r) d (store-length sizes) (omega (arith, is.store_low, is.store_high)) under
    ∙ (ap (λ n. get_or (store_places sizes n) (w * sizes.rungs + r) d) store
    ∙ (flat-item (week_places sizes at.store) sizes.rungs 1 sizes.weeks w r d (week-length sizes at.store) low small
    ∙ (ap (λ n. get_or (week_places sizes at.store n) r d) week
    ∙ (get_or-map-numbers (λ rung. place_of at.store at.week rung) 1 sizes.rungs r d small
    ∙ ap (λ n. place_of at.store at.week n) rung)))))

-- the place of a row
abbrev pub row_place : ℕ → ℕ → ℕ → Place
row_place weeks rungs row = place_of (row / rungs / weeks + 1) (row / rungs % weeks + 1) (row % rungs + 1)

pub record HasPlace (stores weeks rungs row : ℕ) : Type 0 where
  pub some_weeks : 0 < weeks
  pub some_rungs : 0 < rungs
  pub is : IsPlace stores weeks rungs (row_place weeks rungs row)
  pub row_is : row_number weeks rungs (row_place weeks rungs row).store (row_place weeks rungs row).week (row_place weeks rungs row).rung ≡ row

factor-some : (a b row : ℕ) → row < a * b → 0 < b
factor-some a zero row less = absurd (omega arith)
factor-some a (suc b) row less = omega arith

pub has-place : (stores weeks rungs row : ℕ) → row < stores * weeks * rungs → HasPlace stores weeks rungs row
has-place stores weeks rungs row less =
    let some : 0 < rungs = factor-some (stores * weeks) rungs row less in
    let week_less : row / rungs < stores * weeks = (div-lt_iff_lt-mul some).1 less in
    let many : 0 < weeks = factor-some stores weeks (row / rungs) week_less in
    let store_less : row / rungs / weeks < stores = (div-lt_iff_lt-mul many).1 week_less in
    let s : row / rungs / weeks + 1 - 1 ≡ row / rungs / weeks = omega arith in
    let w : row / rungs % weeks + 1 - 1 ≡ row / rungs % weeks = omega arith in
    let r : row % rungs + 1 - 1 ≡ row % rungs = omega arith in
    record {
      some_weeks = many;
      some_rungs = some;
      is = record {
        store_low = omega arith;
        store_high = omega (arith, store_less);
        week_low = omega arith;
        week_high = omega (arith, mod-lt (row / rungs) many);
        rung_low = omega arith;
        rung_high = omega (arith, mod-lt row some);
      };
      row_is = rw (s, w, r, div-add-mod' (row / rungs) weeks) (div-add-mod' row rungs);
    }

-- the places by the numbers of their rows
row-item : (stores : ℕ) (sizes : Sizes) (row : ℕ) (d : Place) → row < stores * sizes.weeks * sizes.rungs → get_or (places stores sizes) row d ≡ row_place sizes.weeks sizes.rungs row
row-item stores sizes row d less =
    let has = has-place stores sizes.weeks sizes.rungs row less in
    rw has.row_is at (places-item stores sizes (row_place sizes.weeks sizes.rungs row) d has.is)

pub number-less : (stores weeks rungs : ℕ) (at : Place) → IsPlace stores weeks rungs at → row_number weeks rungs at.store at.week at.rung < stores * weeks * rungs
number-less stores weeks rungs at is =
    let inner = radix-less (at.store - 1) (at.week - 1) stores weeks (omega (arith, is.store_low, is.store_high)) (omega (arith, is.week_low, is.week_high)) in
    radix-less ((at.store - 1) * weeks + (at.week - 1)) (at.rung - 1) (stores * weeks) rungs inner (omega (arith, is.rung_low, is.rung_high))

-- ---- the judgement

not-true : (b : Bool) → b ≡ true → not b ≡ false
not-true b e = rw e refl

not-false : (b : Bool) → not b ≡ false → b ≡ true
not-false true e = refl
not-false false e = cc e

-- the sums of so many stores, weeks and rungs
abbrev pub AllBalance : ℕ → Sizes → Bool → List Listed → Type 0
AllBalance stores sizes scaled rows =
    (at : Place) → IsPlace stores sizes.weeks sizes.rungs at → balances scaled sizes.base (total rows at.store at.week at.rung) ≡ true

-- where all sums balance
pub all-balanced : (stores : ℕ) (sizes : Sizes) (scaled : Bool) (rows : List Listed) → AllBalance stores sizes scaled rows → balanced stores sizes scaled rows ≡ Ok rows
unfolding balanced
all-balanced stores sizes scaled rows all =
    let first = row_place sizes.weeks sizes.rungs 0 in
    let none : find (is_unbalanced sizes scaled rows) (places stores sizes) ≡ None =
    find-none (is_unbalanced sizes scaled rows) (places stores sizes) first (λ row less.
    let under : row < stores * sizes.weeks * sizes.rungs = omega (arith, less, places-length stores sizes) in
    rw (row-item stores sizes row first under) (not-true _ (all (row_place sizes.weeks sizes.rungs row) (has-place stores sizes.weeks sizes.rungs row under).is))) in
    rw none refl

-- where that of a place doesn't, and those of the rows before do
pub first-unbalanced : (stores : ℕ) (sizes : Sizes) (scaled : Bool) (rows : List Listed) (at : Place) → IsPlace stores sizes.weeks sizes.rungs at → is_unbalanced sizes scaled rows at ≡ true →
    ((k : ℕ) → k < row_number sizes.weeks sizes.rungs at.store at.week at.rung → is_unbalanced sizes scaled rows (row_place sizes.weeks sizes.rungs k) ≡ false) →
    balanced stores sizes scaled rows ≡ unless_refused rows (Some at)
unfolding balanced
first-unbalanced stores sizes scaled rows at within bad before =
    let row = row_number sizes.weeks sizes.rungs at.store at.week at.rung in
    let less : row < stores * sizes.weeks * sizes.rungs = number-less stores sizes.weeks sizes.rungs at within in
    let here : get_or (places stores sizes) row at ≡ at = places-item stores sizes at at within in
    let found = find-at (is_unbalanced sizes scaled rows) (places stores sizes) row at (omega (arith, less, places-length stores sizes)) (rw here bad)
    (λ k under. rw (row-item stores sizes k at (omega (arith, less, under))) (before k under)) in
    ap (unless_refused rows) (found ∙ ap Some here)

refused-none : (rows out : List Listed) (found : Option Place) → unless_refused rows found ≡ Ok out → (rows ≡ out) × (found ≡ None)
refused-none rows out None e = (cc e, refl)
refused-none rows out (Some at) e = cc e

-- the rows of a file balance
pub rows-balance : (names : List (List ℕ)) (sizes : Sizes) (scaled : Bool) (bytes : List ℕ) (rows : List Listed) → rows_of names sizes scaled bytes ≡ Ok rows → AllBalance (length names) sizes scaled rows
unfolding rows_of balanced
rows-balance names sizes scaled bytes rows is = λ at within.
    let first = row_place sizes.weeks sizes.rungs 0 in
    let read = bound (listed_of names sizes bytes) (balanced (length names) sizes scaled) rows is in
    let none = refused-none read.0 rows (find (is_unbalanced sizes scaled read.0) (places (length names) sizes)) read.2 in
    let under = number-less (length names) sizes.weeks sizes.rungs at within in
    let passes = none-at (is_unbalanced sizes scaled read.0) (places (length names) sizes) (row_number sizes.weeks sizes.rungs at.store at.week at.rung) first none.1 (omega (arith, under, places-length (length names) sizes)) in
    rw (← none.0) (not-false _ (rw (places-item (length names) sizes at first within) at passes))
