-- The demands of one store after another.
use Rattle.std.proofs.Common.{◌≡◌, ℕ, zero, suc, ◌+◌, ◌-◌, ◌*◌, ◌^◌, ◌≤◌, ◌<◌, ℤ, pos, ◌+ℤ◌, ◌*ℤ◌, refl, sym, ap, ap₂, ◌∙◌, subst, arith, List, [], ◌∷◌, ◌++◌, length, map, get_or, drop, take, mul-le-mul, le_trans, pow-suc, ◌/◌, Bool, true, false}
use Rattle.std.specs.Prelude.{nat_lt}
use Rattle.std.proofs.lemmas.List.{drop_more, get_or-append_right, get_or-drop, get_or-take, get_or_append_left, length-drop, length-map, length-take-le}
use Rattle.std.proofs.Math.Nat.{mul-div_cancel_left, pow-le-pow_right}
use native.Mathlib.Nat.{pow-zero}
use Rattle.clr_rules.proofs.GridLemmas.{split_place}
use Rattle.clr_average.specs.Average.{IsWithin}
use Rattle.clr_average.proofs.Sums.{sum_over-same}
use Rattle.clr_stock.specs.Stock.{Store, no_store}
use Rattle.clr_season.specs.Season.{Season, IsSeason, weight, demands, store_at}
use Rattle.clr_model.specs.Revenue.{earn, left, full_stocks}
use Rattle.clr_model.specs.JointFold.{fold_stores}
use Rattle.clr_model.specs.JointWeek.{joint_base}
use Rattle.clr_model.specs.Stocks.{lists_of, place_in}
use Rattle.clr_policy.specs.StockLists.{AllWithin, AreWithin, RowWithin, at_place, folded, most_gain, most_reach, most_total, reach_after, row_folded, store_sum, stocks_from}
use Rattle.clr_policy.specs.declared.stock_lists.Week.{Week}

-- ---- the stores from one on

pub map-get : (stores : List Store) (i : ℕ) → i < length stores → get_or (map (λ store. store.units) stores) i 0 ≡ (get_or stores i no_store).units
map-get [] i h = absurd (none h)
  where
    none : i < 0 → ⊥
    none p = omega arith
map-get (store ∷ stores) zero h = refl
map-get (store ∷ stores) (suc i) h = map-get stores i (omega arith)

all_dropped : (xs : List ℕ) (n : ℕ) → length xs ≤ n → drop n xs ≡ []
all_dropped [] zero h = refl
all_dropped [] (suc n) h = refl
all_dropped (x ∷ xs) zero h = absurd (none h)
  where
    none : suc (length xs) ≤ 0 → ⊥
    none p = omega arith
all_dropped (x ∷ xs) (suc n) h = all_dropped xs n (omega arith)

pub stocks_first : (season : Season) (i : ℕ) → i < length season.stores → stocks_from season (suc i) ≡ (store_at season (suc i)).units ∷ stocks_from season (suc i + 1)
stocks_first season i h =
    let before : suc i - 1 ≡ i = omega arith in
    let after : suc i + 1 - 1 ≡ i + 1 = omega arith in
    rw (before, after)
    (drop_more (full_stocks season) i 0 (subst (λ n. i < n) (sym (length-map season.stores (λ store. store.units))) h)
    ∙ ap (λ x. x ∷ drop (i + 1) (full_stocks season)) (map-get season.stores i h))

pub stocks_none : (season : Season) (store : ℕ) → length season.stores < store → stocks_from season store ≡ []
stocks_none season store h = all_dropped (full_stocks season) (store - 1) (subst (λ n. n ≤ store - 1) (sym (length-map season.stores (λ s. s.units))) (omega (arith, h)))

length-dropped : (xs : List ℕ) (n : ℕ) → length (drop n xs) ≡ length xs - n
length-dropped [] zero = omega arith
length-dropped [] (suc n) = omega arith
length-dropped (x ∷ xs) zero = omega arith
length-dropped (x ∷ xs) (suc n) = let rest = length-dropped xs n in omega (arith, rest)

pub stocks_length : (season : Season) (store : ℕ) → 1 ≤ store → length (stocks_from season (store + 1)) ≡ length season.stores - store
stocks_length season store h =
    let before : store + 1 - 1 ≡ store = omega arith in
    rw before (length-dropped (full_stocks season) store ∙ ap (λ n. n - store) (length-map season.stores (λ s. s.units)))

pub within_length : (mosts stocks : List ℕ) → AreWithin mosts stocks → length stocks ≡ length mosts
within_length [] [] h = refl
within_length [] (stock ∷ stocks) h = absurd h
within_length (most ∷ mosts) [] h = absurd h
within_length (most ∷ mosts) (stock ∷ stocks) h = ap suc (within_length mosts stocks h.1)

-- ---- the rows that are folded

pub record AreFolded (season : Season) (week : Week) (store width stock : ℕ) (before now : List ℤ) : Type 0 where
  pub size : length now ≡ length before
  pub each : (x : ℕ) (rest : List ℕ) → x < stock → AreWithin (stocks_from season (store + 1)) rest →
      at_place now (x * width + place_in (stocks_from season (store + 1)) rest) ≡ row_folded season week.done week.before week.rung store width before x rest
  pub within : (reach : ℕ) → reach ≤ most_reach → AllWithin reach before → (x : ℕ) → x < stock → RowWithin (reach_after season (store + 1) reach) width x now
  pub later : (k : ℕ) → stock * width ≤ k → at_place now k ≡ at_place before k

-- ---- places

pub lists_first : (most : ℕ) (mosts : List ℕ) → lists_of (most ∷ mosts) ≡ (most + 1) * lists_of mosts
lists_first most mosts = omega arith

pub place_low : (mosts stocks : List ℕ) → AreWithin mosts stocks → place_in mosts stocks < lists_of mosts
place_low [] [] h = omega arith
place_low [] (stock ∷ stocks) h = absurd h
place_low (most ∷ mosts) [] h = absurd h
place_low (most ∷ mosts) (stock ∷ stocks) h =
    let rest = place_low mosts stocks h.1 in
    let row : (stock + 1) * lists_of mosts ≤ suc most * lists_of mosts = mul-le-mul (omega (arith, h.0)) (omega arith) in
    let split : (stock + 1) * lists_of mosts ≡ stock * lists_of mosts + lists_of mosts = omega arith in
    omega (arith, rest, row, split)

-- the sum over the stores' demands looks at lists of stocks alone
pub fold_same : (season : Season) (done before rung store : ℕ) (mosts stocks : List ℕ) (f g : List ℕ → ℤ) → ((more : List ℕ) → AreWithin mosts more → f more ≡ g more) → AreWithin mosts stocks →
    fold_stores season done before rung store stocks f ≡ fold_stores season done before rung store stocks g
fold_same season done before rung store [] [] f g same h = same [] tt
fold_same season done before rung store [] (stock ∷ stocks) f g same h = absurd h
fold_same season done before rung store (most ∷ mosts) [] f g same h = absurd h
fold_same season done before rung store (most ∷ mosts) (stock ∷ stocks) f g same h =
    sum_over-same (demands season) _ _ (λ demand. ap (λ t. pos (weight season store (suc done) rung demand) *ℤ (t +ℤ earn season store before rung stock demand *ℤ pos (season.base ^ length stocks)))
    (fold_same season done before rung (suc store) mosts stocks (λ rest. f (left stock demand ∷ rest)) (λ rest. g (left stock demand ∷ rest)) (λ more within. same (left stock demand ∷ more) (omega (arith, h.0), within)) h.1))

-- ---- a part of the values

pub mid_at : (values : List ℤ) (from width place : ℕ) → place < width → at_place (take (from + width - from) (drop from values)) place ≡ at_place values (from + place)
mid_at values from width place lt = get_or-take (from + width - from) (drop from values) place (pos 0) (omega (arith, lt)) ∙ get_or-drop from values place (pos 0)

pub put_at : (values part more : List ℤ) (from place : ℕ) → from ≤ length values → place < length part → at_place (take from values ++ (part ++ more)) (from + place) ≡ at_place part place
put_at values part more from place inside lt =
    let size : length (take from values) ≡ from = length-take-le from values inside in
    let back : from + place - from ≡ place = omega arith in
    get_or-append_right (take from values) (part ++ more) from (from + place) (pos 0) size (omega arith)
    ∙ (ap (λ k. get_or (part ++ more) k (pos 0)) back ∙ get_or_append_left part more (pos 0) place lt)

pub row_is : (season : Season) (done before rung store width stock : ℕ) (values part more : List ℤ) (rest : List ℕ) → width ≡ lists_of (stocks_from season (store + 1)) → stock * width + width ≤ length values → length part ≡ width →
    AreWithin (stocks_from season (store + 1)) rest →
    at_place part (place_in (stocks_from season (store + 1)) rest) ≡ folded season done before rung (store + 1) (take (stock * width + width - stock * width) (drop (stock * width) values)) rest →
    at_place (take (stock * width) values ++ (part ++ more)) (stock * width + place_in (stocks_from season (store + 1)) rest) ≡ row_folded season done before rung store width values stock rest
row_is season done before rung store width stock values part more rest width_is inside size held is =
    let low : place_in (stocks_from season (store + 1)) rest < length part = subst (λ n. place_in (stocks_from season (store + 1)) rest < n) (sym (size ∙ width_is)) (place_low (stocks_from season (store + 1)) rest held) in
    put_at values part more (stock * width) (place_in (stocks_from season (store + 1)) rest) (omega (arith, inside)) low
    ∙ (is
    ∙ fold_same season done before rung (store + 1) (stocks_from season (store + 1)) rest _ (λ more. at_place values (stock * width + place_in (stocks_from season (store + 1)) more))
    (λ more within. mid_at values (stock * width) width (place_in (stocks_from season (store + 1)) more) (subst (λ n. place_in (stocks_from season (store + 1)) more < n) (sym width_is) (place_low (stocks_from season (store + 1)) more within))) held)

pub mid_length : (width stock : ℕ) (values : List ℤ) → stock * width + width ≤ length values → length (take (stock * width + width - stock * width) (drop (stock * width) values)) ≡ width
mid_length width stock values inside = length-take-le (stock * width + width - stock * width) (drop (stock * width) values) (short inside) ∙ cut
  where
    cut : stock * width + width - stock * width ≡ width
    cut = omega arith

    short : stock * width + width ≤ length values → stock * width + width - stock * width ≤ length (drop (stock * width) values)
    short h = let rest : length (drop (stock * width) values) ≡ length values - stock * width = length-drop (stock * width) values in omega (arith, rest, h)

pub mid_within : (reach width stock : ℕ) (values : List ℤ) → stock * width + width ≤ length values → RowWithin reach width stock values → AllWithin reach (take (stock * width + width - stock * width) (drop (stock * width) values))
mid_within reach width stock values inside all k lt =
    let low : k < width = subst (λ n. k < n) (mid_length width stock values inside) lt in
    subst (IsWithin reach) (sym (mid_at values (stock * width) width k low)) (all k low)

-- ---- one row more

module _ (season : Season) (week : Week) (store width stock rows : ℕ) (before now new : List ℤ) (way : AreFolded season week store width stock before now) (width_is : width ≡ lists_of (stocks_from season (store + 1))) (size : length before ≡ rows * width) (inside : stock < rows) where
  mosts : List ℕ
  mosts = stocks_from season (store + 1)

  fits : stock * width + width ≤ length before
  fits = let most : (stock + 1) * width ≤ rows * width = mul-le-mul (omega (arith, inside)) (omega arith) in let split : (stock + 1) * width ≡ stock * width + width = omega arith in omega (arith, most, split, size)

  pub row_inside : stock * width + width ≤ length now
  row_inside = let same = way.size in let f = fits in omega (arith, same, f)

  pub row_reach : (reach : ℕ) → AllWithin reach before → RowWithin reach width stock now
  row_reach reach all place lt = subst (IsWithin reach) (sym (way.later (stock * width + place) (omega arith))) (all (stock * width + place) (let f = fits in omega (arith, f, lt)))

  pub one_row_more : length new ≡ length now →
      ((rest : List ℕ) → AreWithin (stocks_from season (store + 1)) rest → at_place new (stock * width + place_in (stocks_from season (store + 1)) rest) ≡ row_folded season week.done week.before week.rung store width now stock rest) →
      ((reach : ℕ) → reach ≤ most_reach → RowWithin reach width stock now → RowWithin (reach_after season (store + 1) reach) width stock new) →
      ((k : ℕ) → k < stock * width → at_place new k ≡ at_place now k) → ((k : ℕ) → stock * width + width ≤ k → at_place new k ≡ at_place now k) → AreFolded season week store width (stock + 1) before new
  one_row_more same row within low high = record {
    size = same ∙ way.size;
    each = λ x rest lt held. by_row x rest (nat_lt x stock) refl lt held;
    within = λ reach le all x lt. by_reach reach le all x (nat_lt x stock) refl lt;
    later = λ k le. high k (omega (arith, le, split)) ∙ way.later k (omega (arith, le, split));
  }
    where
      split : (stock + 1) * width ≡ stock * width + width
      split = omega arith

      earlier : (x p : ℕ) → x < stock → p < width → x * width + p < stock * width
      earlier x p lt p_lt =
          let most : (x + 1) * width ≤ stock * width = mul-le-mul (omega (arith, lt)) (omega arith) in
          let more : (x + 1) * width ≡ x * width + width = omega arith in
          omega (arith, most, more, p_lt)

      by_row : (x : ℕ) (rest : List ℕ) (b : Bool) → nat_lt x stock ≡ b → x < stock + 1 → AreWithin (stocks_from season (store + 1)) rest →
          at_place new (x * width + place_in (stocks_from season (store + 1)) rest) ≡ row_folded season week.done week.before week.rung store width before x rest
      by_row x rest true is lt held =
          let x_lt : x < stock = grind (arith, is) in
          low (x * width + place_in (stocks_from season (store + 1)) rest) (earlier x _ x_lt (subst (λ n. place_in (stocks_from season (store + 1)) rest < n) (sym width_is) (place_low _ rest held))) ∙ way.each x rest x_lt held
      by_row x rest false is lt held =
          let here : stock ≡ x = grind (arith, is, lt) in
          subst (λ y. at_place new (y * width + place_in (stocks_from season (store + 1)) rest) ≡ row_folded season week.done week.before week.rung store width before y rest) here
          (row rest held
          ∙ fold_same season week.done week.before week.rung (store + 1) (stocks_from season (store + 1)) rest _ _ (λ more held_more. way.later (stock * width + place_in (stocks_from season (store + 1)) more) (omega arith)) held)

      by_reach : (reach : ℕ) → reach ≤ most_reach → AllWithin reach before → (x : ℕ) (b : Bool) → nat_lt x stock ≡ b → x < stock + 1 → RowWithin (reach_after season (store + 1) reach) width x new
      by_reach reach le all x true is lt =
          let x_lt : x < stock = grind (arith, is) in
          λ p p_lt. subst (IsWithin (reach_after season (store + 1) reach)) (sym (low (x * width + p) (earlier x p x_lt p_lt))) (way.within reach le all x x_lt p p_lt)
      by_reach reach le all x false is lt =
          let here : stock ≡ x = grind (arith, is, lt) in
          subst (λ y. RowWithin (reach_after season (store + 1) reach) width y new) here (within reach le (row_reach reach all))

pub rows_within : (season : Season) (week : Week) (store width stock rows reach : ℕ) (before now : List ℤ) → AreFolded season week store width stock before now → stock ≡ rows → length before ≡ rows * width → reach ≤ most_reach → AllWithin reach before →
    AllWithin (reach_after season (store + 1) reach) now
rows_within season week store width stock rows reach before now way ended size le all k lt =
    let (x, p, x_lt, p_lt, k_is) = split_place rows width k (omega (arith, lt, way.size, size)) in
    rw k_is (way.within reach le all x (omega (arith, x_lt, ended)) p p_lt)

-- ---- the stores of a season

pub rows_divide : (size rows width : ℕ) → size ≡ rows * width → 1 ≤ rows → size / rows ≡ width
rows_divide size rows width is some = ap (λ n. n / rows) is ∙ mul-div_cancel_left width some

pub base_most : (season : Season) (store : ℕ) → IsSeason season → joint_base season ≤ 1000000000000000000 → season.base ^ (length season.stores - store) ≤ 1000000000000000000
base_most season store ok small = le_trans (pow-le-pow_right ok.least_base (omega arith)) small

-- the reach of one store more
pub reach_more : (season : Season) (store reach : ℕ) → store ≤ length season.stores →
    season.base * (reach_after season (store + 1) reach + most_gain * season.base ^ (length season.stores - store)) ≡ reach_after season store reach
reach_more season store reach le =
    let here : length season.stores + 1 - (store + 1) ≡ length season.stores - store = omega (arith, le) in
    let next : length season.stores + 1 - store ≡ suc (length season.stores - store) = omega (arith, le) in
    rw (here, next) (product season.base (length season.stores - store) reach)
  where
    product : (b k r : ℕ) → b * (b ^ k * (r + k * most_gain) + most_gain * b ^ k) ≡ b ^ suc k * (r + suc k * most_gain)
    product b k r = rw (pow-suc b k) (expand b (b ^ k) k r)
      where
        expand : (b p k r : ℕ) → b * (p * (r + k * most_gain) + most_gain * p) ≡ (p * b) * (r + suc k * most_gain)
        expand b p k r = omega arith

pub reach_fits : (season : Season) (store reach : ℕ) → IsSeason season → 1 ≤ store → joint_base season ≤ 1000000000000000000 → reach ≤ most_reach → reach_after season store reach ≤ most_total
reach_fits season store reach ok first small le =
    let stores : length season.stores ≤ 64 = ok.stores.few in
    let base : season.base ^ (length season.stores + 1 - store) ≤ 1000000000000000000 = le_trans (pow-le-pow_right ok.least_base (omega (arith, first))) small in
    let few : length season.stores + 1 - store ≤ 64 = omega (arith, first, stores) in
    let gain : most_gain ≤ most_gain = omega arith in
    let gains : (length season.stores + 1 - store) * most_gain ≤ 64 * most_gain = mul-le-mul few gain in
    let reached : reach + (length season.stores + 1 - store) * most_gain ≤ 71280000000000000000 = omega (arith, le, gains) in
    let all : season.base ^ (length season.stores + 1 - store) * (reach + (length season.stores + 1 - store) * most_gain) ≤ 1000000000000000000 * 71280000000000000000 = mul-le-mul base reached in
    omega (arith, all)

-- the stock of a store and those after it
pub first_folds : (season : Season) (week : Week) (store width scale : ℕ) (before now new : List ℤ) (stocks : List ℕ) → 1 ≤ store → store ≤ length season.stores →
    width ≡ lists_of (stocks_from season (store + 1)) → scale ≡ season.base ^ (length season.stores - store) →
    ((x : ℕ) (rest : List ℕ) → x < (store_at season store).units + 1 → AreWithin (stocks_from season (store + 1)) rest →
    at_place now (x * width + place_in (stocks_from season (store + 1)) rest) ≡ row_folded season week.done week.before week.rung store width before x rest) →
    ((x p : ℕ) → x ≤ (store_at season store).units → p < width → at_place new (x * width + p) ≡ store_sum season week.done week.before week.rung store scale now width x p) →
    AreWithin (stocks_from season store) stocks → at_place new (place_in (stocks_from season store) stocks) ≡ folded season week.done week.before week.rung store before stocks
first_folds season week zero width scale before now new stocks low high width_is scale_is rows sums held = absurd (none low)
  where
    none : 1 ≤ 0 → ⊥
    none p = omega arith
first_folds season week (suc i) width scale before now new stocks low high width_is scale_is rows sums held =
    subst (λ mosts. AreWithin mosts stocks → at_place new (place_in mosts stocks) ≡ fold_stores season week.done week.before week.rung (suc i) stocks (λ rest. at_place before (place_in mosts rest)))
    (sym (stocks_first season i (omega (arith, high)))) (by_stocks stocks) held
  where
    units : ℕ
    units = (store_at season (suc i)).units

    after : List ℕ
    after = stocks_from season (suc i + 1)

    by_stocks : (stocks : List ℕ) → AreWithin ((store_at season (suc i)).units ∷ stocks_from season (suc i + 1)) stocks →
        at_place new (place_in ((store_at season (suc i)).units ∷ stocks_from season (suc i + 1)) stocks)
        ≡ fold_stores season week.done week.before week.rung (suc i) stocks (λ rest. at_place before (place_in ((store_at season (suc i)).units ∷ stocks_from season (suc i + 1)) rest))
    by_stocks [] h = absurd h
    by_stocks (x ∷ rest) h =
        let place : ℕ = place_in (stocks_from season (suc i + 1)) rest in
        let low : place < width = subst (λ n. place < n) (sym width_is) (place_low (stocks_from season (suc i + 1)) rest h.1) in
        let next : suc i + 1 ≡ suc (suc i) = omega arith in
        let scaled : scale ≡ season.base ^ length rest = scale_is ∙ ap (λ n. season.base ^ n) (sym (within_length (stocks_from season (suc i + 1)) rest h.1 ∙ stocks_length season (suc i) (omega arith))) in
        ap (λ w. at_place new (x * w + place)) (sym width_is)
        ∙ (sums x place h.0 low
        ∙ sum_over-same (demands season) _ _ (λ demand. ap₂ (λ value s. pos (weight season (suc i) (suc week.done) week.rung demand) *ℤ (value +ℤ earn season (suc i) week.before week.rung x demand *ℤ pos s))
        (rows (left x demand) rest (omega (arith, h.0)) h.1
        ∙ (ap (λ n. fold_stores season week.done week.before week.rung n rest (λ more. at_place before (left x demand * width + place_in (stocks_from season (suc i + 1)) more))) next
        ∙ ap (λ w. fold_stores season week.done week.before week.rung (suc (suc i)) rest (λ more. at_place before (left x demand * w + place_in (stocks_from season (suc i + 1)) more))) width_is))
        scaled))

pub none_folds : (season : Season) (week : Week) (store : ℕ) (values : List ℤ) (stocks : List ℕ) → length season.stores < store → AreWithin (stocks_from season store) stocks →
    at_place values (place_in (stocks_from season store) stocks) ≡ folded season week.done week.before week.rung store values stocks
none_folds season week store values stocks last held =
    subst (λ mosts. AreWithin mosts stocks → at_place values (place_in mosts stocks) ≡ fold_stores season week.done week.before week.rung store stocks (λ rest. at_place values (place_in mosts rest)))
    (sym (stocks_none season store last)) (by_stocks stocks) held
  where
    by_stocks : (stocks : List ℕ) → AreWithin [] stocks → at_place values 0 ≡ fold_stores season week.done week.before week.rung store stocks (λ rest. at_place values 0)
    by_stocks [] h = refl
    by_stocks (x ∷ rest) h = absurd h

pub none_reach : (season : Season) (store reach : ℕ) → length season.stores < store → store ≤ length season.stores + 1 → reach ≡ reach_after season store reach
none_reach season store reach last le =
    let none : length season.stores + 1 - store ≡ 0 = omega (arith, last) in
    rw (none, pow-zero season.base) (omega arith)

pub size_splits : (season : Season) (store : ℕ) → 1 ≤ store → store ≤ length season.stores → lists_of (stocks_from season store) ≡ ((store_at season store).units + 1) * lists_of (stocks_from season (store + 1))
size_splits season zero low high = absurd (none low)
  where
    none : 1 ≤ 0 → ⊥
    none p = omega arith
size_splits season (suc i) low high =
    ap lists_of (stocks_first season i (omega (arith, high))) ∙ lists_first (store_at season (suc i)).units (stocks_from season (suc i + 1))

pub whole_reach : (season : Season) (reach : ℕ) → reach_after season 1 reach ≡ joint_base season * (reach + length season.stores * most_gain)
whole_reach season reach = let all : length season.stores + 1 - 1 ≡ length season.stores = omega arith in rw all refl
