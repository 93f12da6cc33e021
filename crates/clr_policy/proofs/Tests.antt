-- The stock of a store at a place, and the values of a test of it.
use Rattle.std.proofs.Common.{◌≡◌, ℕ, zero, suc, ◌+◌, ◌-◌, ◌*◌, ◌/◌, ◌%◌, ◌≤◌, ◌<◌, ℤ, sym, ap, ap₂, ◌∙◌, subst, arith, List, [], ◌∷◌, length, get_or, drop, mul-le-mul, mul_assoc, Bool, true, false}
use Rattle.std.specs.Prelude.{nat_le, if◌then◌else◌}
use Rattle.std.proofs.lemmas.Nat.{div-mul-add, mod-mul-add}
use Rattle.std.proofs.Math.Nat.{add-mul-div_right, mul-add-mod_self_right}
use Rattle.std.proofs.lemmas.List.{length-map}
use Rattle.clr_average.specs.Average.{IsWithin}
use Rattle.clr_season.specs.Season.{Season, store_at}
use Rattle.clr_model.specs.Revenue.{full_stocks, of_store}
use Rattle.clr_model.specs.Stocks.{lists_of, place_in}
use Rattle.clr_policy.specs.Judged.{most_policy_size}
use Rattle.clr_policy.specs.StockLists.{AreWithin, at_place, chosen, stock_at, stocks_from}
use Rattle.clr_policy.proofs.Folds.{lists_first, map-get, place_low, size_splits}

pub some_lists : (mosts : List ℕ) → 1 ≤ lists_of mosts
some_lists [] = omega arith
some_lists (most ∷ mosts) =
    let row : 1 ≤ suc most = omega arith in
    let all : 1 * 1 ≤ suc most * lists_of mosts = mul-le-mul row (some_lists mosts) in
    omega (arith, all)

-- the lists are so many times those of the stores from one on
parts : (mosts : List ℕ) (i : ℕ) → i < length mosts → (c : ℕ) × (lists_of mosts ≡ c * ((get_or mosts i 0 + 1) * lists_of (drop (suc i) mosts)))
parts [] i h = absurd (none h)
  where
    none : i < 0 → ⊥
    none p = omega arith
parts (most ∷ mosts) zero h = (1, omega arith)
parts (most ∷ mosts) (suc i) h = let (c, e) = parts mosts i (omega arith) in ((most + 1) * c, lists_first most mosts ∙ (ap (λ n. (most + 1) * n) e ∙ sym (mul_assoc (most + 1) c _)))

stock_found : (mosts stocks : List ℕ) (i : ℕ) → i < length mosts → AreWithin mosts stocks → stock_at (lists_of (drop (suc i) mosts)) (get_or mosts i 0 + 1) (place_in mosts stocks) ≡ get_or stocks i 0
stock_found [] stocks i h held = absurd (none h)
  where
    none : i < 0 → ⊥
    none p = omega arith
stock_found (most ∷ mosts) [] i h held = absurd held
stock_found (most ∷ mosts) (stock ∷ stocks) zero h held =
    ap (λ n. n % (most + 1)) (div-mul-add stock (lists_of mosts) (place_in mosts stocks) (place_low mosts stocks held.1)) ∙ small stock (most + 1) (omega (arith, held.0))
  where
    small : (a w : ℕ) → a < w → a % w ≡ a
    small a w lt = let none : 0 * w + a ≡ a = omega arith in ap (λ n. n % w) (sym none) ∙ mod-mul-add 0 w a lt
stock_found (most ∷ mosts) (stock ∷ stocks) (suc i) h held =
    let (c, e) = parts mosts i (omega arith) in
    let rows : ℕ = get_or mosts i 0 + 1 in
    let width : ℕ = lists_of (drop (suc i) mosts) in
    ap (λ n. (stock * n + place_in mosts stocks) / width % rows) e
    ∙ (turned stock c rows width (place_in mosts stocks) (some_lists (drop (suc i) mosts))
    ∙ stock_found mosts stocks i (omega arith) held.1)
  where
    turned : (x c r w p : ℕ) → 1 ≤ w → (x * (c * (r * w)) + p) / w % r ≡ p / w % r
    turned x c r w p some =
        let order : x * (c * (r * w)) + p ≡ p + (x * c * r) * w = omega arith in
        let whole : (p + (x * c * r) * w) / w ≡ p / w + x * c * r = add-mul-div_right p (x * c * r) some in
        let back : p / w + x * c * r ≡ (x * c) * r + p / w = omega arith in
        ap (λ n. n / w % r) order ∙ (ap (λ n. n % r) (whole ∙ back) ∙ mul-add-mod_self_right (x * c) r (p / w))

pub stock_of_store : (season : Season) (store : ℕ) (stocks : List ℕ) → 1 ≤ store → store ≤ length season.stores → AreWithin (full_stocks season) stocks →
    stock_at (lists_of (stocks_from season (store + 1))) ((store_at season store).units + 1) (place_in (full_stocks season) stocks) ≡ of_store stocks store
stock_of_store season zero stocks low high held = absurd (none low)
  where
    none : 1 ≤ 0 → ⊥
    none p = omega arith
stock_of_store season (suc i) stocks low high held =
    let after : suc i + 1 - 1 ≡ suc i = omega arith in
    let inside : i < length (full_stocks season) = subst (λ n. i < n) (sym (length-map season.stores (λ s. s.units))) (omega (arith, high)) in
    let units : get_or (full_stocks season) i 0 ≡ (store_at season (suc i)).units = map-get season.stores i (omega (arith, high)) in
    ap₂ (λ n u. stock_at (lists_of (drop n (full_stocks season))) (u + 1) (place_in (full_stocks season) stocks)) after (sym units) ∙ stock_found (full_stocks season) stocks i inside held

pub chosen_is : (season : Season) (store limit width rows : ℕ) (below above new : List ℤ) (stocks : List ℕ) → 1 ≤ store → store ≤ length season.stores → width ≡ lists_of (stocks_from season (store + 1)) → rows ≡ (store_at season store).units + 1 →
    length below ≡ lists_of (full_stocks season) → ((k : ℕ) → k < length below → at_place new k ≡ chosen width rows limit below above k) → AreWithin (full_stocks season) stocks →
    at_place new (place_in (full_stocks season) stocks) ≡ (if nat_le (of_store stocks store) limit then at_place below (place_in (full_stocks season) stocks) else at_place above (place_in (full_stocks season) stocks))
chosen_is season store limit width rows below above new stocks low high width_is rows_is size is held =
    let place : ℕ = place_in (full_stocks season) stocks in
    is place (subst (λ n. place < n) (sym size) (place_low (full_stocks season) stocks held))
    ∙ ap (λ x. if nat_le x limit then at_place below place else at_place above place)
    (ap₂ (λ w r. stock_at w r place) width_is rows_is ∙ stock_of_store season store stocks low high held)

pub chosen_within : (width rows limit reach k : ℕ) (below above : List ℤ) → IsWithin reach (at_place below k) → IsWithin reach (at_place above k) → IsWithin reach (chosen width rows limit below above k)
chosen_within width rows limit reach k below above a b = by_test (nat_le (stock_at width rows k) limit)
  where
    by_test : (t : Bool) → IsWithin reach (if t then at_place below k else at_place above k)
    by_test true = a
    by_test false = b

-- ---- the width of a row

pub fewer_lists : (mosts : List ℕ) (n : ℕ) → lists_of (drop n mosts) ≤ lists_of mosts
fewer_lists mosts zero = omega arith
fewer_lists [] (suc n) = omega arith
fewer_lists (most ∷ mosts) (suc n) =
    let rest = fewer_lists mosts n in
    let row : 1 ≤ suc most = omega arith in
    let whole : lists_of mosts ≤ lists_of mosts = omega arith in
    let all : 1 * lists_of mosts ≤ suc most * lists_of mosts = mul-le-mul row whole in
    omega (arith, rest, all)

-- the lists of the stores from one on are no more than all
pub last_lists_few : (season : Season) (i width stock : ℕ) → i < length season.stores → width ≡ lists_of (stocks_from season (suc i + 1)) → stock ≡ (store_at season (suc i)).units → lists_of (full_stocks season) ≤ most_policy_size →
    width * (stock + 1) ≤ most_policy_size
last_lists_few season i width stock lt width_is stock_is few =
    let here : lists_of (stocks_from season (suc i)) ≡ ((store_at season (suc i)).units + 1) * lists_of (stocks_from season (suc i + 1)) = size_splits season (suc i) (omega arith) (omega (arith, lt)) in
    let all : lists_of (stocks_from season (suc i)) ≤ lists_of (full_stocks season) = fewer_lists (full_stocks season) (suc i - 1) in
    rw (width_is, stock_is) (omega (arith, here, all, few))

pub width_more : (season : Season) (width store stock index : ℕ) → index < length season.stores → stock ≡ (store_at season (suc index)).units → width * lists_of (stocks_from season (index + 1)) ≡ lists_of (stocks_from season (store + 1)) →
    width * (stock + 1) * lists_of (stocks_from season (index + 1 + 1)) ≡ lists_of (stocks_from season (store + 1))
width_more season width store stock index lt stock_is is =
    let one : index + 1 ≡ suc index = omega arith in
    let here : lists_of (stocks_from season (suc index)) ≡ ((store_at season (suc index)).units + 1) * lists_of (stocks_from season (suc index + 1)) = size_splits season (suc index) (omega arith) (omega (arith, lt)) in
    mul_assoc width (stock + 1) (lists_of (stocks_from season (index + 1 + 1)))
    ∙ (ap (λ n. width * n) (ap₂ (λ u k. (u + 1) * lists_of (stocks_from season (k + 1))) stock_is one ∙ (sym here ∙ ap (λ k. lists_of (stocks_from season k)) (sym one)))
    ∙ is)
