-- The rows of a made demand file: each lists a demand of the season, and no two list the same one.
use Rattle.std.proofs.Common.{◌≡◌, ◌<◌, ◌≤◌, ◌+◌, ◌*◌, ◌∙◌, ℕ, zero, suc, List, [], ◌∷◌, ◌++◌, length, map, refl, ap, arith}
use Rattle.std.specs.List.{flat_map}
use Rattle.clr_num.specs.Lists.{numbers}
use Rattle.clr_demand.specs.Demand.{IsListed, Listed, Sizes}
use Rattle.clr_make.specs.Made.{demand_fields, demand_rows, demand_rows_from, least_demand, rung_rows, store_rows, week_rows}
use Rattle.clr_make.proofs.RangeLemmas.{map-flat}

abbrev pub made_sizes : Sizes
made_sizes = record { weeks = 12; rungs = 6; base = 100 }

-- ---- what the rows list

abbrev pub listed : ℕ → ℕ → ℕ → ℕ → ℕ → Listed
listed store week rung units weight = record { store = store; week = week; rung = rung; units = units; weight = weight }

unfoldable pub rung_listed : ℕ → ℕ → ℕ → ℕ → List Listed
rung_listed seed store week rung =
    let least = least_demand seed store week rung in
    listed store week rung least 25 ∷ listed store week rung (least + 1) 50 ∷ listed store week rung (least + 2) 25 ∷ []

unfoldable pub week_listed : ℕ → ℕ → ℕ → List Listed
week_listed seed store week = flat_map (rung_listed seed store week) (numbers 1 6)

unfoldable pub store_listed : ℕ → ℕ → List Listed
store_listed seed store = flat_map (week_listed seed store) (numbers 1 12)

unfoldable pub made_listed : ℕ → List Listed
made_listed seed = flat_map (store_listed seed) (numbers 1 24)

abbrev pub fields_of : Listed → List (List ℕ)
fields_of l = demand_fields l.store l.week l.rung l.units l.weight

flat-same : {X : Type 0} (f g : ℕ → List X) (xs : List ℕ) → ((n : ℕ) → f n ≡ g n) → flat_map f xs ≡ flat_map g xs
flat-same f g [] same = refl
flat-same f g (n ∷ xs) same = rw (same n) (ap (λ t. g n ++ t) (flat-same f g xs same))

rung-fields : (seed store week rung : ℕ) → map fields_of (rung_listed seed store week rung) ≡ rung_rows seed store week rung
unfolding rung_listed rung_rows demand_rows_from
rung-fields seed store week rung = refl

week-fields : (seed store week : ℕ) → map fields_of (week_listed seed store week) ≡ week_rows seed store week
unfolding week_listed week_rows
week-fields seed store week = map-flat fields_of (rung_listed seed store week) (numbers 1 6) ∙ flat-same _ (rung_rows seed store week) (numbers 1 6) (rung-fields seed store week)

store-fields : (seed store : ℕ) → map fields_of (store_listed seed store) ≡ store_rows seed store
unfolding store_listed store_rows
store-fields seed store = map-flat fields_of (week_listed seed store) (numbers 1 12) ∙ flat-same _ (week_rows seed store) (numbers 1 12) (week-fields seed store)

pub listed-fields : (seed : ℕ) → map fields_of (made_listed seed) ≡ demand_rows seed
unfolding made_listed demand_rows
listed-fields seed = map-flat fields_of (store_listed seed) (numbers 1 24) ∙ flat-same _ (store_rows seed) (numbers 1 24) (store-fields seed)

-- ---- their order: each row has a greater place than the one before

abbrev pub place : ℕ → ℕ → ℕ → ℕ → ℕ
place store week rung units = ((store * 13 + week) * 7 + rung) * 201 + units

abbrev pub place_of : Listed → ℕ
place_of l = place l.store l.week l.rung l.units

-- rows in range and in their order, from one place to below another
abbrev pub AreInOrder : ℕ → ℕ → List Listed → Type 0
AreInOrder low high [] = low ≤ high
AreInOrder low high (l ∷ rows) = (low ≤ place_of l) × IsListed 24 made_sizes l × AreInOrder (suc (place_of l)) high rows

order-lower : (a b c : ℕ) (rows : List Listed) → a ≤ b → AreInOrder b c rows → AreInOrder a c rows
order-lower a b c [] le p = omega (arith, p)
order-lower a b c (l ∷ rows) le p = (omega (arith, p.0), p.1, p.2)

order-append : (a b c : ℕ) (xs ys : List Listed) → AreInOrder a b xs → AreInOrder b c ys → AreInOrder a c (xs ++ ys)
order-append a b c [] ys p q = order-lower a b c ys p q
order-append a b c (l ∷ xs) ys p q = (p.0, p.1, order-append (suc (place_of l)) b c xs ys p.2 q)

order-flat : (bound : ℕ → ℕ) (f : ℕ → List Listed) (from count : ℕ) → ((n : ℕ) → from ≤ n → n < from + count → AreInOrder (bound n) (bound (suc n)) (f n)) → AreInOrder (bound from) (bound (from + count)) (flat_map f (numbers from count))
order-flat bound f from zero h = let e : from + 0 ≡ from = omega arith in rw e (omega arith)
order-flat bound f from (suc count) h =
    let e : from + suc count ≡ suc from + count = omega arith in
    rw e (order-append (bound from) (bound (suc from)) (bound (suc from + count)) (f from) (flat_map f (numbers (suc from) count)) (h from (omega arith) (omega arith)) (order-flat bound f (suc from) count (λ n low high. h n (omega arith) (omega arith))))

rung-order : (seed store week rung : ℕ) → 1 ≤ store → store ≤ 24 → 1 ≤ week → week ≤ 12 → 1 ≤ rung → rung ≤ 6 → AreInOrder (place store week rung 0) (place store week (suc rung) 0) (rung_listed seed store week rung)
unfolding rung_listed
rung-order seed store week rung a b c d e f =
    let least = least_demand seed store week rung in
    let small : least ≤ 4 = omega arith in
    let row : (units weight : ℕ) → units ≤ 200 → weight ≤ 100 → IsListed 24 made_sizes (listed store week rung units weight) =
    λ units weight few light. record { store_low = a; store_high = b; week_low = c; week_high = d; rung_low = e; rung_high = f; units_high = few; weight_high = light } in
    (omega arith, row least 25 (omega arith) (omega arith), (omega arith, row (least + 1) 50 (omega arith) (omega arith), (omega arith, row (least + 2) 25 (omega arith) (omega arith), omega arith)))

week-order : (seed store week : ℕ) → 1 ≤ store → store ≤ 24 → 1 ≤ week → week ≤ 12 → AreInOrder (place store week 0 0) (place store (suc week) 0 0) (week_listed seed store week)
unfolding week_listed
week-order seed store week a b c d =
    let end : place store week 7 0 ≡ place store (suc week) 0 0 = omega arith in
    order-lower (place store week 0 0) (place store week 1 0) (place store (suc week) 0 0) (flat_map (rung_listed seed store week) (numbers 1 6)) (omega arith)
    (rw end at (order-flat (λ rung. place store week rung 0) (rung_listed seed store week) 1 6 (λ rung low high. rung-order seed store week rung a b c d low (omega arith))))

store-order : (seed store : ℕ) → 1 ≤ store → store ≤ 24 → AreInOrder (place store 0 0 0) (place (suc store) 0 0 0) (store_listed seed store)
unfolding store_listed
store-order seed store a b =
    let end : place store 13 0 0 ≡ place (suc store) 0 0 0 = omega arith in
    order-lower (place store 0 0 0) (place store 1 0 0) (place (suc store) 0 0 0) (flat_map (week_listed seed store) (numbers 1 12)) (omega arith)
    (rw end at (order-flat (λ week. place store week 0 0) (week_listed seed store) 1 12 (λ week low high. week-order seed store week a b low (omega arith))))

pub made-order : (seed : ℕ) → AreInOrder (place 1 0 0 0) (place 25 0 0 0) (made_listed seed)
unfolding made_listed
made-order seed = order-flat (λ store. place store 0 0 0) (store_listed seed) 1 24 (λ store low high. store-order seed store low (omega arith))

pub order-length : (low high : ℕ) (rows : List Listed) → AreInOrder low high rows → length rows + low ≤ high
order-length low high [] p = omega (arith, p)
order-length low high (l ∷ rows) p = let rest = order-length (suc (place_of l)) high rows p.2 in omega (arith, rest, p.0)
