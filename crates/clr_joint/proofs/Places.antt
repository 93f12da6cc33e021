-- The loops over the stores that find the number and the place of lists of stocks.
use Rattle.std.proofs.Common.{◌≡◌, ℕ, zero, suc, ◌+◌, ◌*◌, ◌≤◌, ◌<◌, List, [], ◌∷◌, ◌++◌, drop, take, length, map, get_or, arith, refl, ap, ap₂, sym, ◌∙◌, add-mul, mul_assoc, mul-le-mul_left}
use Rattle.std.proofs.lemmas.List.{drop_more}
use Rattle.clr_stock.specs.Stock.{Store, no_store}
use Rattle.clr_model.specs.Stocks.{lists_of, place_in}

-- ---- the number of lists

pub lists_on : (units : List ℕ) (lists index : ℕ) → index < length units → lists * lists_of (drop index units) ≡ lists_of units → lists * (get_or units index 0 + 1) * lists_of (drop (index + 1) units) ≡ lists_of units
lists_on units lists index lt so_far =
    mul_assoc lists (get_or units index 0 + 1) (lists_of (drop (index + 1) units))
    ∙ (ap (λ n. lists * n) (step (get_or units index 0) (lists_of (drop (index + 1) units)) ∙ sym (ap lists_of (drop_more units index 0 lt))) ∙ so_far)
  where
    step : (u l : ℕ) → (u + 1) * l ≡ suc u * l
    step u l = omega arith

pub factor_most : (a b c : ℕ) → 1 ≤ b → a * b ≡ c → a ≤ c
factor_most a b c some e = let once : a * 1 ≤ a * b = mul-le-mul_left a some in omega (arith, once, e)

-- ---- the place of a list

pub place_on : (units stocks : List ℕ) (place index : ℕ) → index < length units → index < length stocks → place * lists_of (drop index units) + place_in (drop index units) (drop index stocks) ≡ place_in units stocks →
    (place * (get_or units index 0 + 1) + get_or stocks index 0) * lists_of (drop (index + 1) units) + place_in (drop (index + 1) units) (drop (index + 1) stocks) ≡ place_in units stocks
place_on units stocks place index lt also so_far =
    step place (get_or units index 0) (get_or stocks index 0) (lists_of (drop (index + 1) units)) (place_in (drop (index + 1) units) (drop (index + 1) stocks))
    ∙ (ap₂ (λ (us xs : List ℕ). place * lists_of us + place_in us xs) (sym (drop_more units index 0 lt)) (sym (drop_more stocks index 0 also)) ∙ so_far)
  where
    step : (place u x l rest : ℕ) → (place * (u + 1) + x) * l + rest ≡ place * (suc u * l) + (x * l + rest)
    step place u x l rest =
        let a : (place * (u + 1) + x) * l ≡ place * (u + 1) * l + x * l = add-mul (place * (u + 1)) x l in
        let b : place * (u + 1) * l ≡ place * ((u + 1) * l) = mul_assoc place (u + 1) l in
        let c : (u + 1) * l ≡ suc u * l = omega arith in
        let d : place * ((u + 1) * l) ≡ place * (suc u * l) = ap (λ n. place * n) c in
        omega (arith, a, b, d)

-- the place so far is no greater than the whole
pub place_most : (a b c d : ℕ) → 1 ≤ b → a * b + c ≡ d → a ≤ d
place_most a b c d some e = let once : a * 1 ≤ a * b = mul-le-mul_left a some in omega (arith, once, e)

-- ---- the units that the stores open with

pub units_on : (stores : List Store) (units : List ℕ) (index unit : ℕ) → index < length stores → units ≡ take index (map (λ store. store.units) stores) → unit ≡ (get_or stores index no_store).units → units ++ unit ∷ [] ≡ take (index + 1) (map (λ store. store.units) stores)
units_on [] units index unit lt so_far here = absurd (omega arith)
units_on (store ∷ stores) units zero unit lt so_far here =
    let one : 0 + 1 ≡ 1 = omega arith in
    ap₂ (λ (xs : List ℕ) (x : ℕ). xs ++ x ∷ []) so_far here ∙ ap (λ n. take n (store.units ∷ map (λ store. store.units) stores)) (sym one)
units_on (store ∷ stores) units (suc index) unit lt so_far here =
    let next : suc index + 1 ≡ suc (index + 1) = omega arith in
    ap (λ (xs : List ℕ). xs ++ unit ∷ []) so_far
    ∙ (ap (λ (t : List ℕ). store.units ∷ t) (units_on stores (take index (map (λ store. store.units) stores)) index unit (omega arith) refl here)
    ∙ ap (λ n. take n (store.units ∷ map (λ store. store.units) stores)) (sym next))
