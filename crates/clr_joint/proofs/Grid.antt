-- Lists of stocks and their places.
use Rattle.std.proofs.Common.{◌≡◌, ℕ, zero, suc, ◌+◌, ◌-◌, ◌*◌, ◌/◌, ◌%◌, ◌≤◌, ◌<◌, List, [], ◌∷◌, ◌++◌, drop, length, map, get_or, arith, refl, ap, ap₂, sym, ◌∙◌, subst, le_trans, add-one, mul-le-mul_right}
use Rattle.std.specs.Bool.{⊤}
use Rattle.std.specs.List.{flat_map}
use Rattle.std.proofs.lemmas.List.{drop_more}
use Rattle.std.proofs.lemmas.Nat.{div_below, mod_below, div-mul-add, mod-mul-add}
use Rattle.clr_num.specs.Lists.{numbers}
use Rattle.clr_stock.specs.Stock.{Store, no_store}
use Rattle.clr_season.specs.Season.{Season, store_at}
use Rattle.clr_model.specs.Revenue.{full_stocks, left, stocks_left}
use Rattle.clr_joint.specs.Folds.{last_units}
use Rattle.clr_model.specs.Stocks.{all_stocks, lists_of, place_in, stocks_at}
use Rattle.clr_joint.proofs.Limits.{lists_some}

-- one stock for each store, and no more than its units
abbrev pub AreHeld : List ℕ → List ℕ → Type 0
AreHeld [] [] = ⊤
AreHeld [] (stock ∷ stocks) = ⊥
AreHeld (units ∷ more) [] = ⊥
AreHeld (units ∷ more) (stock ∷ stocks) = (stock ≤ units) × AreHeld more stocks

-- ---- places

pub place_back : (units : List ℕ) (place : ℕ) → place < lists_of units → place_in units (stocks_at units place) ≡ place
place_back [] place lt = omega arith
place_back (unit ∷ units) place lt =
    let some : 0 < lists_of units = lists_some units in
    let rest : place_in units (stocks_at units (place % lists_of units)) ≡ place % lists_of units = place_back units (place % lists_of units) (mod_below place (lists_of units) some) in
    omega (arith, rest)

pub held_at : (units : List ℕ) (place : ℕ) → place < lists_of units → AreHeld units (stocks_at units place)
held_at [] place lt = tt
held_at (unit ∷ units) place lt =
    let some : 0 < lists_of units = lists_some units in
    let low : place / lists_of units < suc unit = div_below place (lists_of units) (suc unit) some lt in
    (omega (arith, low), held_at units (place % lists_of units) (mod_below place (lists_of units) some))

pub place_inside : (units stocks : List ℕ) → AreHeld units stocks → place_in units stocks < lists_of units
place_inside [] [] held = omega arith
place_inside [] (stock ∷ stocks) held = absurd held
place_inside (unit ∷ units) [] held = absurd held
place_inside (unit ∷ units) (stock ∷ stocks) held =
    let rest : place_in units stocks < lists_of units = place_inside units stocks held.1 in
    let most : suc stock * lists_of units ≤ suc unit * lists_of units = mul-le-mul_right (lists_of units) (next stock unit held.0) in
    let split : suc stock * lists_of units ≡ stock * lists_of units + lists_of units = omega arith in
    omega (arith, rest, most, split)
  where
    next : (a b : ℕ) → a ≤ b → suc a ≤ suc b
    next a b le = omega arith

pub stocks_back : (units stocks : List ℕ) → AreHeld units stocks → stocks_at units (place_in units stocks) ≡ stocks
stocks_back [] [] held = refl
stocks_back [] (stock ∷ stocks) held = absurd held
stocks_back (unit ∷ units) [] held = absurd held
stocks_back (unit ∷ units) (stock ∷ stocks) held =
    let rest : place_in units stocks < lists_of units = place_inside units stocks held.1 in
    ap₂ (λ x xs. x ∷ xs) (div-mul-add stock (lists_of units) (place_in units stocks) rest)
    (ap (stocks_at units) (mod-mul-add stock (lists_of units) (place_in units stocks) rest) ∙ stocks_back units stocks held.1)

pub length-stocks_at : (units : List ℕ) (place : ℕ) → length (stocks_at units place) ≡ length units
length-stocks_at [] place = refl
length-stocks_at (unit ∷ units) place = ap suc (length-stocks_at units (place % lists_of units))

pub held_left : (units stocks week : List ℕ) → AreHeld units stocks → AreHeld units (stocks_left stocks week)
held_left [] [] week held = tt
held_left [] (stock ∷ stocks) week held = absurd held
held_left (unit ∷ units) [] week held = absurd held
held_left (unit ∷ units) (stock ∷ stocks) [] held = held
held_left (unit ∷ units) (stock ∷ stocks) (demand ∷ week) held = (less stock demand unit held.0, held_left units stocks week held.1)
  where
    less : (a d u : ℕ) → a ≤ u → left a d ≤ u
    less a d u le = omega arith

-- ---- all lists in their order

numbers-append : (from count more : ℕ) → numbers from (count + more) ≡ numbers from count ++ numbers (from + count) more
numbers-append from zero more = let a : 0 + more ≡ more = omega arith in let b : from + 0 ≡ from = omega arith in ap₂ numbers (sym b) a
numbers-append from (suc count) more =
    let a : suc count + more ≡ suc (count + more) = omega arith in
    let b : suc from + count ≡ from + suc count = omega arith in
    ap (numbers from) a ∙ ap (λ t. from ∷ t) (numbers-append (suc from) count more ∙ ap (λ k. numbers (suc from) count ++ numbers k more) b)

map-append_in : {X Y : Type 0} (f : X → Y) (xs ys : List X) → map f (xs ++ ys) ≡ map f xs ++ map f ys
map-append_in f [] ys = refl
map-append_in f (x ∷ xs) ys = ap (λ t. f x ∷ t) (map-append_in f xs ys)

map-numbers : {X : Type 0} (f g : ℕ → X) (a b count : ℕ) → ((i : ℕ) → i < count → f (a + i) ≡ g (b + i)) → map f (numbers a count) ≡ map g (numbers b count)
map-numbers f g a b zero h = refl
map-numbers f g a b (suc count) h =
    let a0 : a + 0 ≡ a = omega arith in
    let b0 : b + 0 ≡ b = omega arith in
    ap₂ (λ x xs. x ∷ xs) (ap f (sym a0) ∙ (h 0 (omega arith) ∙ ap g b0))
    (map-numbers f g (suc a) (suc b) count (λ i lt. let a1 : suc a + i ≡ a + suc i = omega arith in let b1 : suc b + i ≡ b + suc i = omega arith in ap f a1 ∙ (h (suc i) (omega arith) ∙ ap g (sym b1))))

map-map_in : {X Y Z : Type 0} (f : Y → Z) (g : X → Y) (xs : List X) → map f (map g xs) ≡ map (λ x. f (g x)) xs
map-map_in f g [] = refl
map-map_in f g (x ∷ xs) = ap (λ t. f (g x) ∷ t) (map-map_in f g xs)

-- the blocks of a mixed count, one for each stock
blocks : (units : List ℕ) (from count : ℕ) → flat_map (λ stock. map (λ rest. stock ∷ rest) (map (stocks_at units) (numbers 0 (lists_of units)))) (numbers from count)
    ≡ map (λ place. place / lists_of units ∷ stocks_at units (place % lists_of units)) (numbers (from * lists_of units) (count * lists_of units))
blocks units from zero = let none : 0 * lists_of units ≡ 0 = omega arith in ap (λ n. map (λ place. place / lists_of units ∷ stocks_at units (place % lists_of units)) (numbers (from * lists_of units) n)) (sym none)
blocks units from (suc count) =
    let whole : ℕ → List ℕ = λ place. place / lists_of units ∷ stocks_at units (place % lists_of units) in
    let none : from * lists_of units + 0 ≡ from * lists_of units = omega arith in
    let first : map (λ rest. from ∷ rest) (map (stocks_at units) (numbers 0 (lists_of units))) ≡ map (λ place. place / lists_of units ∷ stocks_at units (place % lists_of units)) (numbers (from * lists_of units) (lists_of units))
    = map-map_in (λ rest. from ∷ rest) (stocks_at units) (numbers 0 (lists_of units))
    ∙ map-numbers (λ place. from ∷ stocks_at units place) (λ place. place / lists_of units ∷ stocks_at units (place % lists_of units)) 0 (from * lists_of units) (lists_of units)
    (λ i lt. let zeroed : 0 + i ≡ i = omega arith in
    ap₂ (λ x xs. x ∷ xs) (sym (div-mul-add from (lists_of units) i lt)) (ap (stocks_at units) (zeroed ∙ sym (mod-mul-add from (lists_of units) i lt)))) in
    let next : suc from * lists_of units ≡ from * lists_of units + lists_of units = omega arith in
    let size : suc count * lists_of units ≡ lists_of units + count * lists_of units = omega arith in
    ap₂ (λ (xs ys : List (List ℕ)). xs ++ ys) first (blocks units (suc from) count ∙ ap (λ n. map (λ place. place / lists_of units ∷ stocks_at units (place % lists_of units)) (numbers n (count * lists_of units))) next)
    ∙ (sym (map-append_in whole (numbers (from * lists_of units) (lists_of units)) (numbers (from * lists_of units + lists_of units) (count * lists_of units)))
    ∙ ap (map whole) (sym (numbers-append (from * lists_of units) (lists_of units) (count * lists_of units)) ∙ ap (numbers (from * lists_of units)) (sym size)))

pub all_stocks_are : (units : List ℕ) → all_stocks units ≡ map (stocks_at units) (numbers 0 (lists_of units))
all_stocks_are [] = refl
all_stocks_are (unit ∷ units) =
    let none : 0 * lists_of units ≡ 0 = omega arith in
    ap (λ (lists : List (List ℕ)). flat_map (λ stock. map (λ rest. stock ∷ rest) lists) (numbers 0 (suc unit))) (all_stocks_are units)
    ∙ (blocks units 0 (suc unit) ∙ ap (λ n. map (λ place. place / lists_of units ∷ stocks_at units (place % lists_of units)) (numbers n (suc unit * lists_of units))) none)

-- ---- the last stores

pub units_at : (xs : List Store) (i : ℕ) (d : Store) → i < length xs → get_or (map (λ s. s.units) xs) i 0 ≡ (get_or xs i d).units
units_at [] i d lt = absurd (omega arith)
units_at (x ∷ xs) zero d lt = refl
units_at (x ∷ xs) (suc i) d lt = units_at xs i d (omega arith)

length-units : (xs : List Store) → length (map (λ s. s.units) xs) ≡ length xs
length-units [] = refl
length-units (x ∷ xs) = ap suc (length-units xs)

pub length-full_stocks : (season : Season) → length (full_stocks season) ≡ length season.stores
length-full_stocks season = length-units season.stores

-- one store more from the back
pub last_units_more : (season : Season) (count : ℕ) → count < length season.stores → last_units season (suc count) ≡ (store_at season (length season.stores - count)).units ∷ last_units season count
last_units_more season count lt = at_place (length season.stores - suc count) (length season.stores - count) (omega arith) (omega arith)
  where
    at_place : (i j : ℕ) → j ≡ suc i → i < length season.stores → drop i (full_stocks season) ≡ (store_at season j).units ∷ drop j (full_stocks season)
    at_place i j e inside =
        drop_more (full_stocks season) i 0 (subst (λ n. i < n) (sym (length-full_stocks season)) inside)
        ∙ ap₂ (λ (x : ℕ) (n : ℕ). x ∷ drop n (full_stocks season)) (units_at season.stores i no_store inside ∙ ap (λ n. (store_at season n).units) (sym e)) (next i j e)
      where
        next : (i j : ℕ) → j ≡ suc i → i + 1 ≡ j
        next i j e = omega arith

pub last_units_none : (season : Season) → last_units season 0 ≡ []
last_units_none season = all_dropped (full_stocks season) (length season.stores - 0) (same (length season.stores) (length (full_stocks season)) (length-full_stocks season))
  where
    same : (n k : ℕ) → k ≡ n → k ≤ n - 0
    same n k e = omega arith

    all_dropped : (xs : List ℕ) (n : ℕ) → length xs ≤ n → drop n xs ≡ []
    all_dropped [] zero le = refl
    all_dropped [] (suc n) le = refl
    all_dropped (x ∷ xs) zero le = absurd (omega arith)
    all_dropped (x ∷ xs) (suc n) le = all_dropped xs n (omega arith)

pub last_units_all : (season : Season) → last_units season (length season.stores) ≡ full_stocks season
last_units_all season = let none : length season.stores - length season.stores ≡ 0 = omega arith in ap (λ n. drop n (full_stocks season)) none

-- there are no more lists of the last stores than of all
lists_dropped : (units : List ℕ) (n : ℕ) → lists_of (drop n units) ≤ lists_of units
lists_dropped units zero = omega arith
lists_dropped [] (suc n) = omega arith
lists_dropped (unit ∷ units) (suc n) =
    let rest : lists_of (drop n units) ≤ lists_of units = lists_dropped units n in
    let more : 1 * lists_of units ≤ suc unit * lists_of units = mul-le-mul_right (lists_of units) (omega arith) in
    omega (arith, rest, more)

pub last_lists_most : (season : Season) (count most : ℕ) → lists_of (full_stocks season) ≤ most → lists_of (last_units season count) ≤ most
last_lists_most season count most le = le_trans (lists_dropped (full_stocks season) (length season.stores - count)) le

pub last_lists_more : (season : Season) (count stride stocks : ℕ) → count < length season.stores → stride ≡ lists_of (last_units season count) → stocks ≡ (store_at season (length season.stores - count)).units → stride * (stocks + 1) ≡ lists_of (last_units season (count + 1))
last_lists_more season count stride stocks lt stride_is stocks_are =
    ap₂ (λ s u. s * (u + 1)) stride_is stocks_are
    ∙ (turned (lists_of (last_units season count)) (store_at season (length season.stores - count)).units
    ∙ (sym (ap lists_of (last_units_more season count lt)) ∙ ap (λ n. lists_of (last_units season n)) (sym (add-one count))))
  where
    turned : (a b : ℕ) → a * (b + 1) ≡ suc b * a
    turned a b = omega arith

-- ---- the last list

pub held_self : (units : List ℕ) → AreHeld units units
held_self [] = tt
held_self (unit ∷ units) = (omega arith, held_self units)

place_last : (units : List ℕ) → place_in units units + 1 ≡ lists_of units
place_last [] = omega arith
place_last (unit ∷ units) =
    let rest : place_in units units + 1 ≡ lists_of units = place_last units in
    let split : suc unit * lists_of units ≡ unit * lists_of units + lists_of units = omega arith in
    omega (arith, rest, split)

pub last_list : (units : List ℕ) → stocks_at units (lists_of units - 1) ≡ units
last_list units =
    let place : lists_of units - 1 ≡ place_in units units = omega (arith, place_last units) in
    ap (stocks_at units) place ∙ stocks_back units units (held_self units)
