-- A store's rows, cut out of the flat list.
use Rattle.std.proofs.Common.{◌≡◌, ℕ, suc, ◌+◌, ◌-◌, ◌*◌, ◌≤◌, ◌<◌, ℤ, pos, List, [], length, get_or, map, take, drop, arith, ap, sym, ◌∙◌, mul-le-mul_right, add-mul, length-drop}
use Rattle.std.proofs.lemmas.List.{ext_get_or, get_or-drop, get_or-take, length-take-le}
use Rattle.clr_num.specs.Lists.{numbers}
use Rattle.clr_season.specs.Season.{Season, store_at}
use Rattle.clr_model.specs.PathValue.{path_value_at}
use Rattle.clr_path.specs.Flat.{AreRows, flat_row, flat_rows}
use Rattle.clr_path.specs.Tables.{store_rows}
use Rattle.clr_path.proofs.Lists.{length-numbers, get_or-numbers, numbers_same}

-- a row lies within the list
pub row_inside : (weeks width done : ℕ) (values : List ℤ) → length values ≡ suc weeks * width → (weeks - done) * width + width ≤ length values
row_inside weeks width done values size =
    let rows : suc (weeks - done) * width ≤ suc weeks * width = mul-le-mul_right width (omega arith) in
    let one : (weeks - done + 1) * width ≡ (weeks - done) * width + 1 * width = add-mul (weeks - done) 1 width in
    let count : weeks - done + 1 ≡ suc (weeks - done) = omega arith in
    let split : suc (weeks - done) * width ≡ (weeks - done) * width + 1 * width = ap (λ k. k * width) (sym count) ∙ one in
    omega arith

pub flat_row_is : (div : ℤ → ℕ → ℤ) (season : Season) (store : ℕ) (path : List ℕ) (weeks width done : ℕ) (values : List ℤ) → AreRows div season store path weeks width (suc weeks) values → done ≤ weeks →
    flat_row weeks width values done ≡ map (path_value_at div season store path done) (numbers 0 width)
flat_row_is div season store path weeks width done values are le = ext_get_or (pos 0) (flat_row weeks width values done) (map (path_value_at div season store path done) (numbers 0 width)) (sized ∙ sym (length-numbers (path_value_at div season store path done) 0 width)) (λ i lt. each i (omega (arith, lt, sized)))
  where
    inside : (weeks - done) * width + width ≤ length values
    inside = row_inside weeks width done values are.size

    sized : length (take width (drop ((weeks - done) * width) values)) ≡ width
    sized = let part : length (drop ((weeks - done) * width) values) ≡ length values - (weeks - done) * width = length-drop ((weeks - done) * width) values in length-take-le width (drop ((weeks - done) * width) values) (omega (arith, part, inside))

    each : (i : ℕ) → i < width → get_or (take width (drop ((weeks - done) * width) values)) i (pos 0) ≡ get_or (map (path_value_at div season store path done) (numbers 0 width)) i (pos 0)
    each i lt =
        let back : weeks - (weeks - done) ≡ done = omega arith in
        let zero_plus : 0 + i ≡ i = omega arith in
        get_or-take width (drop ((weeks - done) * width) values) i (pos 0) lt
        ∙ (get_or-drop ((weeks - done) * width) values i (pos 0)
        ∙ (are.each (weeks - done) i (omega arith) lt
        ∙ (ap (λ d. path_value_at div season store path d i) back
        ∙ (ap (path_value_at div season store path done) (sym zero_plus) ∙ sym (get_or-numbers (path_value_at div season store path done) 0 width i (pos 0) lt)))))

pub flat_rows_are : (div : ℤ → ℕ → ℤ) (season : Season) (store : ℕ) (path : List ℕ) (width : ℕ) (values : List ℤ) → AreRows div season store path (length path) width (suc (length path)) values → width ≡ suc (store_at season store).units →
    flat_rows (length path) width values ≡ store_rows div season path store
flat_rows_are div season store path width values are is =
    numbers_same (flat_row (length path) width values) (λ done. map (path_value_at div season store path done) (numbers 0 (suc (store_at season store).units))) 0 (suc (length path))
    (λ done lt. flat_row_is div season store path (length path) width (0 + done) values are (omega arith) ∙ ap (λ n. map (path_value_at div season store path (0 + done)) (numbers 0 n)) is)

-- a row that a store's list of rows has is one of the flat list
pub row_early : (weeks width done : ℕ) (values : List ℤ) (rows : List (List ℤ)) → flat_rows weeks width values ≡ rows → done < length rows → done ≤ weeks
row_early weeks width done values rows is lt =
    let size : length (flat_rows weeks width values) ≡ suc weeks = length-numbers (flat_row weeks width values) 0 (suc weeks) in
    let same : length (flat_rows weeks width values) ≡ length rows = ap length is in
    omega (arith, lt, size, same)

pub row_found : (weeks width done : ℕ) (values : List ℤ) (rows : List (List ℤ)) → flat_rows weeks width values ≡ rows → done < length rows → flat_row weeks width values done ≡ get_or rows done []
row_found weeks width done values rows is lt =
    let none : 0 + done ≡ done = omega arith in
    let early : done ≤ weeks = row_early weeks width done values rows is lt in
    ap (flat_row weeks width values) (sym none) ∙ (sym (get_or-numbers (flat_row weeks width values) 0 (suc weeks) done [] (omega (arith, early))) ∙ ap (λ r. get_or r done []) is)
