-- The total, one store after another.
use Rattle.std.proofs.Common.{◌≡◌, ℕ, zero, suc, ◌+◌, ◌-◌, ◌*◌, ◌≤◌, ◌<◌, ◌^◌, ℤ, ◌+ℤ◌, List, [], ◌∷◌, length, get_or, refl, ap, ap₂, sym, ◌∙◌, subst, arith, to_z, of_z, SFits, add-one}
use Rattle.std.proofs.lemmas.Int.{to_z-of_z}
use mir.Syntax.{w128}
use Rattle.clr_num.specs.Sums.{sum_of}
use Rattle.clr_average.specs.Average.{IsWithin}
use Rattle.clr_average.proofs.Reading.{within_128}
use Rattle.clr_average.proofs.Sums.{sum_of_more}
use Rattle.clr_average.proofs.Within.{within_more, within_sum}
use Rattle.clr_path.specs.Tables.{IsTable, full_value, row_at}

any_default : {X : Type 0} (xs : List X) (i : ℕ) (a b : X) → i < length xs → get_or xs i a ≡ get_or xs i b
any_default [] i a b lt = absurd (omega arith)
any_default (x ∷ xs) zero a b lt = refl
any_default (x ∷ xs) (suc i) a b lt = any_default xs i a b (omega arith)

-- the store at a place of the table
pub item_is : (items table : List (List (List ℤ))) (i : ℕ) (rows : List (List ℤ)) → items ≡ table → i < length items → rows ≡ get_or items i rows → rows ≡ get_or table i []
item_is items table i rows same lt is = is ∙ (any_default items i rows [] lt ∙ ap (λ l. get_or l i []) same)

some_first : (rows : List (List ℤ)) → 0 < length (get_or rows 0 []) → 0 < length rows
some_first [] lt = absurd (omega arith)
some_first (row ∷ rows) lt = omega arith

pub has_row : (table : List (List (List ℤ))) (i : ℕ) (rows : List (List ℤ)) → IsTable table → i < length table → rows ≡ get_or table i [] → 0 < length rows
has_row table i rows is lt same = rw same (some_first (get_or table i []) (is.starts (suc i) (omega arith) (omega arith)))

pub row_starts : (table : List (List (List ℤ))) (i : ℕ) (rows : List (List ℤ)) (row : List ℤ) → IsTable table → i < length table → rows ≡ get_or table i [] → row ≡ get_or rows 0 [] → 0 < length row
row_starts table i rows row is lt same first = rw (first, same) (is.starts (suc i) (omega arith) (omega arith))

-- one store more
module _ (table : List (List (List ℤ))) (i : ℕ) (rows : List (List ℤ)) (row : List ℤ) (before value : ℤ) (is : IsTable table) (lt : i < length table) (same : rows ≡ get_or table i []) (first : row ≡ get_or rows 0 [])
    (so_far : before ≡ sum_of i (λ k. full_value (row_at table (suc k) 0))) (size : IsWithin (i * 20000000000000000) before) (value_is : value ≡ full_value row) where
  here : value ≡ full_value (row_at table (suc i) 0)
  here = value_is ∙ ap full_value (first ∙ ap (λ r. get_or r 0 []) same)

  small : IsWithin 20000000000000000 value
  small = subst (IsWithin 20000000000000000) (sym here) (is.small (suc i) 0 (length (row_at table (suc i) 0) - 1))

  sized : IsWithin ((i + 1) * 20000000000000000) (before +ℤ value)
  sized = let e : i * 20000000000000000 + 20000000000000000 ≡ (i + 1) * 20000000000000000 = omega arith in subst (λ n. IsWithin n (before +ℤ value)) e (within_sum (i * 20000000000000000) 20000000000000000 before value size small)

  few : (i + 1) * 20000000000000000 ≤ 2 ^ 127 - 1
  few = let most : length table ≤ 64 = is.few in omega arith

  fits : SFits w128 (before +ℤ value)
  fits = within_128 (before +ℤ value) (within_more ((i + 1) * 20000000000000000) (2 ^ 127 - 1) (before +ℤ value) sized few)

  value_fits : SFits w128 value
  value_fits = within_128 value (within_more 20000000000000000 (2 ^ 127 - 1) value small (omega arith))

  pub read_more : to_z w128 (of_z w128 (before +ℤ to_z w128 (of_z w128 value))) ≡ before +ℤ value
  read_more = ap (λ x. to_z w128 (of_z w128 (before +ℤ x))) (to_z-of_z w128 value value_fits) ∙ to_z-of_z w128 (before +ℤ value) fits

  pub sum_next : before +ℤ value ≡ sum_of (i + 1) (λ k. full_value (row_at table (suc k) 0))
  sum_next =
      let f : ℕ → ℤ = λ k. full_value (row_at table (suc k) 0) in
      ap₂ ◌+ℤ◌ so_far here ∙ (sym (sum_of_more i f) ∙ ap (λ n. sum_of n f) (sym (add-one i)))

  pub size_next : IsWithin ((i + 1) * 20000000000000000) (before +ℤ value)
  size_next = sized
