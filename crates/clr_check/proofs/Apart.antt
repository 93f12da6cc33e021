-- What is put at one place of the tables leaves what other places have.
use Rattle.std.proofs.Common.{◌≡◌, ℕ, ◌+◌, ◌-◌, ◌*◌, ◌<◌, ◌≤◌, refl, sym, ap, ◌∙◌, subst, arith, suc, zero, List, [], ◌∷◌, length, get_or, ◌⊎◌, inl, inr, ℤ, pos, mul-le-mul}
use Rattle.std.proofs.Common.{◌++◌, map, set, subst₂, take}
use Rattle.std.proofs.Math.Seq.{take-append_seam}
use Rattle.std.proofs.lemmas.List.{get_or-set_other, get_or-set_same, length-set}
use Rattle.clr_average.specs.Average.{IsWithin}
use Rattle.clr_check.specs.Rows.{AreRowsOf, AreSmall, IsPut, IsRowPut, kept_at}
use Rattle.clr_check.specs.Standing.{row_number, row_store}

pub order : (a b : ℕ) → (a < b) ⊎ ((b < a) ⊎ (a ≡ b))
order a b = grind arith

-- ---- rows

pub rows_apart : (store other done later : ℕ) → 1 ≤ store → 1 ≤ other → done ≤ later → later ≤ suc done → (other ≡ store → later ≡ done → ⊥) → (row_number other later < row_number store done) ⊎ (row_number store done < row_number other later)
rows_apart store other done later a b low high apart =
    elim (order other store) [
      | inl l ↦ inl (omega arith)
      | inr m ↦ elim m [
        | inl g ↦ inr (omega arith)
        | inr same ↦ elim (order later (suc done)) [
          | inl l ↦ absurd (apart same (omega arith))
          | inr n ↦ elim n [
            | inl g ↦ absurd (omega arith)
            | inr e ↦ turned same e
          ]
        ]
      ]
    ]
  where
    turned : other ≡ store → later ≡ suc done → (row_number other later < row_number store done) ⊎ (row_number store done < row_number other later)
    turned same e = grind arith

-- the store of a row
pub row_store_is : (store done : ℕ) → 1 ≤ store → row_store (row_number store done) ≡ store
row_store_is store done low = omega arith

pub row_number_less : (store done stores : ℕ) → 1 ≤ store → store ≤ stores → row_number store done < 2 * stores
row_number_less store done stores low high = omega arith

-- ---- numbers that are put

-- numbers of another row stay
pub put_else : (old new : List (List ℤ)) (row from other index : ℕ) (numbers : List ℤ) → IsPut old row from numbers new → (other < row) ⊎ (row < other) → kept_at new other index ≡ kept_at old other index
put_else old new row from other index numbers put apart = ap (λ (r : List ℤ). get_or r index (pos 0)) (put.others other apart)

pub put_before : (old new : List (List ℤ)) (row from index : ℕ) (numbers : List ℤ) → IsPut old row from numbers new → index < from → kept_at new row index ≡ kept_at old row index
put_before old new row from index numbers put low = put.put.before index low

pub put_after : (old new : List (List ℤ)) (row from index : ℕ) (numbers : List ℤ) → IsPut old row from numbers new → from + length numbers ≤ index → kept_at new row index ≡ kept_at old row index
put_after old new row from index numbers put high = put.put.after index high

pub put_there : (old new : List (List ℤ)) (row from k : ℕ) (numbers : List ℤ) → IsPut old row from numbers new → k < length numbers → kept_at new row (from + k) ≡ get_or numbers k (pos 0)
put_there old new row from k numbers put less = put.put.there k less

-- the rows keep their shape
pub put_rows : (count : ℕ) (size : ℕ → ℕ) (most : ℕ) (old new : List (List ℤ)) (row from : ℕ) (numbers : List ℤ) → AreRowsOf count size most old → AreSmall most numbers → IsPut old row from numbers new → AreRowsOf count size most new
put_rows count size most old new row from numbers rows small put = record {
  count = put.count ∙ rows.count;
  sizes = λ other less. elim (order other row) [
    | inl l ↦ ap length (put.others other (inl l)) ∙ rows.sizes other less
    | inr m ↦ elim m [
      | inl g ↦ ap length (put.others other (inr g)) ∙ rows.sizes other less
      | inr e ↦ ap (λ n. length (get_or new n [])) e ∙ (put.put.size ∙ (ap (λ n. length (get_or old n [])) (sym e) ∙ rows.sizes other less))
    ]
  ];
  small = λ other index. elim (order other row) [
    | inl l ↦ subst (IsWithin most) (sym (put_else old new row from other index numbers put (inl l))) (rows.small other index)
    | inr m ↦ elim m [
      | inl g ↦ subst (IsWithin most) (sym (put_else old new row from other index numbers put (inr g))) (rows.small other index)
      | inr e ↦ subst (λ n. IsWithin most (kept_at new n index)) (sym e) (in_row index)
    ]
  ];
}
  where
    in_row : (index : ℕ) → IsWithin most (kept_at new row index)
    in_row index = elim (order index from) [
      | inl l ↦ subst (IsWithin most) (sym (put.put.before index l)) (rows.small row index)
      | inr m ↦ elim (order (index - from) (length numbers)) [
        | inl l ↦ inside l (elim m [ inl g ↦ omega arith | inr e ↦ omega arith ])
        | inr n ↦ subst (IsWithin most) (sym (put.put.after index (elim n [ inl g ↦ elim m [ inl h ↦ omega arith | inr e ↦ omega arith ] | inr f ↦ elim m [ inl h ↦ omega arith | inr e ↦ omega arith ] ]))) (rows.small row index)
      ]
    ]
      where
        inside : index - from < length numbers → from + (index - from) ≡ index → IsWithin most (kept_at new row index)
        inside l e = subst (IsWithin most) (sym (ap (kept_at new row) (sym e) ∙ put.put.there (index - from) l)) (small (index - from) l)

-- ---- segments

-- numbers of another segment of the same width stand before or after
pub segment_before : (place other width k : ℕ) → other < place → k < width → other * width + k < place * width
segment_before place other width k less inside = let p : suc other * width ≤ place * width = mul-le-mul (same less) (omega arith) in omega (arith, p)
  where
    same : other < place → suc other ≤ place
    same h = omega arith

pub segment_after : (place other width k : ℕ) → place < other → place * width + width ≤ other * width + k
segment_after place other width k less = let p : suc place * width ≤ other * width = mul-le-mul (same less) (omega arith) in omega (arith, p)
  where
    same : place < other → suc place ≤ other
    same h = omega arith

-- a number of a segment has one segment and one place in it
pub one_segment : (width a b i j : ℕ) → i < width → j < width → a * width + i ≡ b * width + j → (a ≡ b) × (i ≡ j)
one_segment width a b i j p q e =
    elim (order a b) [
      | inl l ↦ let h : a * width + i < b * width = segment_before b a width i l p in absurd (omega (arith, h, e))
      | inr m ↦ elim m [
        | inl g ↦ let h : b * width + j < a * width = segment_before a b width j g q in absurd (omega (arith, h, e))
        | inr s ↦ (s, less s)
      ]
    ]
  where
    less : a ≡ b → i ≡ j
    less s = let r : a * width ≡ b * width = ap (λ n. n * width) s in omega (arith, r, e)

-- ---- one number more

pub row_put_more : (old : List ℤ) (from index : ℕ) (numbers new : List ℤ) (value : ℤ) → IsRowPut old from numbers index new → from + index < length new → value ≡ get_or numbers index (pos 0) → IsRowPut old from numbers (index + 1) (set new (from + index) value)
row_put_more old from index numbers new value so less is = record {
  size = length-set new (from + index) value ∙ so.size;
  there = λ k low. elim (split k index low) [
    | inl l ↦ get_or-set_other new (from + index) (from + k) value (pos 0) (λ e. absurd (omega (arith, e, l))) ∙ so.there k l
    | inr e ↦ ap (λ n. get_or (set new (from + index) value) (from + n) (pos 0)) e ∙ (get_or-set_same new (from + index) value (pos 0) less ∙ (is ∙ ap (λ n. get_or numbers n (pos 0)) (sym e)))
  ];
  before = λ k low. get_or-set_other new (from + index) k value (pos 0) (λ e. absurd (omega (arith, e, low))) ∙ so.before k low;
  after = λ k high. get_or-set_other new (from + index) k value (pos 0) (λ e. absurd (omega (arith, e, high))) ∙ so.after k (omega (arith, high));
}
  where
    split : (a b : ℕ) → a < b + 1 → (a < b) ⊎ (a ≡ b)
    split a b h = grind arith

pub row_put_none : (old : List ℤ) (from : ℕ) (numbers : List ℤ) → IsRowPut old from numbers 0 old
row_put_none old from numbers = record { size = refl; there = λ k less. absurd (omega arith); before = λ k low. refl; after = λ k high. refl }

-- ---- one row of several

map-set : {X Y : Type 0} (f : X → Y) (xs : List X) (i : ℕ) (x : X) → map f (set xs i x) ≡ set (map f xs) i (f x)
map-set f [] i x = refl
map-set f (y ∷ xs) zero x = refl
map-set f (y ∷ xs) (suc i) x = ap (λ zs. f y ∷ zs) (map-set f xs i x)

pub rows_put : {X : Type 0} (f : X → List ℤ) (xs : List X) (at from : ℕ) (numbers : List ℤ) (x : X) → at < length (map f xs) → IsRowPut (get_or (map f xs) at []) from numbers (length numbers) (f x) → IsPut (map f xs) at from numbers (map f (set xs at x))
rows_put f xs at from numbers x less put =
    subst (IsPut (map f xs) at from numbers) (sym (map-set f xs at x)) (record {
      count = length-set (map f xs) at (f x);
      put = subst (IsRowPut (get_or (map f xs) at []) from numbers (length numbers)) (sym (get_or-set_same (map f xs) at (f x) [] less)) put;
      others = λ other apart. get_or-set_other (map f xs) at other (f x) [] (λ e. elim apart [ inl l ↦ absurd (omega (arith, e, l)) | inr g ↦ absurd (omega (arith, e, g)) ]);
    })

get_or-mapped : {X : Type 0} (f : X → List ℤ) (xs : List X) (at : ℕ) (d : X) → at < length (map f xs) → get_or (map f xs) at [] ≡ f (get_or xs at d)
get_or-mapped f [] at d less = absurd (omega arith)
get_or-mapped f (x ∷ xs) zero d less = refl
get_or-mapped f (x ∷ xs) (suc at) d less = get_or-mapped f xs at d (omega arith)

-- a row that was lent and given back
pub row_lent : {X : Type 0} (f : X → List ℤ) (xs : List X) (at from len : ℕ) (numbers old new rest : List ℤ) (d x : X) → at < length (map f xs) → old ≡ f (get_or xs at d) → IsRowPut old from numbers (length numbers) new → length old ≡ len → f x ≡ take len (new ++ rest) →
    IsPut (map f xs) at from numbers (map f (set xs at x))
row_lent f xs at from len numbers old new rest d x less is put size back =
    let whole : f x ≡ new = back ∙ (ap (λ n. take n (new ++ rest)) (sym (put.size ∙ size)) ∙ take-append_seam new rest) in
    rows_put f xs at from numbers x less (subst₂ (λ a b. IsRowPut a from numbers (length numbers) b) (is ∙ sym (get_or-mapped f xs at d less)) (sym whole) put)
