-- Rows that are brought to a base.
use Rattle.std.proofs.Common.{◌≡◌, ◌≢◌, ◌<◌, ◌≤◌, ◌+◌, ◌-◌, ◌*◌, ◌/◌, ◌%◌, ◌^◌, ◌∙◌, ℕ, zero, suc, List, [], ◌∷◌, ◌++◌, length, map, take, drop, get_or, refl, ap, ap₂, sym, arith, Bool, true, false}
use Rattle.std.specs.Prelude.{◌==◌, sum}
use Rattle.std.specs.List.{between}
use Rattle.std.proofs.lemmas.Bool.{eqb-true, eq-eqb}
use Rattle.std.proofs.lemmas.List.{length-drop, length-map, length-take-le}
use Rattle.std.proofs.lemmas.Slice.{between-put_mid, between_is, drop-put_mid, take-put_mid_below}
use borrow.Rule.Slice.PartMut.{put_mid}
use Rattle.std.proofs.lemmas.List.Sums.{sum_by-cons}
use Rattle.std.proofs.lemmas.Nat.{mul-le, div-add-mod'}
use Rattle.clr_demand.specs.Weights.{flat_row, scaled_row}

-- a weight is at most the sum of its row
pub part-sum : (xs : List ℕ) (i : ℕ) → i < length xs → get_or xs i 0 ≤ sum xs
part-sum [] i less = absurd (omega arith)
part-sum (x ∷ xs) zero less = omega (arith, sum_by-cons (λ (n : ℕ). n) x xs)
part-sum (x ∷ xs) (suc i) less = let ih = part-sum xs i (omega arith) in omega (arith, sum_by-cons (λ (n : ℕ). n) x xs, ih)

-- what stands at an index of a row that is multiplied up to there
pub get_or-half : (f : ℕ → ℕ) (xs : List ℕ) (i : ℕ) → i < length xs → get_or (map f (take i xs) ++ drop i xs) i 0 ≡ get_or xs i 0
get_or-half f [] i less = absurd (omega arith)
get_or-half f (x ∷ xs) zero less = refl
get_or-half f (x ∷ xs) (suc i) less = get_or-half f xs i (omega arith)

pub part-fits : (f : ℕ → ℕ) (xs ys : List ℕ) (i factor : ℕ) → i < length xs → ys ≡ map f (take i xs) ++ drop i xs → sum xs * factor < 2 ^ 32 → get_or ys i 0 * factor < 2 ^ 32
part-fits f xs ys i factor less is fits =
    let at : get_or ys i 0 ≡ get_or xs i 0 = rw is (get_or-half f xs i less) in
    let most : get_or xs i 0 * factor ≤ sum xs * factor = mul-le (get_or xs i 0) factor (sum xs) factor (part-sum xs i less) (omega arith) in
    rw at (omega (arith, most, fits))

-- the base, less a rest, is at least what a sum is brought to
pub scaled-fits : (base s : ℕ) → base < 2 ^ 32 → s * (base / s) < 2 ^ 32
scaled-fits base s high = omega (arith, div-add-mod' base s, high)

-- a row of noughts
pub scaled-noughts : (k : ℕ) (xs : List ℕ) → sum xs ≡ 0 → map (λ (w : ℕ). w * k) xs ≡ xs
scaled-noughts k [] none = refl
scaled-noughts k (x ∷ xs) none =
    let split = sum_by-cons (λ (n : ℕ). n) x xs in
    let here : x ≡ 0 = omega (arith, split, none) in
    let rest : sum xs ≡ 0 = omega (arith, split, none) in
    let first : x * k ≡ x = rw here (omega arith) in
    ap₂ ◌∷◌ first (scaled-noughts k xs rest)

-- the sum of a row that is multiplied
pub sum-multiplied : (k : ℕ) (xs : List ℕ) → sum (map (λ (w : ℕ). w * k) xs) ≡ sum xs * k
sum-multiplied k [] = omega arith
sum-multiplied k (x ∷ xs) =
    let ih = sum-multiplied k xs in
    let whole = ap (λ t. t * k) (sum_by-cons (λ (n : ℕ). n) x xs) in
    sum_by-cons (λ (n : ℕ). n) (x * k) (map (λ (w : ℕ). w * k) xs) ∙ omega (arith, ih, whole)

-- a row whose sum divides the base is brought to it
pub sum-scaled : (base : ℕ) (row : List ℕ) → base % sum row ≡ 0 → sum (scaled_row base row) ≡ base
sum-scaled base row even = omega (arith, sum-multiplied (base / sum row) row, div-add-mod' base (sum row), even)

-- a row as what lies between two places
flat-between : (width : ℕ) (xs : List ℕ) (r : ℕ) → flat_row width xs r ≡ between (r * width) (r * width + width) xs
flat-between width xs r = let same : width ≡ r * width + width - r * width = omega arith in ap (λ t. take t (drop (r * width) xs)) same

flat-below : (width a k r : ℕ) (xs ys : List ℕ) → r * width + width ≤ a → a ≤ length xs → flat_row width (put_mid a k xs ys) r ≡ flat_row width xs r
flat-below width a k r xs ys below within =
    flat-between width (put_mid a k xs ys) r
    ∙ (between_is (put_mid a k xs ys) (r * width) (r * width + width)
    ∙ (ap (λ t. drop (r * width) t) (take-put_mid_below a k xs ys (r * width + width) below within)
    ∙ (sym (between_is xs (r * width) (r * width + width))
    ∙ sym (flat-between width xs r))))

flat-here : (width k r : ℕ) (xs ys : List ℕ) → r * width ≤ length xs → length ys ≡ width → flat_row width (put_mid (r * width) k xs ys) r ≡ ys
flat-here width k r xs ys within len =
    flat-between width (put_mid (r * width) k xs ys) r ∙ between-put_mid (r * width) k xs ys (r * width + width) within (omega (arith, len))

flat-above : (width a k r : ℕ) (xs ys : List ℕ) → a + k ≤ r * width → a ≤ length xs → length ys ≡ k → flat_row width (put_mid a k xs ys) r ≡ flat_row width xs r
flat-above width a k r xs ys above within len = ap (take width) (drop-put_mid a k xs ys (r * width) above within len)

-- the length of a row that is scaled
length-scaled : (base width n : ℕ) (xs : List ℕ) → (n + 1) * width ≤ length xs → length (scaled_row base (flat_row width xs n)) ≡ width
length-scaled base width n xs fits =
    let row = flat_row width xs n in
    let rest : width ≤ length (drop (n * width) xs) = omega (arith, length-drop (n * width) xs, fits) in
    length-map row (λ (w : ℕ). w * (base / sum row)) ∙ length-take-le width (drop (n * width) xs) rest

-- what holds of the rows where those below one are scaled
pub record Scaled (base width n : ℕ) (old xs : List ℕ) : Type 0 where
  pub done : (row : ℕ) → row < n → (row + 1) * width ≤ length old → flat_row width xs row ≡ scaled_row base (flat_row width old row)
  pub rest : (row : ℕ) → n ≤ row → flat_row width xs row ≡ flat_row width old row

-- one row more
pub scaled-more : (base width n k : ℕ) (old xs ys : List ℕ) → k ≡ width → (n + 1) * width ≤ length xs → Scaled base width n old xs → ys ≡ scaled_row base (flat_row width xs n) →
    Scaled base width (n + 1) old (put_mid (n * width) k xs ys)
scaled-more base width n k old xs ys same fits so_far is =
    let within : n * width ≤ length xs = omega (arith, fits) in
    let len : length ys ≡ width = ap length is ∙ length-scaled base width n xs fits in
    let cases : (row : ℕ) → row < n + 1 → (row + 1) * width ≤ length old → (b : Bool) → (row == n) ≡ b → flat_row width (put_mid (n * width) k xs ys) row ≡ scaled_row base (flat_row width old row) =
    λ row less high. elim [
      | true ↦ λ e.
          let at : row ≡ n = eqb-true row n e in
          rw at (flat-here width k n xs ys within len ∙ (is ∙ ap (scaled_row base) (so_far.rest n (omega arith))))
      | false ↦ λ e.
          let apart : row ≢ n = λ eq. let bad : true ≡ false = sym (eq-eqb row n eq) ∙ e in cc bad in
          let under : row < n = omega (arith, less, apart) in
          let part : (row + 1) * width ≤ n * width = mul-le (row + 1) width n width (omega arith) (omega arith) in
          let below : row * width + width ≤ n * width = omega (arith, part) in
          flat-below width (n * width) k row xs ys below within ∙ so_far.done row under high
    ] in
    record {
      done = λ row less high. cases row less high (row == n) refl;
      rest = λ row past.
          let part : (n + 1) * width ≤ row * width = mul-le (n + 1) width row width (omega arith) (omega arith) in
          let above : n * width + k ≤ row * width = omega (arith, part, same) in
          flat-above width (n * width) k row xs ys above within (len ∙ sym same) ∙ so_far.rest row (omega arith);
    }
