-- One row more of a path's values.
use Rattle.std.proofs.Common.{map, ◌≡◌, ℕ, suc, ◌+◌, ◌-◌, ◌*◌, ◌≤◌, ◌<◌, ℤ, pos, ◌+ℤ◌, ◌*ℤ◌, List, ◌++◌, length, get_or, drop, arith, ap, sym, ◌∙◌, subst, drop-cons, length-append, add-mul, mul-le-mul_right, ◌⊎◌, inl, inr, ◌/◌, ◌%◌, div-add-mod', mod-lt}
use Rattle.std.proofs.Math.ListN.{get_or-append}
use Rattle.std.proofs.lemmas.List.{get_or-append-add, get_or-drop}
use Rattle.std.proofs.lemmas.Bool.{cases_lt}
use Rattle.clr_rules.specs.Rules.{rung_at}
use Rattle.clr_season.specs.Season.{Season, demands, weight}
use Rattle.clr_model.specs.Revenue.{cent, earn, left, salvage_cents}
use Rattle.clr_num.specs.Lists.{numbers}
use Rattle.clr_path.proofs.Lists.{length-numbers, get_or-numbers}
use Rattle.std.proofs.Math.Seq.{drop-length}
use Rattle.clr_model.specs.PathValue.{weighed, path_value, path_value_at}
use Rattle.clr_average.proofs.Sums.{sum_over-same}
use Rattle.clr_average.specs.Average.{IsWithin}
use Rattle.clr_path.specs.Flat.{AreRows}

pub weighed_same : (season : Season) (store done before rung stock : ℕ) (f g : ℕ → ℤ) → ((rest : ℕ) → rest ≤ stock → f rest ≡ g rest) → weighed season store done before rung stock f ≡ weighed season store done before rung stock g
weighed_same season store done before rung stock f g h =
    sum_over-same (demands season) (λ d. pos (weight season store (suc done) rung d) *ℤ (earn season store before rung stock d +ℤ f (left stock d))) (λ d. pos (weight season store (suc done) rung d) *ℤ (earn season store before rung stock d +ℤ g (left stock d)))
    (λ d. ap (λ v. pos (weight season store (suc done) rung d) *ℤ (earn season store before rung stock d +ℤ v)) (h (left stock d) (omega arith)))

-- the value after so many weeks, by that after one week more
pub value_step : (div : ℤ → ℕ → ℤ) (season : Season) (store : ℕ) (path : List ℕ) (done rung stock : ℕ) (f : ℕ → ℤ) → done < length path → rung ≡ get_or path done 1 → ((rest : ℕ) → rest ≤ stock → f rest ≡ path_value_at div season store path (suc done) rest) →
    div (weighed season store done (rung_at path done) rung stock f) season.base ≡ path_value_at div season store path done stock
value_step div season store path done rung stock f lt is h =
    ap (λ n. div n season.base) (weighed_same season store done (rung_at path done) rung stock f (λ rest. path_value_at div season store path (suc done) rest) h
    ∙ ap (λ r. weighed season store done (rung_at path done) r stock (λ rest. path_value_at div season store path (suc done) rest)) is)
    ∙ sym (ap (λ l. path_value div season store done (rung_at path done) l stock) (drop-cons path done 1 lt))

pub rows_more : (div : ℤ → ℕ → ℤ) (season : Season) (store : ℕ) (path : List ℕ) (weeks width count done start rung : ℕ) (values row : List ℤ) → AreRows div season store path weeks width (suc count) values → length row ≡ width → suc count + done ≡ weeks → done < length path → start ≡ count * width → rung ≡ get_or path done 1 →
    ((x : ℕ) → x < width → get_or row x (pos 0) ≡ div (weighed season store done (rung_at path done) rung x (λ rest. get_or (drop start values) rest (pos 0))) season.base) →
    AreRows div season store path weeks width (suc count + 1) (values ++ row)
rows_more div season store path weeks width count done start rung values row are size weeks_are lt begins is h = record { size = both; each = each }
  where
    total : length values ≡ suc count * width
    total = are.size

    both : length (values ++ row) ≡ (suc count + 1) * width
    both = length-append values row ∙ (ap (λ n. n + length row) total ∙ (ap (λ n. suc count * width + n) (size ∙ sym (one width)) ∙ sym (add-mul (suc count) 1 width)))
      where
        one : (n : ℕ) → 1 * n ≡ n
        one n = omega arith

    last : (rest : ℕ) → rest < width → get_or (drop start values) rest (pos 0) ≡ path_value_at div season store path (suc done) rest
    last rest short =
        let next : weeks - count ≡ suc done = omega arith in
        get_or-drop start values rest (pos 0) ∙ (ap (λ k. get_or values (k + rest) (pos 0)) begins ∙ (are.each count rest (omega arith) short ∙ ap (λ d. path_value_at div season store path d rest) next))

    fresh : (x : ℕ) → x < width → get_or row x (pos 0) ≡ path_value_at div season store path (weeks - suc count) x
    fresh x short = let now : done ≡ weeks - suc count = omega arith in h x short ∙ (value_step div season store path done rung x (λ rest. get_or (drop start values) rest (pos 0)) lt is (λ rest le. last rest (omega arith)) ∙ ap (λ d. path_value_at div season store path d x) now)

    inside : (r x : ℕ) → r < suc count → x < width → r * width + x < length values
    inside r x below short =
        let p : suc r * width ≤ suc count * width = mul-le-mul_right width (omega arith) in
        let q : suc r * width ≡ r * width + width = suc_mul r width in
        let t : length values ≡ suc count * width = total in
        omega arith
      where
        suc_mul : (r n : ℕ) → suc r * n ≡ r * n + n
        suc_mul r n = let e : (r + 1) * n ≡ r * n + 1 * n = add-mul r 1 n in let f : r + 1 ≡ suc r = omega arith in let g : suc r * n ≡ r * n + 1 * n = rw f at e in omega arith

    each : (r x : ℕ) → r < suc count + 1 → x < width → get_or (values ++ row) (r * width + x) (pos 0) ≡ path_value_at div season store path (weeks - r) x
    each r x below short = elim (cases_lt r (suc count)) [ (inl less) ↦ get_or-append values row (pos 0) (r * width + x) (inside r x less short) ∙ are.each r x less short | (inr more) ↦ here more ]
      where
        here : suc count ≤ r → get_or (values ++ row) (r * width + x) (pos 0) ≡ path_value_at div season store path (weeks - r) x
        here more =
            let same : r ≡ suc count = omega arith in
            ap (λ k. get_or (values ++ row) (k * width + x) (pos 0)) same ∙ (ap (λ k. get_or (values ++ row) (k + x) (pos 0)) (sym total)
            ∙ (get_or-append-add values row x (pos 0) ∙ (fresh x short ∙ ap (λ k. path_value_at div season store path (weeks - k) x) (sym same))))

-- each value of the rows is one of the path's
pub rows_within : (div : ℤ → ℕ → ℤ) (season : Season) (store : ℕ) (path : List ℕ) (weeks width count reach : ℕ) (values : List ℤ) → AreRows div season store path weeks width count values → 1 ≤ width →
    ((done stock : ℕ) → done ≤ weeks → stock < width → IsWithin reach (path_value_at div season store path done stock)) → (j : ℕ) → j < length values → IsWithin reach (get_or values j (pos 0))
rows_within div season store path weeks width count reach values are some h j lt =
    let parts : j / width * width + j % width ≡ j = div-add-mod' j width in
    let short : j % width < width = mod-lt j some in
    subst (λ k. IsWithin reach (get_or values k (pos 0))) parts (rw (are.each (j / width) (j % width) (row_in (cases_lt (j / width) count)) short) (h (weeks - j / width) (j % width) (omega arith) short))
  where
    row_in : (j / width < count) ⊎ (count ≤ j / width) → j / width < count
    row_in (inl less) = less
    row_in (inr more) =
        let scaled : count * width ≤ j / width * width = mul-le-mul_right width more in
        let whole : j / width * width + j % width ≡ j = div-add-mod' j width in
        let size : length values ≡ count * width = are.size in
        absurd (omega arith)

-- the first row, at the end of the season
pub rows_begin : (div : ℤ → ℕ → ℤ) (season : Season) (store : ℕ) (path : List ℕ) (width : ℕ) (values : List ℤ) → values ≡ map (λ stock. pos cent *ℤ salvage_cents season store stock) (numbers 0 width) → AreRows div season store path (length path) width (0 + 1) values
rows_begin div season store path width values is = record { size = size; each = each }
  where
    size : length values ≡ (0 + 1) * width
    size = let one : (0 + 1) * width ≡ width = omega arith in ap length is ∙ (length-numbers (λ stock. pos cent *ℤ salvage_cents season store stock) 0 width ∙ sym one)

    worth : (stock : ℕ) → path_value_at div season store path (length path) stock ≡ pos cent *ℤ salvage_cents season store stock
    worth stock = ap (λ rest. path_value div season store (length path) (rung_at path (length path)) rest stock) (drop-length path)

    each : (row stock : ℕ) → row < 0 + 1 → stock < width → get_or values (row * width + stock) (pos 0) ≡ path_value_at div season store path (length path - row) stock
    each row stock lt short =
        let here : row ≡ 0 = omega arith in
        let place : 0 * width + stock ≡ 0 + stock = omega arith in
        let front : 0 * width + stock ≡ stock = omega arith in
        let zero_plus : 0 + stock ≡ stock = omega arith in
        let whole : length path - 0 ≡ length path = omega arith in
        rw here (rw (front, whole) (ap (λ l. get_or l stock (pos 0)) is ∙ (get_or-numbers (λ k. pos cent *ℤ salvage_cents season store k) 0 width stock (pos 0) short ∙ (ap (λ k. pos cent *ℤ salvage_cents season store k) zero_plus ∙ sym (worth stock)))))
