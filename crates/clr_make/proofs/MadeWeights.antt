-- The weights of a made season: as many as there are demands, with the sum 100.
use Rattle.std.proofs.Common.{◌≡◌, ◌≤◌, ◌+◌, ◌*◌, ◌/◌, ◌∙◌, ℕ, zero, suc, List, [], ◌∷◌, ◌++◌, length, map, refl, ap, arith, max}
use Rattle.std.specs.Prelude.{fold, sum}
use Rattle.std.proofs.lemmas.List.{map-append}
use Rattle.std.proofs.lemmas.List.Sums.{sum_by-append}
use Rattle.clr_num.specs.Lists.{nth, numbers}
use Rattle.clr_demand.specs.Demand.{Listed, key, listed_weight, top_of, total, weight_of}
use Rattle.clr_demand.specs.Places.{AllWithin}
use Rattle.clr_demand.specs.Weights.{weights_at}
use Rattle.clr_demand.proofs.TotalLemmas.{listed-sum, sum_to, sum_to-same}
use Rattle.clr_demand.proofs.WeightLemmas.{length-map-numbers, nth-map-numbers}
use Rattle.clr_make.proofs.DemandRows.{AreInOrder, made-order, made_listed, place, place_of}
use Rattle.clr_make.proofs.DemandTotals.{made-total, made_weights}
use Rattle.clr_make.proofs.LineLemmas.{numbers-more}

-- ---- the greatest demand

within-fold : (low high top : ℕ) (rows : List Listed) → AreInOrder low high rows → top ≤ 200 → fold (λ t (r : Listed). max t r.units) top rows ≤ 200
within-fold low high top [] p le = le
within-fold low high top (l ∷ rows) p le =
    let more : max top l.units ≤ 200 = let few = p.1.units_high in omega arith in
    within-fold (suc (place_of l)) high (max top l.units) rows p.2 more

pub made-top : (seed : ℕ) → top_of (made_listed seed) ≤ 200
made-top seed = within-fold (place 1 0 0 0) (place 25 0 0 0) 0 (made_listed seed) (made-order seed) (omega arith)

fold-above : (top : ℕ) (rows : List Listed) → top ≤ fold (λ t (r : Listed). max t r.units) top rows
fold-above top [] = omega arith
fold-above top (l ∷ rows) = let rest = fold-above (max top l.units) rows in omega (arith, rest)

within-top : (top : ℕ) (rows : List Listed) → AllWithin (fold (λ t (r : Listed). max t r.units) top rows) rows
within-top top [] = tt
within-top top (l ∷ rows) = let above = fold-above (max top l.units) rows in (omega (arith, above), within-top (max top l.units) rows)

-- ---- the weights of a store, a week and a rung

abbrev weight_row : ℕ → ℕ → ℕ → ℕ → List ℕ
weight_row seed store week rung = map (λ units. weight_of 100 (made_listed seed) store week rung units) (numbers 0 (suc (top_of (made_listed seed))))

row-at : (seed store week rung : ℕ) → 1 ≤ store → store ≤ 24 → 1 ≤ week → week ≤ 12 → 1 ≤ rung → rung ≤ 6 → weights_at (made_weights seed) store week rung ≡ weight_row seed store week rung
unfolding made_weights
row-at seed store week rung a b c d e f =
    let by_rung : ℕ → ℕ → List (List ℕ) = λ s w. map (λ r. weight_row seed s w r) (numbers 1 6) in
    let by_week : ℕ → List (List (List ℕ)) = λ s. map (by_rung s) (numbers 1 12) in
    ap (λ t. nth (nth t week []) rung []) (nth-map-numbers by_week 24 store [] a b)
    ∙ (ap (λ t. nth t rung []) (nth-map-numbers (by_rung store) 12 week [] c d) ∙ nth-map-numbers (λ r. weight_row seed store week r) 6 rung [] e f)

pub made-size : (seed store week rung : ℕ) → 1 ≤ store → store ≤ 24 → 1 ≤ week → week ≤ 12 → 1 ≤ rung → rung ≤ 6 → length (weights_at (made_weights seed) store week rung) ≡ suc (top_of (made_listed seed))
made-size seed store week rung a b c d e f = ap length (row-at seed store week rung a b c d e f) ∙ length-map-numbers (weight_of 100 (made_listed seed) store week rung) 0 (suc (top_of (made_listed seed)))

-- ---- their sum

sum-numbers : (f : ℕ → ℕ) (count : ℕ) → sum (map f (numbers 0 count)) ≡ sum_to count f
sum-numbers f zero = refl
sum-numbers f (suc count) =
    let last : 0 + count ≡ count = omega arith in
    let split : sum (map f (numbers 0 (suc count))) ≡ sum (map f (numbers 0 count) ++ f (0 + count) ∷ []) =
    ap (λ ns. sum (map f ns)) (numbers-more 0 count) ∙ ap sum (map-append f (numbers 0 count) ((0 + count) ∷ [])) in
    let more : sum (map f (numbers 0 count) ++ f (0 + count) ∷ []) ≡ sum (map f (numbers 0 count)) + (0 + f (0 + count)) = sum_by-append (λ (n : ℕ). n) (map f (numbers 0 count)) (f (0 + count) ∷ []) in
    let rest = sum-numbers f count in
    split ∙ more ∙ omega (arith, rest, ap f last)

pub made-sum : (seed store week rung : ℕ) → 1 ≤ store → store ≤ 24 → 1 ≤ week → week ≤ 12 → 1 ≤ rung → rung ≤ 6 → sum (weights_at (made_weights seed) store week rung) ≡ 100
made-sum seed store week rung a b c d e f =
    let rows = made_listed seed in
    let top = top_of rows in
    let all : total rows store week rung ≡ 100 = made-total seed store week rung a b c d e f in
    let unit : 100 / total rows store week rung ≡ 1 = rw all refl in
    let plain : (u : ℕ) → weight_of 100 rows store week rung u ≡ listed_weight rows (key store week rung u) = λ u. ap (λ k. listed_weight rows (key store week rung u) * k) unit ∙ omega arith in
    let more : suc top ≡ top + 1 = omega arith in
    ap sum (row-at seed store week rung a b c d e f)
    ∙ (sum-numbers (weight_of 100 rows store week rung) (suc top)
    ∙ (sum_to-same (suc top) (weight_of 100 rows store week rung) (λ u. listed_weight rows (key store week rung u)) (λ u less. plain u)
    ∙ (ap (λ n. sum_to n (λ u. listed_weight rows (key store week rung u))) more ∙ (listed-sum top store week rung rows (within-top 0 rows) ∙ all))))
