-- The weights of a made demand file sum to 100 for each store, week and rung.
use Rattle.std.proofs.Common.{◌≡◌, ◌≢◌, ◌<◌, ◌≤◌, ◌+◌, ◌∙◌, ℕ, zero, suc, List, [], ◌∷◌, Bool, true, false, Ok, refl, sym, arith}
use Rattle.std.specs.Prelude.{◌&&◌, ◌==◌, if◌then◌else◌}
use Rattle.std.specs.List.{flat_map, sum_by}
use Rattle.std.proofs.lemmas.Bool.{eq-eqb, eqb-true, ne_eqb}
use Rattle.std.proofs.lemmas.List.Sums.{sum_by-append}
use Rattle.clr_num.specs.Lists.{numbers}
use Rattle.clr_demand.specs.Demand.{Listed, balanced, demand_of, rows_of, total, weights_of}
use Rattle.clr_demand.proofs.BalanceLemmas.{all-balanced}
use Rattle.clr_demand.specs.Weights.{DemandWeights}
use Rattle.clr_make.specs.Made.{made_demand}
use Rattle.clr_make.proofs.DemandReads.{listed-read, store_names}
use Rattle.clr_make.proofs.DemandRows.{made_listed, made_sizes, rung_listed, store_listed, week_listed}

-- ---- a sum over rows that are listed number by number

sum-none : (g : Listed → ℕ) (f : ℕ → List Listed) (xs : List ℕ) → ((n : ℕ) → sum_by g (f n) ≡ 0) → sum_by g (flat_map f xs) ≡ 0
sum-none g f [] none = refl
sum-none g f (n ∷ xs) none =
    let split = sum_by-append g (f n) (flat_map f xs) in
    let here = none n in
    let rest = sum-none g f xs none in
    omega (arith, split, here, rest)

-- where only one number counts
sum-past : (g : Listed → ℕ) (f : ℕ → List Listed) (from count one : ℕ) → ((n : ℕ) → n ≢ one → sum_by g (f n) ≡ 0) → one < from → sum_by g (flat_map f (numbers from count)) ≡ 0
sum-past g f from zero one none past = refl
sum-past g f from (suc count) one none past =
    let split = sum_by-append g (f from) (flat_map f (numbers (suc from) count)) in
    let here = none from (λ e. omega (arith, e)) in
    let rest = sum-past g f (suc from) count one none (omega arith) in
    omega (arith, split, here, rest)

sum-one : (g : Listed → ℕ) (f : ℕ → List Listed) (from count one value : ℕ) → ((n : ℕ) → n ≢ one → sum_by g (f n) ≡ 0) → sum_by g (f one) ≡ value → from ≤ one → one < from + count → sum_by g (flat_map f (numbers from count)) ≡ value
sum-one g f from zero one value none this low high = absurd (omega arith)
sum-one g f from (suc count) one value none this low high =
    let split = sum_by-append g (f from) (flat_map f (numbers (suc from) count)) in
    let cases : (b : Bool) → (from == one) ≡ b → sum_by g (flat_map f (numbers from (suc count))) ≡ value =
    elim [
      | true ↦ λ e.
          let at : from ≡ one = eqb-true from one e in
          let here : sum_by g (f from) ≡ value = rw at this in
          let rest = sum-past g f (suc from) count one none (omega arith) in
          omega (arith, split, here, rest)
      | false ↦ λ e.
          let apart : from ≢ one = λ at. let bad : true ≡ false = sym (eq-eqb from one at) ∙ e in cc bad in
          let here = none from apart in
          let rest = sum-one g f (suc from) count one value none this (omega (arith, apart, low)) (omega arith) in
          omega (arith, split, here, rest)
    ] in
    cases (from == one) refl

-- ---- the totals

-- the weight of a row, where it is of a store, a week and a rung
abbrev weight_if : ℕ → ℕ → ℕ → Listed → ℕ
weight_if store week rung r = if (store == r.store) && ((week == r.week) && (rung == r.rung)) then r.weight else 0

three : (b : Bool) → 0 + (if b then 25 else 0) + (if b then 50 else 0) + (if b then 25 else 0) ≡ (if b then 100 else 0)
three true = refl
three false = refl

rung-sum : (seed store week rung s w r : ℕ) → sum_by (weight_if store week rung) (rung_listed seed s w r) ≡ (if (store == s) && ((week == w) && (rung == r)) then 100 else 0)
unfolding rung_listed
rung-sum seed store week rung s w r = three ((store == s) && ((week == w) && (rung == r)))

not-both : (a b : Bool) → b ≡ false → (a && b) ≡ false
not-both true b e = e
not-both false b e = refl

rung-same : (seed store week rung : ℕ) → sum_by (weight_if store week rung) (rung_listed seed store week rung) ≡ 100
rung-same seed store week rung = rung-sum seed store week rung store week rung ∙ rw (eq-eqb store store refl, eq-eqb week week refl, eq-eqb rung rung refl) refl

rung-other : (seed store week rung s w r : ℕ) → ((store == s) && ((week == w) && (rung == r))) ≡ false → sum_by (weight_if store week rung) (rung_listed seed s w r) ≡ 0
rung-other seed store week rung s w r e = rung-sum seed store week rung s w r ∙ rw e refl

week-same : (seed store week rung : ℕ) → 1 ≤ rung → rung ≤ 6 → sum_by (weight_if store week rung) (week_listed seed store week) ≡ 100
unfolding week_listed
week-same seed store week rung low high =
    sum-one (weight_if store week rung) (rung_listed seed store week) 1 6 rung 100
    (λ n other. rung-other seed store week rung store week n (not-both (store == store) ((week == week) && (rung == n)) (not-both (week == week) (rung == n) (ne_eqb rung n (λ e. other (sym e))))))
    (rung-same seed store week rung) low (omega arith)

week-other : (seed store week rung s w : ℕ) → ((store == s) && (week == w)) ≡ false → sum_by (weight_if store week rung) (week_listed seed s w) ≡ 0
unfolding week_listed
week-other seed store week rung s w e =
    sum-none (weight_if store week rung) (rung_listed seed s w) (numbers 1 6) (λ n. rung-other seed store week rung s w n (go (store == s) (week == w) (rung == n) e))
  where
    go : (a b c : Bool) → (a && b) ≡ false → (a && (b && c)) ≡ false
    go true b c f = rw f refl
    go false b c f = refl

store-same : (seed store week rung : ℕ) → 1 ≤ week → week ≤ 12 → 1 ≤ rung → rung ≤ 6 → sum_by (weight_if store week rung) (store_listed seed store) ≡ 100
unfolding store_listed
store-same seed store week rung a b c d =
    sum-one (weight_if store week rung) (week_listed seed store) 1 12 week 100
    (λ n other. week-other seed store week rung store n (not-both (store == store) (week == n) (ne_eqb week n (λ e. other (sym e)))))
    (week-same seed store week rung c d) a (omega arith)

store-other : (seed store week rung s : ℕ) → (store == s) ≡ false → sum_by (weight_if store week rung) (store_listed seed s) ≡ 0
unfolding store_listed
store-other seed store week rung s e =
    sum-none (weight_if store week rung) (week_listed seed s) (numbers 1 12) (λ n. week-other seed store week rung s n (rw e refl))

pub made-total : (seed store week rung : ℕ) → 1 ≤ store → store ≤ 24 → 1 ≤ week → week ≤ 12 → 1 ≤ rung → rung ≤ 6 → total (made_listed seed) store week rung ≡ 100
unfolding made_listed
made-total seed store week rung a b c d e f =
    sum-one (weight_if store week rung) (store_listed seed) 1 24 store 100
    (λ n other. store-other seed store week rung n (ne_eqb store n (λ at. other (sym at))))
    (store-same seed store week rung c d e f) a (omega arith)

-- ---- the judgement of the totals

made-balanced : (seed : ℕ) → balanced 24 made_sizes false (made_listed seed) ≡ Ok (made_listed seed)
made-balanced seed =
    all-balanced 24 made_sizes false (made_listed seed) (λ at is. rw (made-total seed at.store at.week at.rung is.store_low is.store_high is.week_low is.week_high is.rung_low is.rung_high) refl)

-- ---- the file

unfoldable pub made_weights : ℕ → DemandWeights
made_weights seed = weights_of 24 made_sizes (made_listed seed)

pub demand-read : (seed : ℕ) → demand_of store_names made_sizes false (made_demand seed) ≡ Ok (made_weights seed)
unfolding demand_of rows_of made_weights
demand-read seed = rw (listed-read seed, made-balanced seed) refl
