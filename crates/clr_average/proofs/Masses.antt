-- Sums of weights.
use Rattle.std.proofs.Common.{[], ◌∷◌, sum, length, ap, refl, sym, ◌∙◌, ◌≡◌, ℕ, zero, suc, ◌+◌, ◌-◌, ◌*◌, ◌≤◌, ◌<◌, min, List, get_or, arith, mul-suc, add-mul, mul-le-mul_left, inl, inr}
use Rattle.std.proofs.lemmas.Bool.{cases_lt}
use Rattle.std.proofs.lemmas.List.Sums.{sum_by-cons}
use Rattle.clr_average.specs.Average.{mass, sold_mass}

mass-cons : (weight : ℕ) (weights : List ℕ) (count : ℕ) → mass (weight ∷ weights) (suc count) ≡ weight + mass weights count
mass-cons weight weights zero = omega arith
mass-cons weight weights (suc count) = let rest : mass (weight ∷ weights) (suc count) ≡ weight + mass weights count = mass-cons weight weights count in omega arith

-- all weights together
pub mass_is_sum : (weights : List ℕ) → mass weights (length weights) ≡ sum weights
mass_is_sum [] = refl
mass_is_sum (weight ∷ weights) =
    let size : length (weight ∷ weights) ≡ suc (length weights) = omega arith in
    ap (mass (weight ∷ weights)) size ∙ (mass-cons weight weights (length weights) ∙ (ap (λ t. weight + t) (mass_is_sum weights) ∙ sym (sum_by-cons (λ w. w) weight weights)))

pub mass_more : (weights : List ℕ) (count more : ℕ) → mass weights count ≤ mass weights (count + more)
mass_more weights count zero = let e : count + 0 ≡ count = omega arith in rw e (omega arith)
mass_more weights count (suc more) =
    let e : count + suc more ≡ suc (count + more) = omega arith in
    let rest : mass weights count ≤ mass weights (count + more) = mass_more weights count more in
    rw e (omega arith)

pub mass_le : (weights : List ℕ) (count top : ℕ) → count ≤ top → mass weights count ≤ mass weights top
mass_le weights count top h = let e : count + (top - count) ≡ top = omega arith in let rest : mass weights count ≤ mass weights (count + (top - count)) = mass_more weights count (top - count) in rw e at rest

-- the next weight is within what is left
pub tail_covers : (weights : List ℕ) (tail stock size : ℕ) → stock < size → mass weights size ≡ tail + mass weights (min stock size) → get_or weights stock 0 ≤ tail
tail_covers weights tail stock size lt e =
    let here : min stock size ≡ stock = omega arith in
    let top : mass weights (suc stock) ≤ mass weights size = mass_le weights (suc stock) size (omega arith) in
    let known : mass weights size ≡ tail + mass weights stock = rw here at e in
    omega arith

pub tail_next : (weights : List ℕ) (tail stock size : ℕ) → stock < size → mass weights size ≡ tail + mass weights (min stock size) → mass weights size ≡ (tail - get_or weights stock 0) + mass weights (min (stock + 1) size)
tail_next weights tail stock size lt e =
    let covered : get_or weights stock 0 ≤ tail = tail_covers weights tail stock size lt e in
    let here : min stock size ≡ stock = omega arith in
    let next : min (stock + 1) size ≡ suc stock = omega arith in
    let known : mass weights size ≡ tail + mass weights stock = rw here at e in
    rw next (omega arith)

pub tail_same : (weights : List ℕ) (tail stock size : ℕ) → size ≤ stock → mass weights size ≡ tail + mass weights (min stock size) → mass weights size ≡ tail + mass weights (min (stock + 1) size)
tail_same weights tail stock size le e =
    let here : min stock size ≡ size = omega arith in
    let next : min (stock + 1) size ≡ size = omega arith in
    let known : mass weights size ≡ tail + mass weights size = rw here at e in
    rw next known

-- one unit of stock more sells one to each demand beyond the stock
pub sold_next : (weights : List ℕ) (tail stock size : ℕ) → mass weights size ≡ tail + mass weights (min (stock + 1) size) → sold_mass weights (stock + 1) size ≡ sold_mass weights stock size + tail
sold_next weights tail stock zero e = let none : min (stock + 1) 0 ≡ 0 = omega arith in let known : mass weights 0 ≡ tail + mass weights 0 = rw none at e in omega arith
sold_next weights tail stock (suc size) e = elim (cases_lt stock size) [ (inl lt) ↦ beyond lt (sold_next weights (tail - get_or weights size 0) stock size) | (inr le) ↦ upto le (sold_next weights 0 stock size) ]
  where
    upto : size ≤ stock → (mass weights size ≡ 0 + mass weights (min (stock + 1) size) → sold_mass weights (stock + 1) size ≡ sold_mass weights stock size + 0) → sold_mass weights (stock + 1) (suc size) ≡ sold_mass weights stock (suc size) + tail
    upto le rest =
        let a : min (stock + 1) (suc size) ≡ suc size = omega arith in
        let b : min (stock + 1) size ≡ size = omega arith in
        let c : min stock size ≡ size = omega arith in
        let known : mass weights (suc size) ≡ tail + mass weights (suc size) = rw a at e in
        let whole : mass weights size ≡ 0 + mass weights (min (stock + 1) size) = rw b (omega arith) in
        let before : sold_mass weights (stock + 1) size ≡ sold_mass weights stock size + 0 = rest whole in
        rw (b, c) (omega arith)

    beyond : stock < size → (mass weights size ≡ (tail - get_or weights size 0) + mass weights (min (stock + 1) size) → sold_mass weights (stock + 1) size ≡ sold_mass weights stock size + (tail - get_or weights size 0)) →
        sold_mass weights (stock + 1) (suc size) ≡ sold_mass weights stock (suc size) + tail
    beyond lt rest =
        let a : min (stock + 1) (suc size) ≡ suc stock = omega arith in
        let b : min (stock + 1) size ≡ suc stock = omega arith in
        let c : min stock size ≡ stock = omega arith in
        let known : mass weights (suc size) ≡ tail + mass weights (suc stock) = rw a at e in
        let top : mass weights (suc stock) ≤ mass weights size = mass_le weights (suc stock) size (omega arith) in
        let whole : mass weights size ≡ (tail - get_or weights size 0) + mass weights (min (stock + 1) size) = rw b (omega arith) in
        let before : sold_mass weights (stock + 1) size ≡ sold_mass weights stock size + (tail - get_or weights size 0) = rest whole in
        let product : get_or weights size 0 * suc stock ≡ get_or weights size 0 * stock + get_or weights size 0 = mul-suc (get_or weights size 0) stock in
        rw (b, c) (omega arith)

pub sold_bound : (weights : List ℕ) (stock count : ℕ) → sold_mass weights stock count ≤ mass weights count * stock
sold_bound weights stock zero = omega arith
sold_bound weights stock (suc count) =
    let rest : sold_mass weights stock count ≤ mass weights count * stock = sold_bound weights stock count in
    let here : get_or weights count 0 * min stock count ≤ get_or weights count 0 * stock = mul-le-mul_left (get_or weights count 0) (omega arith) in
    let split : (mass weights count + get_or weights count 0) * stock ≡ mass weights count * stock + get_or weights count 0 * stock = add-mul (mass weights count) (get_or weights count 0) stock in
    omega arith
