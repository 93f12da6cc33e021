-- The chance of an outcome, one store and one week after another.
use Rattle.std.proofs.Common.{◌≡◌, ℕ, zero, suc, ◌+◌, ◌*◌, ◌^◌, ◌<◌, ◌≤◌, ℤ, pos, ◌*ℤ◌, List, [], ◌∷◌, get_or, length, take, drop, sym, ap, ap₂, ◌∙◌, arith, add-one, drop-drop, pow-suc, mul-le-mul, mul-le-mul_right, pow-add}
use Rattle.std.proofs.Math.Nat.{pow-le-pow_right}
use Rattle.std.proofs.Math.Seq.{take-length}
use Rattle.clr_num.specs.Sums.{product_of}
use Rattle.clr_season.specs.Season.{Season}
use Rattle.clr_average.proofs.Ring.{mul_assoc, one_mul, times_one}
use Rattle.clr_model.specs.Expected.{chance, week_chance}
use Rattle.clr_plain.specs.Plain.{weeks_of, flat_chance}

-- ---- powers of the base

pub power_le : (base m n : ℕ) → 1 ≤ base → m ≤ n → base ^ m ≤ base ^ n
power_le base m n some le = pow-le-pow_right {n = base} some le

pub power_more : (base n product weight : ℕ) → product ≤ base ^ n → weight ≤ base → product * weight ≤ base ^ (n + 1)
power_more base n product weight p q = let both : product * weight ≤ base ^ n * base = mul-le-mul p q in rw (add-one n, pow-suc base n) both

pub powers_more : (base n more product weight : ℕ) → product ≤ base ^ (n * more) → weight ≤ base ^ more → product * weight ≤ base ^ ((n + 1) * more)
powers_more base n more product weight p q =
    let both : product * weight ≤ base ^ (n * more) * base ^ more = mul-le-mul p q in
    let next : (n + 1) * more ≡ n * more + more = omega arith in
    rw (next, pow-add base (n * more) more) both

-- ---- one store

product_of-more : (n : ℕ) (f : ℕ → ℤ) → product_of (suc n) f ≡ product_of n f *ℤ f n
product_of-more zero f = times_one (f 0) ∙ sym (one_mul (f 0))
product_of-more (suc n) f = ap (λ t. f 0 *ℤ t) (product_of-more n (λ i. f (suc i))) ∙ sym (mul_assoc (f 0) (product_of n (λ i. f (suc i))) (f (suc n)))

pub factor_more : (n product weight : ℕ) (f : ℕ → ℤ) → pos product ≡ product_of n f → pos weight ≡ f n → pos (product * weight) ≡ product_of (n + 1) f
factor_more n product weight f so_far here = ap₂ ◌*ℤ◌ so_far here ∙ (sym (product_of-more n f) ∙ ap (λ k. product_of k f) (sym (add-one n)))

-- ---- one week

week_more : (season : Season) (done k : ℕ) (path asked : List ℕ) → k < length path →
    chance season done (take (suc k) path) (weeks_of (length season.stores) (suc k) asked)
    ≡ chance season done (take k path) (weeks_of (length season.stores) k asked) *ℤ week_chance season (suc (done + k)) (get_or path k 1) (take (length season.stores) (drop (k * length season.stores) asked))
week_more season done k [] asked lt = absurd (omega arith)
week_more season done zero (rung ∷ path) asked lt =
    let week : done + 0 ≡ done = omega arith in
    let front : 0 * length season.stores ≡ 0 = omega arith in
    times_one (week_chance season (suc done) rung (take (length season.stores) asked))
    ∙ sym (one_mul (week_chance season (suc (done + 0)) rung (take (length season.stores) (drop (0 * length season.stores) asked)))
    ∙ ap₂ (λ t n. week_chance season (suc t) rung (take (length season.stores) (drop n asked))) week front)
week_more season done (suc k) (rung ∷ path) asked lt =
    let stores : ℕ = length season.stores in
    let here : ℤ = week_chance season (suc done) rung (take stores asked) in
    let rest : ℤ = chance season (suc done) (take k path) (weeks_of stores k (drop stores asked)) in
    let week : suc done + k ≡ done + suc k = omega arith in
    let place : stores + k * stores ≡ suc k * stores = omega arith in
    ap (λ t. here *ℤ t) (week_more season (suc done) k path (drop stores asked) (omega arith))
    ∙ (sym (mul_assoc here rest (week_chance season (suc (suc done + k)) (get_or path k 1) (take stores (drop (k * stores) (drop stores asked)))))
    ∙ ap₂ (λ t l. (here *ℤ rest) *ℤ week_chance season (suc t) (get_or path k 1) (take stores l)) week (drop-drop (k * stores) stores asked ∙ ap (λ n. drop n asked) place))

pub chance_next : (season : Season) (k product week rung : ℕ) (path asked : List ℕ) → k < length path → pos product ≡ chance season 0 (take k path) (weeks_of (length season.stores) k asked) →
    rung ≡ get_or path k 1 → pos week ≡ week_chance season (k + 1) rung (take (length season.stores) (drop (k * length season.stores) asked)) →
    pos (product * week) ≡ chance season 0 (take (k + 1) path) (weeks_of (length season.stores) (k + 1) asked)
chance_next season k product week rung path asked lt so_far is here =
    let next : k + 1 ≡ suc (0 + k) = omega arith in
    let more : suc k ≡ k + 1 = omega arith in
    ap₂ ◌*ℤ◌ so_far (here ∙ ap₂ (λ t r. week_chance season t r (take (length season.stores) (drop (k * length season.stores) asked))) next is)
    ∙ (sym (week_more season 0 k path asked lt) ∙ ap (λ n. chance season 0 (take n path) (weeks_of (length season.stores) n asked)) more)

pub chance_whole : (season : Season) (k product : ℕ) (path asked : List ℕ) → k ≡ length path → pos product ≡ chance season 0 (take k path) (weeks_of (length season.stores) k asked) → pos product ≡ flat_chance season path asked
chance_whole season k product path asked all so_far =
    so_far ∙ (ap (λ n. chance season 0 (take n path) (weeks_of (length season.stores) n asked)) all ∙ ap (λ p. chance season 0 p (weeks_of (length season.stores) (length path) asked)) (take-length path))

-- a week's demands lie within the list
pub week_inside : (k weeks stores : ℕ) → k < weeks → k * stores + stores ≤ weeks * stores
week_inside k weeks stores lt =
    let rows : suc k * stores ≤ weeks * stores = mul-le-mul_right stores (omega arith) in
    let next : suc k * stores ≡ k * stores + stores = omega arith in
    omega arith

-- there is a week, so that one week has no more stores than all weeks
pub one_le_all : (k weeks stores : ℕ) → k < weeks → stores ≤ weeks * stores
one_le_all k weeks stores lt = let inside : k * stores + stores ≤ weeks * stores = week_inside k weeks stores lt in omega arith
