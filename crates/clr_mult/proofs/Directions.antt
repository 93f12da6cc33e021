-- Directions sum to zero over the stores, and are at most 10^6 in size.
use Rattle.std.proofs.Common.{◌≡◌, ℕ, ◌+◌, ◌*◌, ◌/◌, ◌%◌, ◌<◌, ◌≤◌, min, pos, ◌-ℤ◌, refl, sym, ap, ap₂, ◌∙◌, subst, arith, suc, Bool, true, false, length, map, get_or, sum, nat_lt, nat_le, if◌then◌else◌, mod-lt}
use Rattle.std.proofs.lemmas.Bool.{leb-true}
use Rattle.std.proofs.lemmas.Int.{ints}
use Rattle.std.proofs.lemmas.Nat.{div-add-mod'}
use Rattle.std.proofs.Math.Nat.{div-le_of_le-mul, lt_of_mul-lt-mul_right}
use Rattle.clr_num.specs.Lists.{numbers}
use Rattle.clr_num.specs.Sums.{sum_of}
use Rattle.clr_mult.specs.Steps.{IsSmall, VanishOverStores, direction, direction_of, usage_total}
use Rattle.clr_mult.specs.Tables.{EachEntry, Table, place, usage_at}
use Rattle.clr_mult.proofs.Lists.{get_or-numbers, length-numbers}
use Rattle.clr_mult.proofs.Sums.{linear, sum_le, sum_of-constant, sum_of-first, sum_of-numbers, sum_of-same, sum_of-sub}

-- the three parts of a direction, summed
parts : (total n mean left_over : ℕ) → mean * n + left_over ≡ total → left_over < n → pos total -ℤ pos (n * mean) -ℤ pos (min n left_over) ≡ pos 0
parts total n mean left_over e p =
    let same : n * mean ≡ mean * n = omega arith in
    let small : min n left_over ≡ left_over = omega arith in
    omega (arith, linear)

vanish : (n : ℕ) (f : ℕ → ℕ) → 1 ≤ n → sum_of n (λ i. direction_of (f (suc i)) (sum (map f (numbers 1 n))) n (suc i)) ≡ pos 0
vanish n f some =
    let total : ℕ = sum (map f (numbers 1 n)) in
    let mean : ℕ = sum (map f (numbers 1 n)) / n in
    let left_over : ℕ = sum (map f (numbers 1 n)) % n in
    let used : sum_of n (λ i. pos (f (suc i))) ≡ pos (sum (map f (numbers 1 n)))
    = sum_of-same n (λ i. pos (f (suc i))) (λ i. pos (f (1 + i))) (λ i p. let e : suc i ≡ 1 + i = omega arith in ap (λ k. pos (f k)) e) ∙ sum_of-numbers n 1 f in
    sum_of-sub n (λ i. pos (f (suc i)) -ℤ pos mean) (λ i. pos (if nat_lt i left_over then 1 else 0))
    ∙ (ap₂ ◌-ℤ◌ (sum_of-sub n (λ i. pos (f (suc i))) (λ i. pos mean) ∙ ap₂ ◌-ℤ◌ used (sum_of-constant n mean)) (sum_of-first n left_over)
    ∙ parts total n mean left_over (div-add-mod' total n) (mod-lt total some))

pub directions_vanish : (usage : Table ℕ) → 1 ≤ usage.stores → VanishOverStores usage (direction usage)
directions_vanish usage some week rung p q r s = vanish usage.stores (λ store. usage_at usage store week rung) some

-- the mean of numbers up to the most is at most that, and less where it was rounded
mean_small : (total n most : ℕ) → 1 ≤ n → total ≤ n * most → (k : ℕ) → 1 ≤ k → total / n + (if nat_le k (total % n) then 1 else 0) ≤ most
mean_small total n most some high k first = cases (nat_le k (total % n)) refl
  where
    whole : total / n * n + total % n ≡ total
    whole = div-add-mod' total n

    cases : (b : Bool) → nat_le k (total % n) ≡ b → total / n + (if b then 1 else 0) ≤ most
    cases true e =
        let rounded : k ≤ total % n = leb-true k (total % n) e in
        let commuted : n * most ≡ most * n = omega arith in
        let less : total / n * n < most * n = omega arith in
        let below : total / n < most = lt_of_mul-lt-mul_right n less in
        omega arith
    cases false e = omega (arith, div-le_of_le-mul n high)

small_parts : (used mean ahead most : ℕ) → used ≤ most → mean + ahead ≤ most → IsSmall most (pos used -ℤ pos mean -ℤ pos ahead)
small_parts used mean ahead most p q = record { low = omega (arith, ints); high = omega (arith, ints) }

pub directions_small : (usage : Table ℕ) → 1 ≤ usage.stores → ((k : ℕ) → get_or usage.entries k 0 ≤ 1000000) → EachEntry usage (λ store week rung. IsSmall 1000000 (direction usage store week rung))
directions_small usage some most store week rung w =
    small_parts (usage_at usage store week rung) (usage_total usage week rung / usage.stores) (if nat_le store (usage_total usage week rung % usage.stores) then 1 else 0) 1000000
    (most (place usage.stores usage.rungs store week rung)) (mean_small (usage_total usage week rung) usage.stores 1000000 some total store w.store_from)
  where
    used : ℕ → ℕ
    used k = usage_at usage k week rung

    count : length (map used (numbers 1 usage.stores)) ≡ usage.stores
    count = length-numbers used 1 usage.stores

    each : (i : ℕ) → i < length (map used (numbers 1 usage.stores)) → get_or (map used (numbers 1 usage.stores)) i 0 ≤ 1000000
    each i p = subst (λ n. n ≤ 1000000) (sym (get_or-numbers used 1 usage.stores i 0 (subst (λ n. i < n) count p))) (most (place usage.stores usage.rungs (1 + i) week rung))

    total : usage_total usage week rung ≤ usage.stores * 1000000
    total = subst (λ n. sum (map used (numbers 1 usage.stores)) ≤ n * 1000000) count (sum_le (map used (numbers 1 usage.stores)) 1000000 each)
