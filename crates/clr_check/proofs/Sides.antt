-- The numbers of a condition's sides, and that they fit.
use Rattle.std.proofs.Common.{◌≡◌, ℕ, ◌+◌, ◌*◌, ◌<◌, ◌≤◌, ◌^◌, ◌-◌, ℤ, pos, ◌+ℤ◌, ◌*ℤ◌, sym, ap, ap₂, ◌∙◌, subst, arith, suc, List, length, sum, get_or, to_z, of_z, w64, mul-le-mul, mul-le-mul_right}
use Rattle.std.proofs.lemmas.Int.{to_z-of_z}
use mir.Syntax.{w128}
use lib.IntN.{*ℤ_comm}
use Rattle.std.specs.Int.RustNames.{FitsSigned}
use Rattle.clr_num.specs.Lists.{numbers}
use Rattle.clr_num.specs.Sums.{sum_of, sum_over}
use Rattle.clr_cert.specs.Entries.{most_mult}
use Rattle.clr_average.specs.Average.{IsWithin, mass}
use Rattle.clr_average.proofs.Reading.{within_128}
use Rattle.clr_average.proofs.Sums.{sum_of_more, sum_over-numbers_more}
use Rattle.clr_average.proofs.Masses.{mass_is_sum, mass_le}
use Rattle.clr_average.proofs.Within.{within_64, within_more, within_pos, within_product, within_sum}
use Rattle.clr_model.specs.Revenue.{cent}

pub read_128 : (z : ℤ) (most : ℕ) → IsWithin most z → most ≤ 2 ^ 127 - 1 → to_z w128 (of_z w128 z) ≡ z
read_128 z most h le = to_z-of_z w128 z (within_128 z (within_more most (2 ^ 127 - 1) z h le))

pub read_64 : (z : ℤ) (most : ℕ) → IsWithin most z → most < 2 ^ 63 → to_z w64 (of_z w64 z) ≡ z
read_64 z most h le = to_z-of_z w64 z (within_64 z most le h)

-- ---- what a stock is worth

pub worth_fits : (salvage stock : ℕ) → salvage ≤ 10000000 → stock ≤ 2000 → 1000000 * salvage * stock ≤ 20000000000000000
worth_fits salvage stock a b =
    let one : 1000000 * salvage ≤ 10000000000000 = omega arith in
    let p : 1000000 * salvage * stock ≤ 10000000000000 * 2000 = mul-le-mul one b in omega (arith, p)

pub worth_is : (unit salvage stock : ℕ) → unit ≡ 1000000 * salvage → pos (unit * stock) ≡ pos (cent * (salvage * stock))
unfolding cent
worth_is unit salvage stock e = ap (λ u. pos (u * stock)) e ∙ grind arith

-- ---- a sum over demands

pub sum_more : (f : ℕ → ℤ) (count : ℕ) (total value more : ℤ) (weight : ℕ) → total ≡ sum_over (numbers 0 count) f → more ≡ (total +ℤ pos weight *ℤ value) → f count ≡ pos weight *ℤ value → more ≡ sum_over (numbers 0 (count + 1)) f
sum_more f count total value more weight so is here =
    let all : sum_over (numbers 0 (suc count)) f ≡ sum_over (numbers 0 count) f +ℤ f (0 + count) = sum_over-numbers_more 0 count f in
    let at : 0 + count ≡ count = omega arith in
    let next : count + 1 ≡ suc count = omega arith in
    is ∙ (ap₂ ◌+ℤ◌ so (sym here ∙ ap f (sym at)) ∙ (sym all ∙ ap (λ n. sum_over (numbers 0 n) f) (sym next)))

pub part_within : (weight : ℕ) (value : ℤ) → weight ≤ 1000000 → IsWithin 2000000000000000000 value → IsWithin 2000000000000000000000000 (pos weight *ℤ value)
part_within weight value w h =
    within_more (weight * 2000000000000000000) 2000000000000000000000000 (pos weight *ℤ value) (within_product weight 2000000000000000000 value h) (let p : weight * 2000000000000000000 ≤ 1000000 * 2000000000000000000 = mul-le-mul_right 2000000000000000000 w in omega (arith, p))

pub total_within : (count : ℕ) (total part : ℤ) → IsWithin (count * 2000000000000000000000000) total → IsWithin 2000000000000000000000000 part → IsWithin ((count + 1) * 2000000000000000000000000) (total +ℤ part)
total_within count total part t p =
    let e : (count + 1) * 2000000000000000000000000 ≡ count * 2000000000000000000000000 + 2000000000000000000000000 = omega arith in
    subst (λ n. IsWithin n (total +ℤ part)) (sym e) (within_sum (count * 2000000000000000000000000) 2000000000000000000000000 total part t p)

pub few_within : (count : ℕ) (total : ℤ) → count ≤ 201 → IsWithin (count * 2000000000000000000000000) total → IsWithin 1000000000000000000000000000 total
few_within count total few h = within_more (count * 2000000000000000000000000) 1000000000000000000000000000 total h (let p : count * 2000000000000000000000000 ≤ 201 * 2000000000000000000000000 = mul-le-mul_right 2000000000000000000000000 few in omega (arith, p))

pub weight_small : (xs : List ℕ) (i base : ℕ) → i < length xs → sum xs ≡ base → base ≤ 1000000 → get_or xs i 0 ≤ 1000000
weight_small xs i base less e h =
    let p : mass xs (suc i) ≤ mass xs (length xs) = mass_le xs (suc i) (length xs) less in
    let q : mass xs (length xs) ≡ sum xs = mass_is_sum xs in
    small (mass xs i) (get_or xs i 0) (mass xs (length xs)) p (q ∙ e)
  where
    small : (a b c : ℕ) → a + b ≤ c → c ≡ base → b ≤ 1000000
    small a b c p q = omega (arith, h)

-- ---- a value times the base

turned : (a : ℤ) (k : ℕ) → pos k *ℤ a ≡ a *ℤ pos k
turned a k = *ℤ_comm (pos k) a

product_within : (value : ℤ) (base : ℕ) → IsWithin 2000000000000000000 value → base ≤ 1000000 → IsWithin 2000000000000000000000000 (value *ℤ pos base)
product_within value base v b = subst (IsWithin 2000000000000000000000000) (turned value base) (part_within base value b v)

base_read : (raw : ℤ) (base : ℕ) → base ≤ 1000000 → raw ≡ pos base → to_z w128 (of_z w128 raw) ≡ pos base
base_read raw base b e = ap (λ z. to_z w128 (of_z w128 z)) e ∙ read_128 (pos base) 1000000 (within_pos 1000000 base b) (omega arith)

pub scaled_fits : (value raw : ℤ) (base : ℕ) → IsWithin 2000000000000000000 value → base ≤ 1000000 → raw ≡ pos base → FitsSigned w128 (to_z w128 (of_z w128 value) *ℤ to_z w128 (of_z w128 raw))
scaled_fits value raw base v b e =
    rw (read_128 value 2000000000000000000 v (omega arith), base_read raw base b e)
    (within_128 (value *ℤ pos base) (within_more 2000000000000000000000000 (2 ^ 127 - 1) (value *ℤ pos base) (product_within value base v b) (omega arith)))

pub scaled_is : (value raw : ℤ) (base : ℕ) → IsWithin 2000000000000000000 value → base ≤ 1000000 → raw ≡ pos base → to_z w128 (of_z w128 (to_z w128 (of_z w128 value) *ℤ to_z w128 (of_z w128 raw))) ≡ value *ℤ pos base
scaled_is value raw base v b e =
    rw (read_128 value 2000000000000000000 v (omega arith), base_read raw base b e)
    (read_128 (value *ℤ pos base) 2000000000000000000000000 (product_within value base v b) (omega arith))

pub scaled_within : (value raw : ℤ) (base : ℕ) → IsWithin 2000000000000000000 value → base ≤ 1000000 → raw ≡ pos base → IsWithin 2000000000000000000000000 (to_z w128 (of_z w128 (to_z w128 (of_z w128 value) *ℤ to_z w128 (of_z w128 raw))))
scaled_within value raw base v b e = subst (IsWithin 2000000000000000000000000) (sym (scaled_is value raw base v b e)) (product_within value base v b)

-- ---- a sum of multipliers

pub mults_more : (mults : List ℤ) (at : ℕ) (sum : ℤ) → IsWithin most_mult (get_or mults at (pos 0)) → at + 1 ≤ 64 → sum ≡ sum_of at (λ i. get_or mults i (pos 0)) → IsWithin (at * 10000000000000000) sum →
    (to_z w128 (of_z w128 (sum +ℤ to_z w128 (of_z w128 (get_or mults at (pos 0))))) ≡ sum_of (at + 1) (λ i. get_or mults i (pos 0))) × IsWithin ((at + 1) * 10000000000000000) (to_z w128 (of_z w128 (sum +ℤ to_z w128 (of_z w128 (get_or mults at (pos 0))))))
mults_more mults at sum small few so size =
    let one : to_z w128 (of_z w128 (get_or mults at (pos 0))) ≡ get_or mults at (pos 0) = read_128 (get_or mults at (pos 0)) most_mult small (omega arith) in
    let wide : (at + 1) * 10000000000000000 ≡ at * 10000000000000000 + 10000000000000000 = omega arith in
    let both : IsWithin ((at + 1) * 10000000000000000) (sum +ℤ get_or mults at (pos 0)) = subst (λ n. IsWithin n (sum +ℤ get_or mults at (pos 0))) (sym wide) (within_sum (at * 10000000000000000) 10000000000000000 sum (get_or mults at (pos 0)) size small) in
    let limit : (at + 1) * 10000000000000000 ≤ 64 * 10000000000000000 = mul-le-mul_right 10000000000000000 few in
    let all : to_z w128 (of_z w128 (sum +ℤ to_z w128 (of_z w128 (get_or mults at (pos 0))))) ≡ (sum +ℤ get_or mults at (pos 0)) = ap (λ v. to_z w128 (of_z w128 (sum +ℤ v))) one ∙ read_128 (sum +ℤ get_or mults at (pos 0)) ((at + 1) * 10000000000000000) both (omega (arith, limit)) in
    let next : at + 1 ≡ suc at = omega arith in (
      all ∙ (ap (λ v. v +ℤ get_or mults at (pos 0)) so ∙ (sym (sum_of_more at (λ i. get_or mults i (pos 0))) ∙ ap (λ n. sum_of n (λ i. get_or mults i (pos 0))) (sym next))),
      subst (IsWithin ((at + 1) * 10000000000000000)) (sym all) both,
    )

-- ---- small numbers

pub small_read : (raw : ℤ) (n : ℕ) → n ≤ 1000 → raw ≡ pos n → to_z w128 (of_z w128 raw) ≡ pos n
small_read raw n small e = ap (λ z. to_z w128 (of_z w128 z)) e ∙ read_128 (pos n) 1000 (within_pos 1000 n small) (omega arith)
