-- What is paid for relabelling stands outside the average.
use Rattle.std.proofs.Common.{◌≡◌, ℕ, ◌*◌, ◌≤◌, min, ℤ, pos, neg_ℤ, ◌+ℤ◌, ◌-ℤ◌, ◌*ℤ◌, cond, refl, sym, ap, ◌∙◌, arith, suc, zero}
use Rattle.std.proofs.lemmas.Bool.{eq-eqb}
use lib.IntN.{*ℤ_comm}
use Rattle.clr_num.specs.Direction.{IsDirection}
use Rattle.clr_rules.specs.Rules.{price}
use Rattle.clr_season.specs.Season.{Season, IsSeason, IsPlace, demands, weight, store_at}
use Rattle.clr_average.proofs.Ring.{linear, mul_add}
use Rattle.clr_average.proofs.Sums.{sum_over-same, sum_over-add, sum_over-scale_right}
use Rattle.clr_model.specs.PathValue.{weighed}
use Rattle.clr_model.specs.Revenue.{cent, earn, fee, left, week_cents}
use Rattle.clr_model.proofs.Rows.{turn}
use Rattle.clr_model.proofs.Weeks.{store_mass}

pub no_fee : (season : Season) (store rung : ℕ) → fee season store rung rung ≡ 0
no_fee season store rung = ap (λ b. cond b 0 (store_at season store).relabel) (eq-eqb rung rung refl)

-- the earnings less the fee
pub earn_apart : (season : Season) (store before rung stock demand : ℕ) → earn season store before rung stock demand ≡ earn season store rung rung stock demand +ℤ neg_ℤ (pos (cent * fee season store before rung))
unfolding week_cents
earn_apart season store before rung stock demand =
    let sold : ℕ = price season.rules rung * min stock demand in
    let first : pos cent *ℤ (pos sold -ℤ pos (fee season store before rung)) ≡ pos cent *ℤ pos sold +ℤ pos cent *ℤ neg_ℤ (pos (fee season store before rung)) = mul_add (pos cent) (pos sold) (neg_ℤ (pos (fee season store before rung))) in
    let turned : pos cent *ℤ neg_ℤ (pos (fee season store before rung)) ≡ neg_ℤ (pos (cent * fee season store before rung)) = turn cent (fee season store before rung) in
    let free : pos sold -ℤ pos (fee season store rung rung) ≡ pos sold = ap (λ n. pos sold -ℤ pos n) (no_fee season store rung) ∙ nothing (pos sold) in
    first ∙ (ap (λ t. pos cent *ℤ pos sold +ℤ t) turned ∙ ap (λ t. pos cent *ℤ t +ℤ neg_ℤ (pos (cent * fee season store before rung))) (sym free))
  where
    nothing : (z : ℤ) → z -ℤ pos 0 ≡ z
    nothing z = omega (arith, linear)

weighed_apart : (season : Season) (store done before rung stock : ℕ) (value : ℕ → ℤ) → IsSeason season → IsPlace season store (suc done) rung →
    weighed season store done before rung stock value ≡ weighed season store done rung rung stock value +ℤ neg_ℤ (pos (cent * fee season store before rung)) *ℤ pos season.base
weighed_apart season zero done before rung stock value is place = absurd (none place.first_store)
  where
    none : 1 ≤ 0 → ⊥
    none h = omega arith
weighed_apart season (suc i) done before rung stock value is place =
    let lost : ℤ = neg_ℤ (pos (cent * fee season (suc i) before rung)) in
    let w : ℕ → ℤ = λ demand. pos (weight season (suc i) (suc done) rung demand) in
    sum_over-same (demands season) _ (λ demand. w demand *ℤ (earn season (suc i) rung rung stock demand +ℤ value (left stock demand)) +ℤ w demand *ℤ lost)
    (λ demand. ap (λ t. w demand *ℤ (t +ℤ value (left stock demand))) (earn_apart season (suc i) before rung stock demand)
    ∙ (ap (λ t. w demand *ℤ t) (swapped (earn season (suc i) rung rung stock demand) lost (value (left stock demand)))
    ∙ mul_add (w demand) (earn season (suc i) rung rung stock demand +ℤ value (left stock demand)) lost))
    ∙ (sum_over-add (demands season) (λ demand. w demand *ℤ (earn season (suc i) rung rung stock demand +ℤ value (left stock demand))) (λ demand. w demand *ℤ lost)
    ∙ ap (λ t. weighed season (suc i) done rung rung stock value +ℤ t)
    (sum_over-scale_right (demands season) lost w
    ∙ (ap (λ t. t *ℤ lost) (store_mass season (suc done) rung is place.first_week place.last_week place.first_rung place.last_rung i (omega (arith, place.last_store))) ∙ *ℤ_comm (pos season.base) lost)))
  where
    swapped : (a b c : ℤ) → (a +ℤ b) +ℤ c ≡ (a +ℤ c) +ℤ b
    swapped a b c = omega (arith, linear)

pub average_apart : (leans : ℤ → ℤ → Type 0) (div : ℤ → ℕ → ℤ) → IsDirection leans div → (season : Season) (store done before rung stock : ℕ) (value : ℕ → ℤ) (more : ℤ) → IsSeason season → IsPlace season store (suc done) rung →
    div (weighed season store done before rung stock value) season.base +ℤ more ≡ div (weighed season store done rung rung stock value) season.base +ℤ (more -ℤ pos (cent * fee season store before rung))
average_apart leans div laws season store done before rung stock value more is place =
    ap (λ t. div t season.base +ℤ more) (weighed_apart season store done before rung stock value is place)
    ∙ (ap (λ t. t +ℤ more) (laws.shifts (weighed season store done rung rung stock value) (neg_ℤ (pos (cent * fee season store before rung))) season.base is.least_base)
    ∙ moved (div (weighed season store done rung rung stock value) season.base) (cent * fee season store before rung) more)
  where
    moved : (q : ℤ) (lost : ℕ) (more : ℤ) → (q +ℤ neg_ℤ (pos lost)) +ℤ more ≡ q +ℤ (more -ℤ pos lost)
    moved q lost more = omega (arith, linear)
