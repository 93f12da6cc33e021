-- What all stores pay for relabelling stands outside the average.
use Rattle.std.proofs.Common.{◌≡◌, ℕ, sym, min, ◌-ℤ◌, zero, suc, ◌*◌, ◌≤◌, ◌<◌, ℤ, pos, neg_ℤ, ◌+ℤ◌, ◌*ℤ◌, List, get_or, length, refl, ap, ◌∙◌, arith}
use lib.IntN.{*ℤ_comm}
use Rattle.clr_num.specs.Direction.{IsDirection}
use Rattle.clr_num.specs.Sums.{sum_of}
use Rattle.clr_rules.specs.Rules.{price}
use Rattle.clr_season.specs.Season.{Season, IsSeason}
use Rattle.clr_average.proofs.Ring.{linear, mul_add}
use Rattle.clr_average.proofs.Sums.{sum_over-same, sum_over-add, sum_over-scale_right}
use Rattle.clr_model.specs.Expected.{week_chance}
use Rattle.clr_model.specs.JointWeek.{joint_base, joint_weighed}
use Rattle.clr_model.specs.Policies.{joint_demands}
use Rattle.clr_model.specs.Revenue.{cent, earn, fee, of_store, stocks_left, sum_stores, week_cents}
use Rattle.clr_model.proofs.Rows.{turn}
use Rattle.clr_model.proofs.Sums.{sum_of-add, sum_of-same}
use Rattle.clr_model.proofs.Weeks.{week_mass}
use Rattle.clr_joint.specs.BySummary.{costs}
use Rattle.clr_joint.proofs.Folds.{no_fee}

-- what a store earns, less what it pays
earn_apart : (season : Season) (store before rung stock demand : ℕ) → earn season store before rung stock demand ≡ earn season store rung rung stock demand +ℤ neg_ℤ (pos (cent * fee season store before rung))
unfolding week_cents
earn_apart season store before rung stock demand =
    let sold : ℕ = price season.rules rung * min stock demand in
    let first : pos cent *ℤ (pos sold -ℤ pos (fee season store before rung)) ≡ pos cent *ℤ pos sold +ℤ pos cent *ℤ neg_ℤ (pos (fee season store before rung)) = mul_add (pos cent) (pos sold) (neg_ℤ (pos (fee season store before rung))) in
    let turned : pos cent *ℤ neg_ℤ (pos (fee season store before rung)) ≡ neg_ℤ (pos (cent * fee season store before rung)) = turn cent (fee season store before rung) in
    let free : pos sold -ℤ pos (fee season store rung rung) ≡ pos sold = ap (λ n. pos sold -ℤ pos n) (no_fee season store rung) ∙ nothing (pos sold) in
    first ∙ (ap (λ t. pos cent *ℤ pos sold +ℤ t) turned ∙ ap (λ t. pos cent *ℤ t +ℤ neg_ℤ (pos (cent * fee season store before rung))) (sym free))
  where
    nothing : (z : ℤ) → z -ℤ pos 0 ≡ z
    nothing z = omega (arith, linear)

sum_of-neg : (n : ℕ) (f : ℕ → ℤ) → sum_of n (λ i. neg_ℤ (f i)) ≡ neg_ℤ (sum_of n f)
sum_of-neg zero f = refl
sum_of-neg (suc n) f =
    let rest : sum_of n (λ i. neg_ℤ (f (suc i))) ≡ neg_ℤ (sum_of n (λ i. f (suc i))) = sum_of-neg n (λ i. f (suc i)) in
    omega (arith, linear)

-- what the stores earn in a week, less what they pay
earned_apart : (season : Season) (before rung : ℕ) (stocks week : List ℕ) →
    sum_stores season (λ store. earn season store before rung (of_store stocks store) (of_store week store)) ≡ sum_stores season (λ store. earn season store rung rung (of_store stocks store) (of_store week store)) +ℤ neg_ℤ (costs season before rung)
earned_apart season before rung stocks week =
    sum_of-same (length season.stores) (λ i. earn season (suc i) before rung (get_or stocks i 0) (get_or week i 0)) (λ i. earn season (suc i) rung rung (get_or stocks i 0) (get_or week i 0) +ℤ neg_ℤ (pos (cent * fee season (suc i) before rung)))
    (λ i lt. earn_apart season (suc i) before rung (get_or stocks i 0) (get_or week i 0))
    ∙ (sum_of-add (length season.stores) (λ i. earn season (suc i) rung rung (get_or stocks i 0) (get_or week i 0)) (λ i. neg_ℤ (pos (cent * fee season (suc i) before rung)))
    ∙ ap (λ t. sum_stores season (λ store. earn season store rung rung (of_store stocks store) (of_store week store)) +ℤ t) (sum_of-neg (length season.stores) (λ i. pos (cent * fee season (suc i) before rung))))

weighed_apart : (season : Season) (done before rung : ℕ) (stocks : List ℕ) (value : List ℕ → ℤ) → IsSeason season → done < season.rules.weeks → 1 ≤ rung → rung ≤ length season.rules.prices →
    joint_weighed season done before rung stocks (λ week rest. value rest) ≡ joint_weighed season done rung rung stocks (λ week rest. value rest) +ℤ neg_ℤ (costs season before rung) *ℤ pos (joint_base season)
weighed_apart season done before rung stocks value is early low high =
    let lost : ℤ = neg_ℤ (costs season before rung) in
    let chance : List ℕ → ℤ = week_chance season (suc done) rung in
    let earned : List ℕ → ℤ = λ week. sum_stores season (λ store. earn season store rung rung (of_store stocks store) (of_store week store)) in
    sum_over-same (joint_demands season) _ (λ week. chance week *ℤ (earned week +ℤ value (stocks_left stocks week)) +ℤ chance week *ℤ lost)
    (λ week. ap (λ t. chance week *ℤ (t +ℤ value (stocks_left stocks week))) (earned_apart season before rung stocks week)
    ∙ (ap (λ t. chance week *ℤ t) (swapped (earned week) lost (value (stocks_left stocks week)))
    ∙ mul_add (chance week) (earned week +ℤ value (stocks_left stocks week)) lost))
    ∙ (sum_over-add (joint_demands season) (λ week. chance week *ℤ (earned week +ℤ value (stocks_left stocks week))) (λ week. chance week *ℤ lost)
    ∙ ap (λ t. joint_weighed season done rung rung stocks (λ week rest. value rest) +ℤ t)
    (sum_over-scale_right (joint_demands season) lost chance
    ∙ (ap (λ t. t *ℤ lost) (week_mass season (suc done) rung is (some done) early low high) ∙ *ℤ_comm (pos (joint_base season)) lost)))
  where
    swapped : (a b c : ℤ) → (a +ℤ b) +ℤ c ≡ (a +ℤ c) +ℤ b
    swapped a b c = omega (arith, linear)

    some : (n : ℕ) → 1 ≤ suc n
    some n = omega arith

pub average_apart : (leans : ℤ → ℤ → Type 0) (div : ℤ → ℕ → ℤ) → IsDirection leans div → (season : Season) (done before rung : ℕ) (stocks : List ℕ) (value : List ℕ → ℤ) → IsSeason season → 1 ≤ joint_base season → done < season.rules.weeks → 1 ≤ rung → rung ≤ length season.rules.prices →
    div (joint_weighed season done before rung stocks (λ week rest. value rest)) (joint_base season) ≡ div (joint_weighed season done rung rung stocks (λ week rest. value rest)) (joint_base season) +ℤ neg_ℤ (costs season before rung)
average_apart leans div laws season done before rung stocks value is some early low high =
    ap (λ t. div t (joint_base season)) (weighed_apart season done before rung stocks value is early low high)
    ∙ laws.shifts (joint_weighed season done rung rung stocks (λ week rest. value rest)) (neg_ℤ (costs season before rung)) (joint_base season) some
