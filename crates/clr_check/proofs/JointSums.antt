-- The sum over a week's joint demands, store by store, and its size.
use Rattle.std.proofs.Common.{◌≡◌, ℕ, ◌+◌, ◌-◌, ◌*◌, ◌^◌, ◌<◌, ◌≤◌, List, [], ◌∷◌, length, get_or, refl, sym, ap, ap₂, ◌∙◌, subst, arith, suc, ℤ, pos, ◌+ℤ◌, ◌*ℤ◌, sum, IsTrue, add-mul, mul-le-mul, mul-le-mul_right, le_trans, pow-suc, to_z, of_z}
use Rattle.std.proofs.Math.Nat.{pow-le-pow_right}
use Rattle.std.specs.Prelude.{nat_le}
use Rattle.std.proofs.lemmas.Bool.{and_parts, leb-true}
use native.Mathlib.Nat.{pow-zero}
use mir.Syntax.{w128}
use lib.IntN.{*ℤ_comm}
use Rattle.std.specs.Int.RustNames.{FitsSigned}
use Rattle.clr_average.proofs.Reading.{within_128}
use Rattle.clr_check.proofs.Sides.{read_128}
use Rattle.clr_num.specs.Lists.{numbers}
use Rattle.clr_num.specs.Sums.{sum_of, sum_over}
use Rattle.clr_average.specs.Average.{IsWithin, mass}
use Rattle.clr_average.proofs.Masses.{mass_is_sum, mass_le}
use Rattle.clr_average.proofs.Sums.{sum_over-numbers_more}
use Rattle.clr_average.proofs.Within.{within_more, within_pos, within_product, within_sum}
use Rattle.clr_season.specs.Season.{Season, IsSeason, weight, weights_of}
use Rattle.clr_model.specs.Fits.{fits, most_joint_base, most_joint_stores}
use Rattle.clr_model.specs.JointWeek.{joint_base}
use Rattle.clr_model.specs.Revenue.{cent, earn, left, salvage_cents}
use Rattle.clr_model.specs.JointValue.{end_value}
use Rattle.clr_cert.specs.Conditions.{end_worth}
use Rattle.clr_cert.specs.Entries.{most_entry}
use Rattle.clr_check.specs.declared.joint.RungWeek.{RungWeek}
use Rattle.clr_check.specs.JointRows.{most_gain, most_joint_sum, part_after, reach_after, reach_of_part, sum_after, worth_after}

-- ---- sizes

-- what a season that fits has
pub record IsSmall (season : Season) : Type 0 where
  pub few : length season.stores ≤ 4
  pub base : joint_base season ≤ 1000000000000000000

pub small_of : (season : Season) → IsTrue (fits season) → IsSmall season
small_of season fit =
    let first = and_parts (nat_le (length season.stores) most_joint_stores) _ fit in
    let second = and_parts (nat_le (joint_base season) most_joint_base) _ first.1 in
    record { few = leb-true (length season.stores) most_joint_stores first.0; base = leb-true (joint_base season) most_joint_base second.0 }

pub base_most : (season : Season) (past : ℕ) → IsSeason season → IsTrue (fits season) → season.base ^ (length season.stores - past) ≤ 1000000000000000000
base_most season past ok fit = le_trans (pow-le-pow_right ok.least_base (omega arith)) (small_of season fit).base

pub reach_most : (season : Season) (past : ℕ) → IsSeason season → IsTrue (fits season) → reach_after season past ≤ most_joint_sum
reach_most season past ok fit =
    let base = base_most season past ok fit in
    let few = (small_of season fit).few in
    let count : length season.stores - past ≤ 4 = omega (arith, few) in
    let gains : (length season.stores - past) * most_gain ≤ 4 * most_gain = mul-le-mul_right most_gain count in
    let each : most_entry + (length season.stores - past) * most_gain ≤ most_entry + 4 * most_gain = omega (arith, gains) in
    le_trans (mul-le-mul base each) (omega arith)

-- the base times the size of a part is the size of the sum
pub reach_more : (season : Season) (past : ℕ) → past < length season.stores → season.base * reach_of_part season past ≡ reach_after season past
reach_more season past low =
    let here : length season.stores - past ≡ suc (length season.stores - (past + 1)) = omega (arith, low) in
    rw here (product season.base (length season.stores - (past + 1)))
  where
    product : (b k : ℕ) → b * (b ^ k * (most_entry + k * most_gain) + b ^ k * most_gain) ≡ b ^ suc k * (most_entry + suc k * most_gain)
    product b k = rw (pow-suc b k) (expand b (b ^ k) k)
      where
        expand : (b p k : ℕ) → b * (p * (most_entry + k * most_gain) + p * most_gain) ≡ (p * b) * (most_entry + suc k * most_gain)
        expand b p k = grind arith

pub last_within : (season : Season) (past : ℕ) (x : ℤ) → past ≡ length season.stores → IsWithin most_entry x → IsWithin (reach_after season past) x
last_within season past x end h =
    let none : length season.stores - past ≡ 0 = omega (arith, end) in
    subst (λ n. IsWithin n x) (sym (ap (λ k. season.base ^ k * (most_entry + k * most_gain)) none ∙ once season.base)) h
  where
    once : (b : ℕ) → b ^ 0 * (most_entry + 0 * most_gain) ≡ most_entry
    once b = rw (pow-zero b) (omega arith)

pub part_within : (season : Season) (past scale : ℕ) (sum earned : ℤ) → scale ≡ season.base ^ (length season.stores - (past + 1)) → IsWithin (reach_after season (past + 1)) sum → IsWithin (scale * most_gain) earned → IsWithin (reach_of_part season past) (sum +ℤ earned)
part_within season past scale sum earned is a b =
    within_sum (reach_after season (past + 1)) (season.base ^ (length season.stores - (past + 1)) * most_gain) sum earned a (subst (λ n. IsWithin (n * most_gain) earned) is b)

pub weighed_most : (season : Season) (past weight : ℕ) → IsSeason season → IsTrue (fits season) → past < length season.stores → weight ≤ season.base → weight * reach_of_part season past ≤ most_joint_sum
weighed_most season past weight ok fit low light =
    le_trans (mul-le-mul_right (reach_of_part season past) light) (subst (λ n. n ≤ most_joint_sum) (sym (reach_more season past low)) (reach_most season past ok fit))

-- ---- a product at 128 bits

pub pos_read : (raw : ℤ) (n : ℕ) → raw ≡ pos n → n ≤ 1000000000000000000 → to_z w128 (of_z w128 raw) ≡ pos n
pos_read raw n is small = ap (λ z. to_z w128 (of_z w128 z)) is ∙ read_128 (pos n) 1000000000000000000 (within_pos 1000000000000000000 n small) (omega arith)

times_within : (value : ℤ) (reach scale : ℕ) → IsWithin reach value → IsWithin (scale * reach) (value *ℤ pos scale)
times_within value reach scale h = subst (IsWithin (scale * reach)) (*ℤ_comm (pos scale) value) (within_product scale reach value h)

times_small : (reach scale : ℕ) → reach ≤ 1000000000000000000 → scale ≤ 1000000000000000000 → scale * reach ≤ 1000000000000000000000000000000000000
times_small reach scale a b = mul-le-mul b a

module _ (value raw_value raw : ℤ) (reach scale : ℕ) (value_is : to_z w128 (of_z w128 raw_value) ≡ value) (raw_is : raw ≡ pos scale) (within : IsWithin reach value) (small : reach ≤ 1000000000000000000) (few : scale ≤ 1000000000000000000) where
  product_is : to_z w128 (of_z w128 raw_value) *ℤ to_z w128 (of_z w128 raw) ≡ value *ℤ pos scale
  product_is = ap₂ ◌*ℤ◌ value_is (pos_read raw scale raw_is few)

  product_within : IsWithin 1000000000000000000000000000000000000 (value *ℤ pos scale)
  product_within = within_more (scale * reach) 1000000000000000000000000000000000000 (value *ℤ pos scale) (times_within value reach scale within) (times_small reach scale small few)

  pub times_fits : FitsSigned w128 (to_z w128 (of_z w128 raw_value) *ℤ to_z w128 (of_z w128 raw))
  times_fits = subst (FitsSigned w128) (sym product_is) (within_128 (value *ℤ pos scale) (within_more 1000000000000000000000000000000000000 (2 ^ 127 - 1) (value *ℤ pos scale) product_within (omega arith)))

  pub times_is : to_z w128 (of_z w128 (to_z w128 (of_z w128 raw_value) *ℤ to_z w128 (of_z w128 raw))) ≡ value *ℤ pos scale
  times_is = ap (λ z. to_z w128 (of_z w128 z)) product_is ∙ read_128 (value *ℤ pos scale) 1000000000000000000000000000000000000 product_within (omega arith)

  pub times_size : IsWithin (scale * reach) (to_z w128 (of_z w128 (to_z w128 (of_z w128 raw_value) *ℤ to_z w128 (of_z w128 raw))))
  times_size = subst (IsWithin (scale * reach)) (sym times_is) (times_within value reach scale within)

  pub times_sum : IsWithin most_joint_sum (to_z w128 (of_z w128 (to_z w128 (of_z w128 raw_value) *ℤ to_z w128 (of_z w128 raw))))
  times_sum = subst (IsWithin most_joint_sum) (sym times_is) (within_more 1000000000000000000000000000000000000 most_joint_sum (value *ℤ pos scale) product_within (omega arith))

-- ---- the demands so far

pub light : (weights : List ℕ) (base count : ℕ) → sum weights ≡ base → count ≤ length weights → mass weights count ≤ base
light weights base count whole h =
    let part : mass weights count ≤ mass weights (length weights) = mass_le weights count (length weights) h in
    let all : mass weights (length weights) ≡ sum weights = mass_is_sum weights in
    omega (arith, part, all, whole)

pub weight_light : (weights : List ℕ) (base demand : ℕ) → sum weights ≡ base → demand < length weights → get_or weights demand 0 ≤ base
weight_light weights base demand whole h = let all : mass weights (suc demand) ≤ base = light weights base (suc demand) whole h in omega (arith, all)

pub mass_more : (weights : List ℕ) (count reach : ℕ) (total part : ℤ) → IsWithin (mass weights count * reach) total → IsWithin (get_or weights count 0 * reach) part → IsWithin (mass weights (count + 1) * reach) (total +ℤ part)
mass_more weights count reach total part t p =
    let next : count + 1 ≡ suc count = omega arith in
    rw next (subst (λ n. IsWithin n (total +ℤ part)) (sym (add-mul (mass weights count) (get_or weights count 0) reach)) (within_sum (mass weights count * reach) (get_or weights count 0 * reach) total part t p))

pub mass_most : (season : Season) (past count : ℕ) (weights : List ℕ) (total : ℤ) → IsSeason season → IsTrue (fits season) → past < length season.stores → sum weights ≡ season.base → count ≤ length weights → IsWithin (mass weights count * reach_of_part season past) total → IsWithin most_joint_sum total
mass_most season past count weights total ok fit low whole h t = within_more (mass weights count * reach_of_part season past) most_joint_sum total t (weighed_most season past (mass weights count) ok fit low (light weights season.base count whole h))

pub sum_more : (f : ℕ → ℤ) (count : ℕ) (total part : ℤ) → total ≡ sum_over (numbers 0 count) f → part ≡ f count → total +ℤ part ≡ sum_over (numbers 0 (count + 1)) f
sum_more f count total part so is =
    let next : count + 1 ≡ suc count = omega arith in
    let at : 0 + count ≡ count = omega arith in
    rw next (ap₂ ◌+ℤ◌ so (is ∙ ap f (sym at)) ∙ sym (sum_over-numbers_more 0 count f))

-- ---- one store's demands

-- what a demand gives, where the store's number is one more than how many are past
pub part_is : (season : Season) (week : RungWeek) (past stock demand scale : ℕ) (rest : List ℕ) (f : List ℕ → ℤ) (sum earned : ℤ) → scale ≡ season.base ^ length rest →
    sum ≡ sum_after season week (past + 1) rest (λ more. f (left stock demand ∷ more)) → earned ≡ earn season (past + 1) week.before week.rung stock demand *ℤ pos scale → sum +ℤ earned ≡ part_after season week past stock rest f demand
part_is season week past stock demand scale rest f sum earned scale_is sum_is earned_is =
    let next : past + 1 ≡ suc past = omega arith in
    ap₂ ◌+ℤ◌ (sum_is ∙ ap (λ n. sum_after season week n rest (λ more. f (left stock demand ∷ more))) next)
    (earned_is ∙ ap₂ (λ n k. earn season n week.before week.rung stock demand *ℤ pos k) next scale_is)

-- the weight of a demand times what it gives
module _ (season : Season) (past weight scale : ℕ) (sum earned : ℤ) (ok : IsSeason season) (fit : IsTrue (fits season)) (low : past < length season.stores) (light_weight : weight ≤ season.base) (scale_is : scale ≡ season.base ^ (length season.stores - (past + 1)))
    (sum_in : IsWithin (reach_after season (past + 1)) sum) (earned_in : IsWithin (scale * most_gain) earned) where
  pub scale_few : scale ≤ 1000000000000000000
  scale_few = subst (λ n. n ≤ 1000000000000000000) (sym scale_is) (base_most season (past + 1) ok fit)

  pub sum_most : IsWithin most_joint_sum sum
  sum_most = within_more (reach_after season (past + 1)) most_joint_sum sum sum_in (reach_most season (past + 1) ok fit)

  earned_most : IsWithin most_joint_sum earned
  earned_most = within_more (scale * most_gain) most_joint_sum earned earned_in (le_trans (times_small most_gain scale (omega arith) scale_few) (omega arith))

  both_is : to_z w128 (of_z w128 sum) +ℤ to_z w128 (of_z w128 earned) ≡ sum +ℤ earned
  both_is = ap₂ ◌+ℤ◌ (read_128 sum most_joint_sum sum_most (omega arith)) (read_128 earned most_joint_sum earned_most (omega arith))

  weighed_in : IsWithin (weight * reach_of_part season past) (pos weight *ℤ (sum +ℤ earned))
  weighed_in = within_product weight (reach_of_part season past) (sum +ℤ earned) (part_within season past scale sum earned scale_is sum_in earned_in)

  weighed_in_all : IsWithin most_joint_sum (pos weight *ℤ (sum +ℤ earned))
  weighed_in_all = within_more (weight * reach_of_part season past) most_joint_sum (pos weight *ℤ (sum +ℤ earned)) weighed_in (weighed_most season past weight ok fit low light_weight)

  pub weighed_fits : IsWithin most_joint_sum (pos weight *ℤ (to_z w128 (of_z w128 sum) +ℤ to_z w128 (of_z w128 earned)))
  weighed_fits = subst (λ v. IsWithin most_joint_sum (pos weight *ℤ v)) (sym both_is) weighed_in_all

  pub weighed_is : (found : ℤ) → found ≡ pos weight *ℤ (to_z w128 (of_z w128 sum) +ℤ to_z w128 (of_z w128 earned)) → to_z w128 (of_z w128 found) ≡ pos weight *ℤ (sum +ℤ earned)
  weighed_is found is = ap (λ z. to_z w128 (of_z w128 z)) (is ∙ ap (λ v. pos weight *ℤ v) both_is) ∙ read_128 (pos weight *ℤ (sum +ℤ earned)) most_joint_sum weighed_in_all (omega arith)

  pub weighed_size : (found : ℤ) → found ≡ pos weight *ℤ (to_z w128 (of_z w128 sum) +ℤ to_z w128 (of_z w128 earned)) → IsWithin (weight * reach_of_part season past) (to_z w128 (of_z w128 found))
  weighed_size found is = subst (IsWithin (weight * reach_of_part season past)) (sym (weighed_is found is)) weighed_in

-- one demand more
module _ (season : Season) (past demand : ℕ) (weights : List ℕ) (total found : ℤ) (ok : IsSeason season) (fit : IsTrue (fits season)) (low : past < length season.stores) (whole : sum weights ≡ season.base) (less : demand < length weights)
    (total_in : IsWithin (mass weights demand * reach_of_part season past) total) (found_in : IsWithin (get_or weights demand 0 * reach_of_part season past) found) where
  found_is : to_z w128 (of_z w128 found) ≡ found
  found_is = read_128 found most_joint_sum (within_more (get_or weights demand 0 * reach_of_part season past) most_joint_sum found found_in (weighed_most season past (get_or weights demand 0) ok fit low (weight_light weights season.base demand whole less))) (omega arith)

  more_in : IsWithin (mass weights (demand + 1) * reach_of_part season past) (total +ℤ found)
  more_in = mass_more weights demand (reach_of_part season past) total found total_in found_in

  more_most : IsWithin most_joint_sum (total +ℤ found)
  more_most = mass_most season past (demand + 1) weights (total +ℤ found) ok fit low whole (omega (arith, less)) more_in

  pub more_fits : FitsSigned w128 (total +ℤ to_z w128 (of_z w128 found))
  more_fits = subst (λ v. FitsSigned w128 (total +ℤ v)) (sym found_is) (within_128 (total +ℤ found) (within_more most_joint_sum (2 ^ 127 - 1) (total +ℤ found) more_most (omega arith)))

  pub more_is : to_z w128 (of_z w128 (total +ℤ to_z w128 (of_z w128 found))) ≡ total +ℤ found
  more_is = ap (λ v. to_z w128 (of_z w128 (total +ℤ v))) found_is ∙ read_128 (total +ℤ found) most_joint_sum more_most (omega arith)

  pub more_size : IsWithin (mass weights (demand + 1) * reach_of_part season past) (to_z w128 (of_z w128 (total +ℤ to_z w128 (of_z w128 found))))
  more_size = subst (IsWithin (mass weights (demand + 1) * reach_of_part season past)) (sym more_is) more_in

-- all demands
pub folded_is : (season : Season) (week : RungWeek) (past stock count : ℕ) (rest list weights : List ℕ) (f : List ℕ → ℤ) (total : ℤ) → list ≡ stock ∷ rest → weights ≡ weights_of season (past + 1) (week.done + 1) week.rung → count ≡ suc season.top →
    total ≡ sum_over (numbers 0 count) (λ demand. pos (get_or weights demand 0) *ℤ part_after season week past stock rest f demand) → total ≡ sum_after season week past list f
folded_is season week past stock count rest list weights f total list_is weights_is count_is total_is =
    let store : past + 1 ≡ suc past = omega arith in
    let next : week.done + 1 ≡ suc week.done = omega arith in
    total_is
    ∙ (ap₂ (λ n ws. sum_over (numbers 0 n) (λ demand. pos (get_or ws demand 0) *ℤ part_after season week past stock rest f demand)) count_is (weights_is ∙ ap₂ (λ a b. weights_of season a b week.rung) store next)
    ∙ ap (λ l. sum_after season week past l f) (sym list_is))

pub all_within : (season : Season) (past count : ℕ) (weights : List ℕ) (total : ℤ) → past < length season.stores → sum weights ≡ season.base → count ≤ length weights → IsWithin (mass weights count * reach_of_part season past) total → IsWithin (reach_after season past) total
all_within season past count weights total low whole h t =
    within_more (mass weights count * reach_of_part season past) (reach_after season past) total t (subst (λ n. mass weights count * reach_of_part season past ≤ n) (reach_more season past low) (mul-le-mul_right (reach_of_part season past) (light weights season.base count whole h)))

-- ---- what the stocks are worth at the end

pub worths : (season : Season) (at : ℕ → ℕ) (stocks : List ℕ) → ((i : ℕ) → at (suc i) ≡ suc (at i)) → worth_after season (at 0) stocks ≡ sum_of (length stocks) (λ i. pos cent *ℤ salvage_cents season (suc (at i)) (get_or stocks i 0))
worths season at [] next = refl
worths season at (stock ∷ stocks) next =
    ap (λ t. pos cent *ℤ salvage_cents season (suc (at 0)) stock +ℤ t) (ap (λ n. worth_after season n stocks) (sym (next 0)) ∙ worths season (λ i. at (suc i)) stocks (λ i. next (suc i)))

pub worth_more : (season : Season) (past stock : ℕ) (rest list : List ℕ) (here later : ℤ) → list ≡ stock ∷ rest → here ≡ end_worth season (past + 1) stock → later ≡ worth_after season (past + 1) rest → here +ℤ later ≡ worth_after season past list
worth_more season past stock rest list here later list_is here_is later_is =
    let next : past + 1 ≡ suc past = omega arith in
    ap₂ ◌+ℤ◌ (here_is ∙ ap (λ n. end_worth season n stock) next) (later_is ∙ ap (λ n. worth_after season n rest) next) ∙ ap (λ l. worth_after season past l) (sym list_is)

pub worth_read : (count : ℕ) (here later : ℤ) → count ≤ 4 → IsWithin 1000000000000000000000000000 here → IsWithin (count * 1000000000000000000000000000) later →
    to_z w128 (of_z w128 (to_z w128 (of_z w128 here) +ℤ to_z w128 (of_z w128 later))) ≡ here +ℤ later
worth_read count here later few a b =
    let most : IsWithin 4000000000000000000000000000 later = within_more (count * 1000000000000000000000000000) 4000000000000000000000000000 later b (omega arith) in
    ap₂ (λ x y. to_z w128 (of_z w128 (x +ℤ y))) (read_128 here 1000000000000000000000000000 a (omega arith)) (read_128 later 4000000000000000000000000000 most (omega arith))
    ∙ read_128 (here +ℤ later) (1000000000000000000000000000 + 4000000000000000000000000000) (within_sum 1000000000000000000000000000 4000000000000000000000000000 here later a most) (omega arith)

pub worth_whole : (season : Season) (stocks : List ℕ) → length stocks ≡ length season.stores → worth_after season 0 stocks ≡ end_value season stocks
worth_whole season stocks size = worths season (λ i. i) stocks (λ i. refl) ∙ ap (λ n. sum_of n (λ i. pos cent *ℤ salvage_cents season (suc i) (get_or stocks i 0))) size

pub worth_most : (season : Season) (value : ℤ) → IsSmall season → IsWithin ((length season.stores - 0) * 1000000000000000000000000000) value → IsWithin 4000000000000000000000000000 value
worth_most season value small h =
    let few = small.few in
    within_more ((length season.stores - 0) * 1000000000000000000000000000) 4000000000000000000000000000 value h (omega (arith, few))
