-- The sum over a week's joint demands is a sum over the demands of one store after another.
use Rattle.std.proofs.Common.{◌≡◌, ℕ, ◌<◌, ◌^◌, ℤ, pos, ◌+ℤ◌, ◌*ℤ◌, refl, sym, ap, ap₂, ◌∙◌, subst, arith, suc, List, [], ◌∷◌, get_or, length}
use lib.IntN.{*ℤ_comm}
use Rattle.clr_num.specs.Lists.{all_lists}
use Rattle.clr_num.specs.Sums.{sum_over, sum_of, product_of}
use Rattle.clr_season.specs.Season.{Season, demands, weight}
use Rattle.clr_model.specs.Revenue.{earn, left, stocks_left}
use Rattle.clr_model.specs.JointFold.{fold_stores, JointSumByStores}
use Rattle.clr_average.proofs.Ring.{linear, mul_add, mul_assoc, one_mul}
use Rattle.clr_average.proofs.Sums.{sum_over-same, sum_over-add, sum_over-scale}
use Rattle.clr_model.proofs.Sums.{sum_over-all_lists, joint_mass}
use Rattle.clr_model.proofs.Weeks.{store_mass}

-- a product of weights times two gains and a value
first_apart : (w rest e more v : ℤ) → (w *ℤ rest) *ℤ ((e +ℤ more) +ℤ v) ≡ w *ℤ (rest *ℤ (more +ℤ v)) +ℤ (w *ℤ e) *ℤ rest
first_apart w rest e more v =
    ap (λ t. (w *ℤ rest) *ℤ t) (grouped e more v)
    ∙ (mul_add (w *ℤ rest) (more +ℤ v) e
    ∙ ap₂ ◌+ℤ◌ (mul_assoc w rest (more +ℤ v)) (mul_assoc w rest e ∙ (ap (λ t. w *ℤ t) (*ℤ_comm rest e) ∙ sym (mul_assoc w e rest))))
  where
    grouped : (e more v : ℤ) → (e +ℤ more) +ℤ v ≡ (more +ℤ v) +ℤ e
    grouped e more v = omega (arith, linear)

module _ (season : Season) (done before rung : ℕ) where
  -- the numbers of the stores go up by one from place to place
  folded : (stocks : List ℕ) (at : ℕ → ℕ) (value : List ℕ → ℤ) → ((i : ℕ) → at (suc i) ≡ suc (at i)) → ((i : ℕ) → i < length stocks → sum_over (demands season) (λ demand. pos (weight season (at i) (suc done) rung demand)) ≡ pos season.base) →
      sum_over (all_lists (demands season) (length stocks)) (λ week. product_of (length stocks) (λ i. pos (weight season (at i) (suc done) rung (get_or week i 0)))
      *ℤ (sum_of (length stocks) (λ i. earn season (at i) before rung (get_or stocks i 0) (get_or week i 0)) +ℤ value (stocks_left stocks week)))
      ≡ fold_stores season done before rung (at 0) stocks value
  folded [] at value next mass =
      let once : pos 1 *ℤ (pos 0 +ℤ value []) ≡ pos 0 +ℤ value [] = one_mul (pos 0 +ℤ value []) in
      omega (arith, linear)
  folded (stock ∷ stocks) at value next mass =
      let n : ℕ = length stocks in
      let lists : List (List ℕ) = all_lists (demands season) n in
      let first : ℕ → ℤ = λ demand. pos (weight season (at 0) (suc done) rung demand) in
      let gain : ℕ → ℤ = λ demand. earn season (at 0) before rung stock demand in
      let rest : List ℕ → ℤ = λ week. product_of n (λ i. pos (weight season (at (suc i)) (suc done) rung (get_or week i 0))) in
      let gains : List ℕ → ℤ = λ week. sum_of n (λ i. earn season (at (suc i)) before rung (get_or stocks i 0) (get_or week i 0)) in
      let after : ℕ → List ℕ → ℤ = λ demand week. value (left stock demand ∷ stocks_left stocks week) in
      let later : ℕ → ℤ = λ demand. fold_stores season done before rung (suc (at 0)) stocks (λ more. value (left stock demand ∷ more)) in
      let all : sum_over lists rest ≡ pos (season.base ^ n)
      = joint_mass (demands season) n (λ i demand. pos (weight season (at (suc i)) (suc done) rung demand)) season.base (λ i p. mass (suc i) (omega arith)) in
      let each : (demand : ℕ) → sum_over lists (λ week. rest week *ℤ (gains week +ℤ after demand week)) ≡ later demand
      = λ demand. folded stocks (λ i. at (suc i)) (λ more. value (left stock demand ∷ more)) (λ i. next (suc i)) (λ i p. mass (suc i) (omega arith))
      ∙ ap (λ k. fold_stores season done before rung k stocks (λ more. value (left stock demand ∷ more))) (next 0) in
      let inner : (demand : ℕ) → sum_over lists (λ week. (first demand *ℤ rest week) *ℤ ((gain demand +ℤ gains week) +ℤ after demand week)) ≡ first demand *ℤ (later demand +ℤ gain demand *ℤ pos (season.base ^ n))
      = λ demand.
      sum_over-same lists _ (λ week. first demand *ℤ (rest week *ℤ (gains week +ℤ after demand week)) +ℤ (first demand *ℤ gain demand) *ℤ rest week) (λ week. first_apart (first demand) (rest week) (gain demand) (gains week) (after demand week))
      ∙ (sum_over-add lists (λ week. first demand *ℤ (rest week *ℤ (gains week +ℤ after demand week))) (λ week. (first demand *ℤ gain demand) *ℤ rest week)
      ∙ (ap₂ ◌+ℤ◌ (sum_over-scale lists (first demand) (λ week. rest week *ℤ (gains week +ℤ after demand week)) ∙ ap (λ t. first demand *ℤ t) (each demand))
      (sum_over-scale lists (first demand *ℤ gain demand) rest ∙ (ap (λ t. (first demand *ℤ gain demand) *ℤ t) all ∙ mul_assoc (first demand) (gain demand) (pos (season.base ^ n))))
      ∙ sym (mul_add (first demand) (later demand) (gain demand *ℤ pos (season.base ^ n))))) in
      sum_over-all_lists (demands season) n (λ week. product_of (suc n) (λ i. pos (weight season (at i) (suc done) rung (get_or week i 0)))
      *ℤ (sum_of (suc n) (λ i. earn season (at i) before rung (get_or (stock ∷ stocks) i 0) (get_or week i 0)) +ℤ value (stocks_left (stock ∷ stocks) week)))
      ∙ sum_over-same (demands season) _ (λ demand. first demand *ℤ (later demand +ℤ gain demand *ℤ pos (season.base ^ n))) inner

pub joint_sum_by_stores_lem : JointSumByStores
joint_sum_by_stores_lem season done before rung stocks value ok count early low high =
    subst (λ n. sum_over (all_lists (demands season) n) (λ week. product_of n (λ i. pos (weight season (suc i) (suc done) rung (get_or week i 0)))
    *ℤ (sum_of n (λ i. earn season (suc i) before rung (get_or stocks i 0) (get_or week i 0)) +ℤ value (stocks_left stocks week))) ≡ fold_stores season done before rung 1 stocks value) count
    (folded season done before rung stocks (λ i. suc i) value (λ i. refl) (λ i p. store_mass season (suc done) rung ok (omega arith) (omega arith) low high i (subst (λ n. i < n) count p)))
