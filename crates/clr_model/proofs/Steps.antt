-- One week of a recursion, in either direction.
use Rattle.std.proofs.Common.{◌≡◌, ℕ, ◌+◌, ◌-◌, ◌*◌, ◌^◌, ◌<◌, ◌≤◌, ℤ, pos, ◌+ℤ◌, ◌*ℤ◌, refl, sym, ap, ◌∙◌, subst, subst₂, arith, suc, zero, List, [], ◌∷◌, get_or, length, mul_comm, pow-suc}
use Rattle.std.specs.List.{AllByRecursion}
use lib.IntN.{*ℤ_comm}
use Rattle.clr_num.specs.Direction.{IsDirection}
use Rattle.clr_season.specs.Season.{Season, IsSeason, weight}
use Rattle.clr_num.specs.Sums.{sum_over, sum_of, product_of}
use Rattle.clr_model.specs.Policies.{Tree, node, joint_demands, IsWhole}
use Rattle.clr_model.specs.Revenue.{cent, left, earn, week_cents, sum_stores, of_store, stocks_left}
use Rattle.clr_model.specs.Expected.{week_chance, den, earned}
use Rattle.clr_model.specs.PathValue.{weighed}
use Rattle.clr_model.specs.JointWeek.{joint_weighed, joint_base}
use Rattle.clr_average.proofs.Ring.{add_mul, mul_add, mul_assoc, mul_left_comm}
use Rattle.clr_average.proofs.Sums.{sum_over-same, sum_over-scale, sum_over-scale_right}
use Rattle.clr_model.proofs.Sums.{All-imply, sum_of-same, sum_of-add, sum_of-scale}
use Rattle.clr_model.proofs.Weeks.{one_week_split_off_lem, one_store_split_off_lem, den_suc, of_store-stocks_left}

-- ---- chances are not negative

product_of-pos : (n : ℕ) (f : ℕ → ℕ) → (k : ℕ) × (product_of n (λ i. pos (f i)) ≡ pos k)
product_of-pos zero f = (1, refl)
product_of-pos (suc n) f = let r = product_of-pos n (λ i. f (suc i)) in (f 0 * r.0, ap (λ t. pos (f 0) *ℤ t) r.1)

pub week_chance-pos : (season : Season) (week rung : ℕ) (asked : List ℕ) → (k : ℕ) × (week_chance season week rung asked ≡ pos k)
week_chance-pos season week rung asked = product_of-pos (length season.stores) (λ i. weight season (suc i) week rung (get_or asked i 0))

module _ (leans : ℤ → ℤ → Type 0) (div : ℤ → ℕ → ℤ) (laws : IsDirection leans div) where
  pub sum_over-leans : {X : Type 0} (xs : List X) (f g : X → ℤ) → AllByRecursion (λ x. leans (f x) (g x)) xs → leans (sum_over xs f) (sum_over xs g)
  sum_over-leans [] f g h = laws.same (pos 0)
  sum_over-leans (x ∷ xs) f g h = laws.adds (f x) (g x) (sum_over xs f) (sum_over xs g) h.0 (sum_over-leans xs f g h.1)

  pub sum_of-leans : (n : ℕ) (f g : ℕ → ℤ) → ((i : ℕ) → i < n → leans (f i) (g i)) → leans (sum_of n f) (sum_of n g)
  sum_of-leans zero f g h = laws.same (pos 0)
  sum_of-leans (suc n) f g h =
      laws.adds (f 0) (g 0) (sum_of n (λ i. f (suc i))) (sum_of n (λ i. g (suc i))) (h 0 (omega arith)) (sum_of-leans n (λ i. f (suc i)) (λ i. g (suc i)) (λ i p. h (suc i) (omega arith)))

  scales_right : (k : ℕ) (a b : ℤ) → leans a b → leans (a *ℤ pos k) (b *ℤ pos k)
  scales_right k a b h = subst₂ leans (*ℤ_comm (pos k) a) (*ℤ_comm (pos k) b) (laws.scales k a b h)

  scales_chance : (season : Season) (week rung : ℕ) (asked : List ℕ) (a b : ℤ) → leans a b → leans (week_chance season week rung asked *ℤ a) (week_chance season week rung asked *ℤ b)
  scales_chance season week rung asked a b h =
      let r = week_chance-pos season week rung asked in
      subst (λ t. leans (t *ℤ a) (t *ℤ b)) (sym r.1) (laws.scales r.0 a b h)

  -- all stores together: a value that leans from the weighed sum, over values that lean from what the kids earn
  pub joint_step : (season : Season) (done weeks before rung : ℕ) (stocks : List ℕ) (kids : List ℕ → Tree) (value : List ℕ → List ℕ → ℤ) (now : ℤ) →
      IsSeason season → done + suc weeks ≤ season.rules.weeks → IsWhole season (suc weeks) (node rung kids) →
      leans (now *ℤ pos (joint_base season)) (joint_weighed season done before rung stocks value) →
      AllByRecursion (λ week. leans (value week (stocks_left stocks week) *ℤ den season weeks) (pos cent *ℤ earned season (suc done) weeks rung (stocks_left stocks week) (kids week))) (joint_demands season) →
      leans (now *ℤ den season (suc weeks)) (pos cent *ℤ earned season done (suc weeks) before stocks (node rung kids))
  joint_step season done weeks before rung stocks kids value now ok fits whole here after =
      let wc : List ℕ → ℤ = week_chance season (suc done) rung in
      let gain : List ℕ → ℤ = λ week. sum_stores season (λ store. earn season store before rung (of_store stocks store) (of_store week store)) in
      let cents : List ℕ → ℤ = λ week. sum_stores season (λ store. week_cents season store before rung (of_store stocks store) (of_store week store)) in
      let next : List ℕ → ℤ = λ week. earned season (suc done) weeks rung (stocks_left stocks week) (kids week) in
      let kid : List ℕ → ℤ = λ week. value week (stocks_left stocks week) in
      let top : leans (now *ℤ den season (suc weeks)) (joint_weighed season done before rung stocks value *ℤ den season weeks)
      = subst (λ t. leans t (joint_weighed season done before rung stocks value *ℤ den season weeks))
      (mul_assoc now (pos (joint_base season)) (den season weeks) ∙ ap (λ t. now *ℤ t) (sym (den_suc season weeks)))
      (scales_right (season.base ^ (length season.stores * weeks)) _ _ here) in
      let spread : joint_weighed season done before rung stocks value *ℤ den season weeks ≡ sum_over (joint_demands season) (λ week. wc week *ℤ (gain week *ℤ den season weeks +ℤ kid week *ℤ den season weeks))
      = sym (sum_over-scale_right (joint_demands season) (den season weeks) (λ week. wc week *ℤ (gain week +ℤ kid week)))
      ∙ sum_over-same (joint_demands season) _ _ (λ week. mul_assoc (wc week) (gain week +ℤ kid week) (den season weeks) ∙ ap (λ t. wc week *ℤ t) (add_mul (gain week) (kid week) (den season weeks))) in
      let exact : pos cent *ℤ earned season done (suc weeks) before stocks (node rung kids) ≡ sum_over (joint_demands season) (λ week. wc week *ℤ (gain week *ℤ den season weeks +ℤ pos cent *ℤ next week))
      = ap (λ t. pos cent *ℤ t) (one_week_split_off_lem season done weeks before stocks rung kids ok fits whole)
      ∙ (sym (sum_over-scale (joint_demands season) (pos cent) (λ week. wc week *ℤ (cents week *ℤ den season weeks +ℤ next week)))
      ∙ sum_over-same (joint_demands season) _ _ (λ week. mul_left_comm (pos cent) (wc week) (cents week *ℤ den season weeks +ℤ next week)
      ∙ ap (λ t. wc week *ℤ t) (mul_add (pos cent) (cents week *ℤ den season weeks) (next week)
      ∙ ap (λ t. t +ℤ pos cent *ℤ next week) (sym (mul_assoc (pos cent) (cents week) (den season weeks))
      ∙ ap (λ t. t *ℤ den season weeks) (sym (sum_of-scale (length season.stores) (pos cent) (λ i. week_cents season (suc i) before rung (get_or stocks i 0) (get_or week i 0)))))))) in
      laws.chain _ _ _ top
      (subst₂ leans (sym spread) (sym exact)
      (sum_over-leans (joint_demands season) (λ week. wc week *ℤ (gain week *ℤ den season weeks +ℤ kid week *ℤ den season weeks)) (λ week. wc week *ℤ (gain week *ℤ den season weeks +ℤ pos cent *ℤ next week))
      (All-imply _ (λ week. leans (wc week *ℤ (gain week *ℤ den season weeks +ℤ kid week *ℤ den season weeks)) (wc week *ℤ (gain week *ℤ den season weeks +ℤ pos cent *ℤ next week))) (joint_demands season)
      (λ week h. scales_chance season (suc done) rung week _ _ (laws.adds _ _ _ _ (laws.same (gain week *ℤ den season weeks)) h)) after)))

  -- each store by itself: values that lean from each store's weighed sum
  pub store_step : (season : Season) (done weeks before rung : ℕ) (stocks : List ℕ) (kids : List ℕ → Tree) (value : ℕ → ℕ → ℤ) (now : ℕ → ℤ) →
      IsSeason season → done + suc weeks ≤ season.rules.weeks → IsWhole season (suc weeks) (node rung kids) →
      ((i : ℕ) → i < length season.stores → leans (now (suc i) *ℤ pos season.base) (weighed season (suc i) done before rung (get_or stocks i 0) (value (suc i)))) →
      AllByRecursion (λ week. leans (sum_stores season (λ store. value store (of_store (stocks_left stocks week) store)) *ℤ den season weeks) (pos cent *ℤ earned season (suc done) weeks rung (stocks_left stocks week) (kids week))) (joint_demands season) →
      leans (sum_stores season now *ℤ den season (suc weeks)) (pos cent *ℤ earned season done (suc weeks) before stocks (node rung kids))
  store_step season done weeks before rung stocks kids value now ok fits whole here after =
      joint_step season done weeks before rung stocks kids (λ week rest. sum_stores season (λ store. value store (of_store rest store))) (sum_stores season now) ok fits whole
      (subst₂ leans left_side right_side (laws.scales (season.base ^ (length season.stores - 1)) _ _
      (sum_of-leans (length season.stores) (λ i. now (suc i) *ℤ pos season.base) (λ i. weighed season (suc i) done before rung (get_or stocks i 0) (value (suc i))) here)))
      after
    where
      power : (b n : ℕ) → 1 ≤ n → b * b ^ (n - 1) ≡ b ^ n
      power b zero h = absurd (none h)
        where
          none : 1 ≤ 0 → ⊥
          none p = omega arith
      power b (suc n) h = let minus : suc n - 1 ≡ n = omega arith in rw minus (mul_comm b (b ^ n) ∙ sym (pow-suc b n))

      sum_right : (n : ℕ) (f : ℕ → ℤ) (c : ℤ) → sum_of n (λ i. f i *ℤ c) ≡ sum_of n f *ℤ c
      sum_right n f c = sum_of-same n (λ i. f i *ℤ c) (λ i. c *ℤ f i) (λ i p. *ℤ_comm (f i) c) ∙ (sum_of-scale n c f ∙ *ℤ_comm c (sum_of n f))

      left_side : pos (season.base ^ (length season.stores - 1)) *ℤ sum_of (length season.stores) (λ i. now (suc i) *ℤ pos season.base) ≡ sum_stores season now *ℤ pos (joint_base season)
      left_side =
          ap (λ t. pos (season.base ^ (length season.stores - 1)) *ℤ t) (sum_right (length season.stores) (λ i. now (suc i)) (pos season.base))
          ∙ (mul_left_comm (pos (season.base ^ (length season.stores - 1))) (sum_stores season now) (pos season.base)
          ∙ ap (λ t. sum_stores season now *ℤ t) (*ℤ_comm (pos (season.base ^ (length season.stores - 1))) (pos season.base) ∙ ap pos (power season.base (length season.stores) ok.some)))

      right_side : pos (season.base ^ (length season.stores - 1)) *ℤ sum_of (length season.stores) (λ i. weighed season (suc i) done before rung (get_or stocks i 0) (value (suc i)))
          ≡ joint_weighed season done before rung stocks (λ week rest. sum_stores season (λ store. value store (of_store rest store)))
      right_side =
          sym (one_store_split_off_lem season (suc done) rung (λ store demand. earn season store before rung (of_store stocks store) demand +ℤ value store (left (of_store stocks store) demand)) ok (omega arith) (omega arith) whole.0 whole.1)
          ∙ sum_over-same (joint_demands season) _ _ (λ week. ap (λ t. week_chance season (suc done) rung week *ℤ t)
          (sum_of-add (length season.stores) (λ i. earn season (suc i) before rung (get_or stocks i 0) (get_or week i 0)) (λ i. value (suc i) (left (get_or stocks i 0) (get_or week i 0)))
          ∙ ap (λ t. sum_stores season (λ store. earn season store before rung (of_store stocks store) (of_store week store)) +ℤ t)
          (sum_of-same (length season.stores) _ _ (λ i p. ap (value (suc i)) (sym (of_store-stocks_left stocks week i))))))
