-- How large the values of all stores together can be.
use Rattle.std.proofs.Common.{◌≡◌, ℕ, zero, suc, ◌+◌, ◌*◌, ◌≤◌, ◌<◌, min, ℤ, pos, neg_ℤ, ◌+ℤ◌, ◌-ℤ◌, ◌*ℤ◌, ◌≤ℤ◌, ◌==◌, Bool, true, false, cond, List, [], ◌∷◌, ◌++◌, get_or, length, IsTrue, arith, refl, ap, sym, ◌∙◌, subst, mul_assoc, mul-add, mul-suc, mul-le-mul_right}
use Rattle.clr_num.specs.Direction.{IsDirection}
use Rattle.clr_num.specs.Sums.{sum_over, sum_of, first_best}
use Rattle.clr_rules.specs.Rules.{is_live, live_rungs, price}
use Rattle.clr_rules.proofs.LiveLemmas.{live-rung}
use Rattle.clr_season.specs.Season.{Season, IsSeason, store_at}
use Rattle.clr_average.proofs.Ring.{linear, scale_le}
use Rattle.clr_average.proofs.Sums.{sum_over-scale_right}
use Rattle.clr_average.proofs.Within.{quotient_high, quotient_low}
use Rattle.clr_model.specs.Policies.{joint_demands}
use Rattle.clr_model.specs.Revenue.{cent, earn, fee, left, week_cents, salvage_cents, sum_stores, of_store, stocks_left}
use Rattle.clr_model.specs.Expected.{week_chance}
use Rattle.clr_model.specs.StoreValue.{last_rung}
use Rattle.clr_model.specs.JointWeek.{joint_weighed, joint_base}
use Rattle.clr_model.specs.JointValue.{joint_rung_value, joint_value}
use Rattle.clr_model.proofs.Abiding.{length_more}
use Rattle.clr_model.proofs.JointBounds.{best_live}
use Rattle.clr_model.proofs.JointNumbers.{weeks_after}
use Rattle.clr_model.proofs.Rows.{turn}
use Rattle.clr_model.proofs.Sizes.{store_within}
use Rattle.clr_model.proofs.Steps.{week_chance-pos}
use Rattle.clr_model.proofs.Sums.{All-every, sum_over-le, sum_of-add, sum_of-le}
use Rattle.clr_model.proofs.Weeks.{week_mass, of_store-stocks_left}

-- the most that a unit earns, and that relabelling costs
abbrev unit : ℕ
unit = 10000000000000

price_most : (season : Season) (rung : ℕ) → IsSeason season → 1 ≤ rung → rung ≤ length season.rules.prices → price season.rules rung ≤ 10000000
price_most season zero is low high = absurd (omega arith)
price_most season (suc i) is low high = is.rules.ladder.most i (omega arith)

cents_most : (cents : ℕ) → cents ≤ 10000000 → cent * cents ≤ unit
unfolding cent
cents_most cents le = omega (arith, le)

natural : (n : ℕ) (f : ℕ → ℕ) → (k : ℕ) × (sum_of n (λ i. pos (f i)) ≡ pos k)
natural zero f = (0, refl)
natural (suc n) f = let r = natural n (λ i. f (suc i)) in (f 0 + r.0, ap (λ t. pos (f 0) +ℤ t) r.1)

-- a sum of weights that are not negative times numbers within a limit
weighed_most : {X : Type 0} (xs : List X) (w f : X → ℤ) (c : ℤ) (base : ℕ) → ((x : X) → (k : ℕ) × (w x ≡ pos k)) → sum_over xs w ≡ pos base → ((x : X) → f x ≤ℤ c) → sum_over xs (λ x. w x *ℤ f x) ≤ℤ (pos base *ℤ c)
weighed_most xs w f c base weights mass h =
    subst (λ t. sum_over xs (λ x. w x *ℤ f x) ≤ℤ t) (sum_over-scale_right xs c w ∙ ap (λ t. t *ℤ c) mass)
    (sum_over-le xs (λ x. w x *ℤ f x) (λ x. w x *ℤ c) (All-every _ xs (λ x. let r = weights x in subst (λ t. (t *ℤ f x) ≤ℤ (t *ℤ c)) (sym r.1) (scale_le r.0 (f x) c (h x)))))

weighed_least : {X : Type 0} (xs : List X) (w f : X → ℤ) (c : ℤ) (base : ℕ) → ((x : X) → (k : ℕ) × (w x ≡ pos k)) → sum_over xs w ≡ pos base → ((x : X) → c ≤ℤ f x) → (pos base *ℤ c) ≤ℤ sum_over xs (λ x. w x *ℤ f x)
weighed_least xs w f c base weights mass h =
    subst (λ t. t ≤ℤ sum_over xs (λ x. w x *ℤ f x)) (sum_over-scale_right xs c w ∙ ap (λ t. t *ℤ c) mass)
    (sum_over-le xs (λ x. w x *ℤ c) (λ x. w x *ℤ f x) (All-every _ xs (λ x. let r = weights x in subst (λ t. (t *ℤ c) ≤ℤ (t *ℤ f x)) (sym r.1) (scale_le r.0 c (f x) (h x)))))

module _ (season : Season) (is : IsSeason season) where
  fee_most : (i before rung : ℕ) → i < length season.stores → cent * fee season (suc i) before rung ≤ unit
  fee_most i before rung last = by_test (rung == before)
    where
      by_test : (same : Bool) → cent * (cond same 0 (store_at season (suc i)).relabel) ≤ unit
      by_test true = let none : cent * 0 ≡ 0 = omega arith in omega (arith, none)
      by_test false = cents_most (store_at season (suc i)).relabel (store_within season (suc i) is (omega arith) last).relabel

  earn_high : (i before rung stock demand : ℕ) → i < length season.stores → 1 ≤ rung → rung ≤ length season.rules.prices → (earn season (suc i) before rung stock demand +ℤ pos (unit * left stock demand)) ≤ℤ pos (unit * stock)
  unfolding week_cents
  earn_high i before rung stock demand last low high =
      let sold : ℕ = min stock demand in
      let paid : ℕ = price season.rules rung in
      let most : (pos cent *ℤ (pos (paid * sold) -ℤ pos (fee season (suc i) before rung))) ≤ℤ pos (cent * (paid * sold)) = scale_le cent (pos (paid * sold) -ℤ pos (fee season (suc i) before rung)) (pos (paid * sold)) (omega (arith, linear)) in
      let units : cent * paid * sold ≤ unit * sold = mul-le-mul_right sold (cents_most paid (price_most season rung is low high)) in
      let grouped : cent * paid * sold ≡ cent * (paid * sold) = mul_assoc cent paid sold in
      let whole : min stock demand + left stock demand ≡ stock = omega arith in
      let split : unit * (min stock demand + left stock demand) ≡ unit * min stock demand + unit * left stock demand = mul-add unit (min stock demand) (left stock demand) in
      let both : unit * stock ≡ unit * min stock demand + unit * left stock demand = ap (λ t. unit * t) (sym whole) ∙ split in
      let e : pos (unit * stock) ≡ pos (unit * min stock demand) +ℤ pos (unit * left stock demand) = ap pos both in
      omega (arith, linear)

  earn_low : (i before rung stock demand : ℕ) → i < length season.stores → neg_ℤ (pos unit) ≤ℤ earn season (suc i) before rung stock demand
  unfolding week_cents
  earn_low i before rung stock demand last =
      let paid : ℕ = price season.rules rung * min stock demand in
      let least : (pos cent *ℤ neg_ℤ (pos (fee season (suc i) before rung))) ≤ℤ (pos cent *ℤ (pos paid -ℤ pos (fee season (suc i) before rung))) = scale_le cent (neg_ℤ (pos (fee season (suc i) before rung))) (pos paid -ℤ pos (fee season (suc i) before rung)) (omega (arith, linear)) in
      let turned : pos cent *ℤ neg_ℤ (pos (fee season (suc i) before rung)) ≡ neg_ℤ (pos (cent * fee season (suc i) before rung)) = turn cent (fee season (suc i) before rung) in
      let most : cent * fee season (suc i) before rung ≤ unit = fee_most i before rung last in
      omega (arith, linear)

  -- what the units of a list of stocks can earn at most
  abbrev pub worth : List ℕ → ℤ
  worth stocks = sum_stores season (λ store. pos (unit * of_store stocks store))

  -- what all stores earn in a week and what the rest of their units can earn
  gains_high : (before rung : ℕ) (stocks week : List ℕ) → 1 ≤ rung → rung ≤ length season.rules.prices →
      (sum_stores season (λ store. earn season store before rung (of_store stocks store) (of_store week store)) +ℤ worth (stocks_left stocks week)) ≤ℤ worth stocks
  gains_high before rung stocks week low high =
      subst (λ t. t ≤ℤ worth stocks) (sum_of-add (length season.stores) (λ i. earn season (suc i) before rung (get_or stocks i 0) (get_or week i 0)) (λ i. pos (unit * get_or (stocks_left stocks week) i 0)))
      (sum_of-le (length season.stores) (λ i. earn season (suc i) before rung (get_or stocks i 0) (get_or week i 0) +ℤ pos (unit * get_or (stocks_left stocks week) i 0)) (λ i. pos (unit * get_or stocks i 0))
      (λ i p. subst (λ r. (earn season (suc i) before rung (get_or stocks i 0) (get_or week i 0) +ℤ pos (unit * r)) ≤ℤ pos (unit * get_or stocks i 0)) (sym (of_store-stocks_left stocks week i)) (earn_high i before rung (get_or stocks i 0) (get_or week i 0) p low high)))

  constant : (n k : ℕ) → sum_of n (λ i. neg_ℤ (pos k)) ≡ neg_ℤ (pos (n * k))
  constant zero k = let none : 0 * k ≡ 0 = omega arith in ap (λ t. neg_ℤ (pos t)) (sym none)
  constant (suc n) k =
      let rest : sum_of n (λ i. neg_ℤ (pos k)) ≡ neg_ℤ (pos (n * k)) = constant n k in
      let more : suc n * k ≡ k + n * k = omega arith in
      let e : pos (suc n * k) ≡ pos k +ℤ pos (n * k) = ap pos more in
      omega (arith, linear)

  gains_low : (before rung : ℕ) (stocks week : List ℕ) → neg_ℤ (pos (length season.stores * unit)) ≤ℤ sum_stores season (λ store. earn season store before rung (of_store stocks store) (of_store week store))
  gains_low before rung stocks week =
      subst (λ t. t ≤ℤ sum_stores season (λ store. earn season store before rung (of_store stocks store) (of_store week store))) (constant (length season.stores) unit)
      (sum_of-le (length season.stores) (λ i. neg_ℤ (pos unit)) (λ i. earn season (suc i) before rung (get_or stocks i 0) (get_or week i 0)) (λ i p. earn_low i before rung (get_or stocks i 0) (get_or week i 0) p))

  module _ (leans : ℤ → ℤ → Type 0) (div : ℤ → ℕ → ℤ) (laws : IsDirection leans div) (some : 1 ≤ joint_base season) where
    pub value_high : (weeks : ℕ) (prefix stocks : List ℕ) → length prefix + weeks ≡ season.rules.weeks → IsTrue (is_live season.rules prefix) → joint_value div season weeks prefix stocks ≤ℤ worth stocks
    value_high zero prefix stocks long live =
        sum_of-le (length season.stores) (λ i. pos cent *ℤ salvage_cents season (suc i) (get_or stocks i 0)) (λ i. pos (unit * get_or stocks i 0))
        (λ i p.
        let holds = store_within season (suc i) is (omega arith) p in
        let units : cent * (store_at season (suc i)).salvage * get_or stocks i 0 ≤ unit * get_or stocks i 0 = mul-le-mul_right (get_or stocks i 0) (cents_most (store_at season (suc i)).salvage holds.salvage) in
        let grouped : cent * (store_at season (suc i)).salvage * get_or stocks i 0 ≡ cent * ((store_at season (suc i)).salvage * get_or stocks i 0) = mul_assoc cent (store_at season (suc i)).salvage (get_or stocks i 0) in
        let most : pos (cent * ((store_at season (suc i)).salvage * get_or stocks i 0)) ≤ℤ pos (unit * get_or stocks i 0) = omega (arith, linear) in
        most)
    value_high (suc weeks) prefix stocks long live =
        let gives : ℕ → ℤ = λ rung. joint_rung_value div season prefix rung stocks (λ rest. joint_value div season weeks (prefix ++ rung ∷ []) rest) in
        let rung : ℕ = first_best gives 1 (live_rungs season.rules prefix) in
        let next : IsTrue (is_live season.rules (prefix ++ rung ∷ [])) = best_live season prefix gives live (omega arith) in
        let range = live-rung season.rules prefix rung next in
        let size = natural (length season.stores) (λ i. unit * get_or stocks i 0) in
        let sum : joint_weighed season (length prefix) (last_rung prefix) rung stocks (λ week rest. joint_value div season weeks (prefix ++ rung ∷ []) rest) ≤ℤ (pos (joint_base season) *ℤ worth stocks)
        = weighed_most (joint_demands season) (week_chance season (suc (length prefix)) rung)
        (λ week. sum_stores season (λ store. earn season store (last_rung prefix) rung (of_store stocks store) (of_store week store)) +ℤ joint_value div season weeks (prefix ++ rung ∷ []) (stocks_left stocks week)) (worth stocks) (joint_base season)
        (λ week. week_chance-pos season (suc (length prefix)) rung week)
        (week_mass season (suc (length prefix)) rung is (omega arith) (omega arith) range.0 range.1)
        (λ week. higher _ _ (worth (stocks_left stocks week)) (worth stocks)
        (value_high weeks (prefix ++ rung ∷ []) (stocks_left stocks week) (weeks_after (length prefix) (length (prefix ++ rung ∷ [])) weeks season.rules.weeks (length_more prefix rung) long) next)
        (gains_high (last_rung prefix) rung stocks week range.0 range.1)) in
        subst (λ t. gives rung ≤ℤ t) (sym size.1)
        (quotient_high leans div laws _ (joint_base season) size.0 some (subst (λ t. joint_weighed season (length prefix) (last_rung prefix) rung stocks (λ week rest. joint_value div season weeks (prefix ++ rung ∷ []) rest) ≤ℤ (pos (joint_base season) *ℤ t)) size.1 sum))
      where
        higher : (gain value rest now : ℤ) → value ≤ℤ rest → (gain +ℤ rest) ≤ℤ now → (gain +ℤ value) ≤ℤ now
        higher gain value rest now p q = omega (arith, linear)

    pub value_low : (weeks : ℕ) (prefix stocks : List ℕ) → length prefix + weeks ≡ season.rules.weeks → IsTrue (is_live season.rules prefix) → neg_ℤ (pos (length season.stores * unit * weeks)) ≤ℤ joint_value div season weeks prefix stocks
    value_low zero prefix stocks long live =
        let none : length season.stores * unit * 0 ≡ 0 = omega arith in
        let start : neg_ℤ (pos (length season.stores * 0)) ≤ℤ sum_of (length season.stores) (λ i. pos cent *ℤ salvage_cents season (suc i) (get_or stocks i 0))
        = subst (λ t. t ≤ℤ sum_of (length season.stores) (λ i. pos cent *ℤ salvage_cents season (suc i) (get_or stocks i 0))) (constant (length season.stores) 0)
        (sum_of-le (length season.stores) (λ i. neg_ℤ (pos 0)) (λ i. pos cent *ℤ salvage_cents season (suc i) (get_or stocks i 0)) (λ i p. above (cent * ((store_at season (suc i)).salvage * get_or stocks i 0)))) in
        let nothing : length season.stores * 0 ≡ length season.stores * unit * 0 = omega arith in
        subst (λ n. neg_ℤ (pos n) ≤ℤ sum_of (length season.stores) (λ i. pos cent *ℤ salvage_cents season (suc i) (get_or stocks i 0))) nothing start
      where
        above : (n : ℕ) → neg_ℤ (pos 0) ≤ℤ pos n
        above n = omega (arith, linear)
    value_low (suc weeks) prefix stocks long live =
        let gives : ℕ → ℤ = λ rung. joint_rung_value div season prefix rung stocks (λ rest. joint_value div season weeks (prefix ++ rung ∷ []) rest) in
        let rung : ℕ = first_best gives 1 (live_rungs season.rules prefix) in
        let next : IsTrue (is_live season.rules (prefix ++ rung ∷ [])) = best_live season prefix gives live (omega arith) in
        let range = live-rung season.rules prefix rung next in
        let size : ℕ = length season.stores * unit * suc weeks in
        let sum : (pos (joint_base season) *ℤ neg_ℤ (pos size)) ≤ℤ joint_weighed season (length prefix) (last_rung prefix) rung stocks (λ week rest. joint_value div season weeks (prefix ++ rung ∷ []) rest)
        = weighed_least (joint_demands season) (week_chance season (suc (length prefix)) rung)
        (λ week. sum_stores season (λ store. earn season store (last_rung prefix) rung (of_store stocks store) (of_store week store)) +ℤ joint_value div season weeks (prefix ++ rung ∷ []) (stocks_left stocks week)) (neg_ℤ (pos size)) (joint_base season)
        (λ week. week_chance-pos season (suc (length prefix)) rung week)
        (week_mass season (suc (length prefix)) rung is (omega arith) (omega arith) range.0 range.1)
        (λ week. lower _ _ (length season.stores * unit) (length season.stores * unit * weeks) size (mul-suc (length season.stores * unit) weeks)
        (gains_low (last_rung prefix) rung stocks week)
        (value_low weeks (prefix ++ rung ∷ []) (stocks_left stocks week) (weeks_after (length prefix) (length (prefix ++ rung ∷ [])) weeks season.rules.weeks (length_more prefix rung) long) next)) in
        quotient_low leans div laws _ (joint_base season) size some (subst (λ t. t ≤ℤ joint_weighed season (length prefix) (last_rung prefix) rung stocks (λ week rest. joint_value div season weeks (prefix ++ rung ∷ []) rest)) (turn (joint_base season) size) sum)
      where
        lower : (gain value : ℤ) (a b c : ℕ) → c ≡ b + a → neg_ℤ (pos a) ≤ℤ gain → neg_ℤ (pos b) ≤ℤ value → neg_ℤ (pos c) ≤ℤ (gain +ℤ value)
        lower gain value a b c e p q = let split : pos c ≡ pos b +ℤ pos a = ap pos e in omega (arith, linear)
