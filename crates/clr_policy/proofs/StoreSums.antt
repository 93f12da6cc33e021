-- The sums over a store's demands, by a season.
use Rattle.std.proofs.Common.{◌≡◌, ℕ, suc, ◌+◌, ◌-◌, ◌*◌, ◌≤◌, ◌<◌, min, ℤ, pos, ◌+ℤ◌, ◌-ℤ◌, ◌*ℤ◌, refl, sym, ap, ap₂, ◌∙◌, subst, arith, List, length, sum, mul-le-mul, Bool, true, false}
use Rattle.std.specs.Prelude.{nat_le}
use Rattle.clr_num.specs.Lists.{numbers}
use Rattle.clr_num.specs.Sums.{sum_over}
use Rattle.clr_rules.specs.Rules.{price}
use Rattle.clr_rules.proofs.GridLemmas.{split_place}
use Rattle.clr_average.specs.Average.{IsWithin}
use Rattle.clr_average.proofs.Ring.{linear, add_mul, mul_add}
use Rattle.clr_average.proofs.Sums.{sum_over-same}
use Rattle.clr_average.proofs.Within.{within_sum}
use Rattle.clr_season.specs.Season.{Season, IsSeason, weights_of, weight, demands}
use Rattle.clr_model.specs.Revenue.{cent, earn, fee, week_cents, left}
use Rattle.clr_policy.specs.StockLists.{AreSmall, AllWithin, at_place, gain_of, most_gain, most_total, part, stock_sum, store_sum}
use Rattle.clr_policy.proofs.StockSums.{sum_within}

-- ---- what is earned

scaled : (cents sold f scale : ℕ) → pos ((cent * cents * scale) * sold) -ℤ pos (cent * f * scale) ≡ (pos cent *ℤ (pos (cents * sold) -ℤ pos f)) *ℤ pos scale
scaled cents sold f scale =
    let z : ℤ = pos (cents * sold) -ℤ pos f in
    let whole : z +ℤ pos f ≡ pos (cents * sold) = minus_plus (cents * sold) f in
    let once : pos cent *ℤ z +ℤ pos cent *ℤ pos f ≡ pos cent *ℤ pos (cents * sold) = sym (mul_add (pos cent) z (pos f)) ∙ ap (λ t. pos cent *ℤ t) whole in
    let twice : (pos cent *ℤ z) *ℤ pos scale +ℤ (pos cent *ℤ pos f) *ℤ pos scale ≡ (pos cent *ℤ pos (cents * sold)) *ℤ pos scale = sym (add_mul (pos cent *ℤ z) (pos cent *ℤ pos f) (pos scale)) ∙ ap (λ t. t *ℤ pos scale) once in
    let order : pos ((cent * cents * scale) * sold) ≡ (pos cent *ℤ pos (cents * sold)) *ℤ pos scale = ap pos (turned cent cents scale sold) in
    from_sum ((pos cent *ℤ z) *ℤ pos scale) (pos ((cent * cents * scale) * sold)) (pos (cent * f * scale)) (twice ∙ sym order)
  where
    minus_plus : (a b : ℕ) → (pos a -ℤ pos b) +ℤ pos b ≡ pos a
    minus_plus a b = omega (arith, linear)

    turned : (c p s k : ℕ) → (c * p * s) * k ≡ (c * (p * k)) * s
    turned c p s k = omega arith

    from_sum : (x a b : ℤ) → x +ℤ b ≡ a → a -ℤ b ≡ x
    from_sum x a b h = omega (arith, linear)

pub gain_scaled : (season : Season) (store before rung stock demand unit cost scale : ℕ) → unit ≡ cent * price season.rules rung * scale → cost ≡ cent * fee season store before rung * scale →
    gain_of unit cost (min stock demand) ≡ earn season store before rung stock demand *ℤ pos scale
unfolding week_cents
gain_scaled season store before rung stock demand unit cost scale unit_is cost_is =
    ap₂ (λ u c. pos (u * min stock demand) -ℤ pos c) unit_is cost_is ∙ scaled (price season.rules rung) (min stock demand) (fee season store before rung) scale

pub sum_of_store : (season : Season) (done before rung store scale unit cost width stock place : ℕ) (values : List ℤ) → length (weights_of season store (suc done) rung) ≡ suc season.top →
    unit ≡ cent * price season.rules rung * scale → cost ≡ cent * fee season store before rung * scale →
    stock_sum (weights_of season store (suc done) rung) unit cost values width stock place ≡ store_sum season done before rung store scale values width stock place
sum_of_store season done before rung store scale unit cost width stock place values size unit_is cost_is =
    ap (λ n. sum_over (numbers 0 n) (λ demand. pos (weight season store (suc done) rung demand) *ℤ part values unit cost width stock place (min stock demand))) size
    ∙ sum_over-same (demands season) _ _ (λ demand. ap (λ t. pos (weight season store (suc done) rung demand) *ℤ (at_place values (left stock demand * width + place) +ℤ t)) (gain_scaled season store before rung stock demand unit cost scale unit_is cost_is))

-- ---- sizes

gain_low : (a b most : ℕ) → a ≤ most → b ≤ most → IsWithin most (pos a -ℤ pos b)
gain_low a b most p q = record { low = omega (arith, linear); high = omega (arith, linear) }

pub gain_within : (unit cost scale sold : ℕ) → unit ≤ 10000000000000 * scale → cost ≤ 10000000000000 * scale → sold ≤ 2000 → IsWithin (most_gain * scale) (gain_of unit cost sold)
gain_within unit cost scale sold u c few =
    let all : unit * sold ≤ (10000000000000 * scale) * 2000 = mul-le-mul u few in
    gain_low (unit * sold) cost (most_gain * scale) (omega (arith, all)) (omega (arith, c))

-- ---- the stocks of a store, from the greatest down

pub record IsWeighed (season : Season) (done before rung store scale width units stock : ℕ) (earlier now : List ℤ) : Type 0 where
  pub size : length now ≡ length earlier
  pub each : (x p : ℕ) → stock ≤ x → x ≤ units → p < width → at_place now (x * width + p) ≡ store_sum season done before rung store scale earlier width x p
  pub rest : (k : ℕ) → k < stock * width → at_place now k ≡ at_place earlier k

module _ (season : Season) (done before rung store scale width unit cost base limit : ℕ) (earlier now : List ℤ) where
  abbrev weights : List ℕ
  weights = weights_of season store (suc done) rung

  row_below : (stock sold place : ℕ) → place < width → (stock - sold) * width + place < (stock + 1) * width
  row_below stock sold place lt =
      let most : (stock - sold) * width ≤ stock * width = mul-le-mul (omega arith) (omega arith) in
      let split : (stock + 1) * width ≡ stock * width + width = omega arith in
      omega (arith, most, split, lt)

  same_below : (stock sold place : ℕ) → place < width → ((k : ℕ) → k < (stock + 1) * width → at_place now k ≡ at_place earlier k) → part now unit cost width stock place sold ≡ part earlier unit cost width stock place sold
  same_below stock sold place lt same = ap (λ t. t +ℤ gain_of unit cost sold) (same ((stock - sold) * width + place) (row_below stock sold place lt))

  -- what a stock's row finds is small enough
  pub row_small : (reach units stock place : ℕ) → IsSeason season → length weights ≡ suc season.top → sum weights ≡ season.base →
      AllWithin reach earlier → length earlier ≡ (units + 1) * width → stock ≤ units → units ≤ 2000 → place < width → unit ≤ 10000000000000 * scale → cost ≤ 10000000000000 * scale → season.base * (reach + most_gain * scale) ≤ most_total →
      ((k : ℕ) → k < (stock + 1) * width → at_place now k ≡ at_place earlier k) →
      AreSmall season.base (reach + most_gain * scale) weights unit cost width stock place now
  row_small reach units stock place ok count whole all size low few lt u c fits same = record {
    based = ok.least_base;
    whole = whole;
    some = omega (arith, count);
    each = λ sold le. subst (λ t. IsWithin (reach + most_gain * scale) t) (sym (same_below stock sold place lt same))
        (within_sum reach (most_gain * scale) _ _ (all ((stock - sold) * width + place) (inside sold)) (gain_within unit cost scale sold u c (omega (arith, le, low, few))));
    fits = fits;
  }
    where
      inside : (sold : ℕ) → (stock - sold) * width + place < length earlier
      inside sold =
          let here = row_below stock sold place lt in
          let most : (stock + 1) * width ≤ (units + 1) * width = mul-le-mul (omega (arith, low)) (omega arith) in
          omega (arith, here, most, size)

  pub one_stock_more : (units stock : ℕ) (new : List ℤ) → IsWeighed season done before rung store scale width units (stock + 1) earlier now → length weights ≡ suc season.top →
      unit ≡ cent * price season.rules rung * scale → cost ≡ cent * fee season store before rung * scale → length new ≡ length now →
      ((place : ℕ) → place < width → at_place new (stock * width + place) ≡ stock_sum weights unit cost now width stock place) →
      ((k : ℕ) → k < stock * width → at_place new k ≡ at_place now k) → ((k : ℕ) → stock * width + width ≤ k → at_place new k ≡ at_place now k) →
      IsWeighed season done before rung store scale width units stock earlier new
  one_stock_more units stock new way count unit_is cost_is size row low high = record {
    size = size ∙ way.size;
    each = λ x p from to lt. by_stock x p (nat_le x stock) refl from to lt;
    rest = λ k lt. low k lt ∙ way.rest k (omega (arith, lt, more));
  }
    where
      more : (stock + 1) * width ≡ stock * width + width
      more = omega arith

      by_stock : (x p : ℕ) (b : Bool) → nat_le x stock ≡ b → stock ≤ x → x ≤ units → p < width → at_place new (x * width + p) ≡ store_sum season done before rung store scale earlier width x p
      by_stock x p false is from to lt =
          let after : stock + 1 ≤ x = grind (arith, is) in
          let beyond : (stock + 1) * width ≤ x * width = mul-le-mul after (omega arith) in
          high (x * width + p) (omega (arith, beyond, more)) ∙ way.each x p after to lt
      by_stock x p true is from to lt =
          let here : stock ≡ x = grind (arith, is, from) in
          subst (λ y. at_place new (y * width + p) ≡ store_sum season done before rung store scale earlier width y p) here
          (row p lt
          ∙ (sum_over-same (numbers 0 (length (weights_of season store (suc done) rung))) _ _ (λ demand. ap (λ t. pos (weight season store (suc done) rung demand) *ℤ t) (same_below stock (min stock demand) p lt way.rest))
          ∙ sum_of_store season done before rung store scale unit cost width stock p earlier count unit_is cost_is))

  pub all_within : (reach units : ℕ) → IsSeason season → length weights ≡ suc season.top → sum weights ≡ season.base → AllWithin reach earlier → length earlier ≡ (units + 1) * width → units ≤ 2000 →
      unit ≤ 10000000000000 * scale → cost ≤ 10000000000000 * scale → unit ≡ cent * price season.rules rung * scale → cost ≡ cent * fee season store before rung * scale →
      season.base * (reach + most_gain * scale) ≤ most_total → IsWeighed season done before rung store scale width units 0 earlier now → AllWithin (season.base * (reach + most_gain * scale)) now
  all_within reach units ok count whole all size few u c unit_is cost_is fits way k lt =
      let (x, p, x_lt, p_lt, k_is) = split_place (units + 1) width k (omega (arith, lt, way.size, size)) in
      rw k_is
      (subst (λ t. IsWithin (season.base * (reach + most_gain * scale)) t)
      (sum_of_store season done before rung store scale unit cost width x p earlier count unit_is cost_is ∙ sym (way.each x p (omega arith) (omega (arith, x_lt)) p_lt))
      (sum_within (weights_of season store (suc done) rung) unit cost earlier width x p season.base (reach + most_gain * scale)
      (small x p x_lt p_lt) (omega (arith, x_lt, few))))
    where
      small : (x p : ℕ) → x < units + 1 → p < width → AreSmall season.base (reach + most_gain * scale) (weights_of season store (suc done) rung) unit cost width x p earlier
      small x p x_lt p_lt = record {
        based = ok.least_base;
        whole = whole;
        some = omega (arith, count);
        each = λ sold le. within_sum reach (most_gain * scale) _ _ (all ((x - sold) * width + p) (inside sold)) (gain_within unit cost scale sold u c (omega (arith, le, x_lt, few)));
        fits = fits;
      }
        where
          inside : (sold : ℕ) → (x - sold) * width + p < length earlier
          inside sold =
              let here = row_below x sold p p_lt in
              let most : (x + 1) * width ≤ (units + 1) * width = mul-le-mul (omega (arith, x_lt)) (omega arith) in
              omega (arith, here, most, size)
