-- The bound of a prefix, over the obeying paths that begin with it.
use Rattle.std.proofs.Common.{◌≡◌, ℕ, ◌+◌, ◌-◌, ◌*◌, ◌<◌, ◌≤◌, ℤ, pos, ◌+ℤ◌, ◌*ℤ◌, ◌≤ℤ◌, refl, sym, ap, ap₂, ◌∙◌, subst, subst₂, arith, suc, zero, List, [], ◌∷◌, ◌++◌, length, length-append, get_or, IsTrue, append_assoc, append-nil}
use Rattle.std.specs.List.{AllByRecursion}
use Rattle.std.proofs.lemmas.Int.{by_lt_z}
use lib.IntN.{*ℤ_comm}
use Rattle.clr_num.specs.Rounding.{floor, ceil}
use Rattle.clr_num.specs.DirectionLaws.{floor_is_direction, ceil_is_direction}
use Rattle.clr_rules.specs.Rules.{obeys, is_live, live_rungs}
use Rattle.clr_rules.proofs.LiveLemmas.{live_before, live-rung, obeys-length, All-live_rungs, rungs_of}
use Rattle.clr_season.specs.Season.{Season, IsSeason, demands, weight}
use Rattle.clr_num.specs.Sums.{sum_over, sum_of, first_best}
use Rattle.clr_model.specs.Revenue.{cent, left, earn, salvage_cents, sum_stores, of_store, full_stocks}
use Rattle.clr_model.specs.PathValue.{weighed, path_value, path_value_to, path_low}
use Rattle.clr_model.specs.StoreValue.{Multipliers, SumToZero, last_rung, rung_value, store_value}
use Rattle.clr_model.specs.PrefixBound.{PrefixBounds}
use Rattle.clr_average.proofs.Ring.{linear, add_mul, mul_add, scale_le, scale_le_right}
use Rattle.clr_average.proofs.Sums.{sum_over-add, sum_over-scale_right}
use Rattle.clr_model.proofs.Sums.{sum_over-le, All-every, sum_of-le, sum_of-add}
use Rattle.clr_model.proofs.Weeks.{store_mass}
use Rattle.clr_model.proofs.Abiding.{length_more, last_rung_more}
use Rattle.clr_model.proofs.Best.{first_best-greatest}

-- the multipliers along a path, from a week on
abbrev mult_sum : Multipliers → ℕ → ℕ → List ℕ → ℤ
mult_sum m store done [] = pos 0
mult_sum m store done (rung ∷ path) = m store (suc done) rung +ℤ mult_sum m store (suc done) path

-- a factor of at least 1 may be cut, up to less than one
cut_up : (low high shift : ℤ) (base : ℕ) → ((low +ℤ shift) *ℤ pos base) ≤ℤ (high *ℤ pos base) → 1 ≤ base → (low +ℤ shift) ≤ℤ high
cut_up low high shift base h some =
    by_lt_z high (low +ℤ shift)
    (λ l. let more : (high +ℤ pos 1) ≤ℤ (low +ℤ shift) = omega (arith, linear) in
    let scaled : ((high +ℤ pos 1) *ℤ pos base) ≤ℤ ((low +ℤ shift) *ℤ pos base) = scale_le_right base (high +ℤ pos 1) (low +ℤ shift) more in
    let spread : (high +ℤ pos 1) *ℤ pos base ≡ high *ℤ pos base +ℤ pos 1 *ℤ pos base = add_mul high (pos 1) (pos base) in
    let one : pos 1 *ℤ pos base ≡ pos base = ap pos (once base) in
    absurd (none (omega (arith, linear)) some))
    (λ l. l)
  where
    once : (b : ℕ) → 1 * b ≡ b
    once b = omega arith

    none : pos base ≤ℤ pos 0 → 1 ≤ base → ⊥
    none h s = omega (arith, linear)

-- one week: values below others by a fixed number stay so when they are rounded
module _ (season : Season) (i done before rung stock : ℕ) (ok : IsSeason season) (here : i < length season.stores) (week : suc done ≤ season.rules.weeks) (first : 1 ≤ rung) (last : rung ≤ length season.rules.prices) where
  weighed-shift : (f g : ℕ → ℤ) (shift : ℤ) → ((x : ℕ) → (f x +ℤ shift) ≤ℤ g x) → (weighed season (suc i) done before rung stock f +ℤ shift *ℤ pos season.base) ≤ℤ weighed season (suc i) done before rung stock g
  weighed-shift f g shift h =
      subst (λ t. t ≤ℤ weighed season (suc i) done before rung stock g) total
      (sum_over-le (demands season) (λ d. w d *ℤ (e d +ℤ f (left stock d)) +ℤ w d *ℤ shift) (λ d. w d *ℤ (e d +ℤ g (left stock d)))
      (All-every _ (demands season) (λ d. subst (λ t. t ≤ℤ (w d *ℤ (e d +ℤ g (left stock d)))) (mul_add (w d) (e d +ℤ f (left stock d)) shift)
      (scale_le (weight season (suc i) (suc done) rung d) (e d +ℤ f (left stock d) +ℤ shift) (e d +ℤ g (left stock d)) (wider (e d) (f (left stock d)) (g (left stock d)) (h (left stock d)))))))
    where
      w : ℕ → ℤ
      w d = pos (weight season (suc i) (suc done) rung d)

      e : ℕ → ℤ
      e d = earn season (suc i) before rung stock d

      wider : (e f g : ℤ) → (f +ℤ shift) ≤ℤ g → (e +ℤ f +ℤ shift) ≤ℤ (e +ℤ g)
      wider e f g h = omega (arith, linear)

      total : sum_over (demands season) (λ d. w d *ℤ (e d +ℤ f (left stock d)) +ℤ w d *ℤ shift) ≡ weighed season (suc i) done before rung stock f +ℤ shift *ℤ pos season.base
      total = sum_over-add (demands season) (λ d. w d *ℤ (e d +ℤ f (left stock d))) (λ d. w d *ℤ shift)
          ∙ ap (λ t. weighed season (suc i) done before rung stock f +ℤ t) (sum_over-scale_right (demands season) shift w ∙ (ap (λ t. t *ℤ shift) (store_mass season (suc done) rung ok (omega arith) week first last i here) ∙ *ℤ_comm (pos season.base) shift))

  pub rounded-shift : (f g : ℕ → ℤ) (shift : ℤ) → ((x : ℕ) → (f x +ℤ shift) ≤ℤ g x) →
      (floor (weighed season (suc i) done before rung stock f) season.base +ℤ shift) ≤ℤ ceil (weighed season (suc i) done before rung stock g) season.base
  rounded-shift f g shift h =
      let sums : (weighed season (suc i) done before rung stock f +ℤ shift *ℤ pos season.base) ≤ℤ weighed season (suc i) done before rung stock g = weighed-shift f g shift h in
      let below : (floor (weighed season (suc i) done before rung stock f) season.base *ℤ pos season.base) ≤ℤ weighed season (suc i) done before rung stock f = floor_is_direction.divides _ season.base ok.least_base in
      let above : weighed season (suc i) done before rung stock g ≤ℤ (ceil (weighed season (suc i) done before rung stock g) season.base *ℤ pos season.base) = ceil_is_direction.divides _ season.base ok.least_base in
      cut (floor (weighed season (suc i) done before rung stock f) season.base) (ceil (weighed season (suc i) done before rung stock g) season.base) (weighed season (suc i) done before rung stock f) (weighed season (suc i) done before rung stock g) sums below above
    where
      cut : (low high down up : ℤ) → (down +ℤ shift *ℤ pos season.base) ≤ℤ up → (low *ℤ pos season.base) ≤ℤ down → up ≤ℤ (high *ℤ pos season.base) → (low +ℤ shift) ≤ℤ high
      cut low high down up p q r =
          let spread : (low +ℤ shift) *ℤ pos season.base ≡ low *ℤ pos season.base +ℤ shift *ℤ pos season.base = add_mul low shift (pos season.base) in
          cut_up low high shift season.base (omega (arith, linear)) ok.least_base

module _ (season : Season) (m : Multipliers) (ok : IsSeason season) where
  -- after a live prefix: a rest's low value and its multipliers are at most the store's value
  pub rest_below : (i : ℕ) (prefix rest : List ℕ) (stock : ℕ) → i < length season.stores → IsTrue (obeys season.rules (prefix ++ rest)) →
      (path_value floor season (suc i) (length prefix) (last_rung prefix) rest stock +ℤ mult_sum m (suc i) (length prefix) rest) ≤ℤ store_value ceil m season (suc i) (length rest) prefix stock
  rest_below i prefix [] stock here good = nothing (pos cent *ℤ salvage_cents season (suc i) stock)
    where
      nothing : (a : ℤ) → (a +ℤ pos 0) ≤ℤ a
      nothing a = omega (arith, linear)
  rest_below i prefix (rung ∷ rest) stock here good =
      let live : IsTrue (is_live season.rules (prefix ++ rung ∷ [])) = live_before season.rules prefix rest rung good in
      let range = live-rung season.rules prefix rung live in
      let after : (x : ℕ) → (path_value floor season (suc i) (suc (length prefix)) rung rest x +ℤ mult_sum m (suc i) (suc (length prefix)) rest) ≤ℤ store_value ceil m season (suc i) (length rest) (prefix ++ rung ∷ []) x
      = λ x. subst₂ (λ done before. (path_value floor season (suc i) done before rest x +ℤ mult_sum m (suc i) done rest) ≤ℤ store_value ceil m season (suc i) (length rest) (prefix ++ rung ∷ []) x) (length_more prefix rung) (last_rung_more prefix rung)
      (rest_below i (prefix ++ rung ∷ []) rest x here (ap (obeys season.rules) (append_assoc prefix (rung ∷ []) rest) ∙ good)) in
      let value_of : ℕ → ℤ = λ r. rung_value ceil m season (suc i) prefix r stock (λ x. store_value ceil m season (suc i) (length rest) (prefix ++ r ∷ []) x) in
      join _ _ (m (suc i) (suc (length prefix)) rung) (mult_sum m (suc i) (suc (length prefix)) rest) _
      (rounded-shift season i (length prefix) (last_rung prefix) rung stock ok here (short (obeys-length season.rules (prefix ++ (rung ∷ rest)) good) (length-append prefix (rung ∷ rest))) range.0 range.1
      (λ x. path_value floor season (suc i) (suc (length prefix)) rung rest x) (λ x. store_value ceil m season (suc i) (length rest) (prefix ++ rung ∷ []) x) (mult_sum m (suc i) (suc (length prefix)) rest) after)
      (All-live_rungs season.rules prefix (λ r. value_of r ≤ℤ value_of (first_best value_of 1 (live_rungs season.rules prefix))) rung live (first_best-greatest value_of 1 (live_rungs season.rules prefix)))
    where
      short : length (prefix ++ (rung ∷ rest)) ≡ season.rules.weeks → length (prefix ++ (rung ∷ rest)) ≡ length prefix + suc (length rest) → suc (length prefix) ≤ season.rules.weeks
      short p q = omega arith

      join : (low high mult shift now : ℤ) → (low +ℤ shift) ≤ℤ high → (high +ℤ mult) ≤ℤ now → (low +ℤ (mult +ℤ shift)) ≤ℤ now
      join low high mult shift now p q = omega (arith, linear)

  -- along the prefix: `before` is what was walked so far
  pub walk_below : (i : ℕ) (walked ahead rest : List ℕ) (stock : ℕ) → i < length season.stores → IsTrue (obeys season.rules (walked ++ (ahead ++ rest))) →
      (path_value floor season (suc i) (length walked) (last_rung walked) (ahead ++ rest) stock +ℤ mult_sum m (suc i) (length (walked ++ ahead)) rest)
      ≤ℤ path_value_to ceil (store_value ceil m season (suc i) (length rest) (walked ++ ahead)) season (suc i) (length walked) (last_rung walked) ahead stock
  walk_below i walked [] rest stock here good =
      subst (λ p. (path_value floor season (suc i) (length walked) (last_rung walked) rest stock +ℤ mult_sum m (suc i) (length p) rest) ≤ℤ store_value ceil m season (suc i) (length rest) p stock) (sym (append-nil walked))
      (rest_below i walked rest stock here good)
  walk_below i walked (rung ∷ ahead) rest stock here good =
      let longer : IsTrue (obeys season.rules ((walked ++ rung ∷ []) ++ (ahead ++ rest))) = ap (obeys season.rules) (append_assoc walked (rung ∷ []) (ahead ++ rest)) ∙ good in
      let live : IsTrue (is_live season.rules (walked ++ rung ∷ [])) = live_before season.rules walked (ahead ++ rest) rung good in
      let range = live-rung season.rules walked rung live in
      let same : (walked ++ rung ∷ []) ++ ahead ≡ walked ++ (rung ∷ ahead) = append_assoc walked (rung ∷ []) ahead in
      let after : (x : ℕ) → (path_value floor season (suc i) (suc (length walked)) rung (ahead ++ rest) x +ℤ mult_sum m (suc i) (length (walked ++ (rung ∷ ahead))) rest)
      ≤ℤ path_value_to ceil (store_value ceil m season (suc i) (length rest) (walked ++ (rung ∷ ahead))) season (suc i) (suc (length walked)) rung ahead x
      = λ x. subst (λ p. (path_value floor season (suc i) (suc (length walked)) rung (ahead ++ rest) x +ℤ mult_sum m (suc i) (length p) rest) ≤ℤ path_value_to ceil (store_value ceil m season (suc i) (length rest) p) season (suc i) (suc (length walked)) rung ahead x) same
      (subst₂ (λ done before. (path_value floor season (suc i) done before (ahead ++ rest) x +ℤ mult_sum m (suc i) (length ((walked ++ rung ∷ []) ++ ahead)) rest) ≤ℤ path_value_to ceil (store_value ceil m season (suc i) (length rest) ((walked ++ rung ∷ []) ++ ahead)) season (suc i) done before ahead x) (length_more walked rung) (last_rung_more walked rung)
      (walk_below i (walked ++ rung ∷ []) ahead rest x here longer)) in
      rounded-shift season i (length walked) (last_rung walked) rung stock ok here (short (obeys-length season.rules (walked ++ (rung ∷ (ahead ++ rest))) good) (length-append walked (rung ∷ (ahead ++ rest)))) range.0 range.1
      (λ x. path_value floor season (suc i) (suc (length walked)) rung (ahead ++ rest) x) (λ x. path_value_to ceil (store_value ceil m season (suc i) (length rest) (walked ++ (rung ∷ ahead))) season (suc i) (suc (length walked)) rung ahead x) (mult_sum m (suc i) (length (walked ++ (rung ∷ ahead))) rest) after
    where
      short : length (walked ++ (rung ∷ (ahead ++ rest))) ≡ season.rules.weeks → length (walked ++ (rung ∷ (ahead ++ rest))) ≡ length walked + suc (length (ahead ++ rest)) → suc (length walked) ≤ season.rules.weeks
      short p q = omega arith

-- ---- all stores: the multipliers along a path sum to zero

sums_vanish : (season : Season) (m : Multipliers) (done : ℕ) (path : List ℕ) → SumToZero season m → done + length path ≤ season.rules.weeks → AllByRecursion (λ rung. (1 ≤ rung) × (rung ≤ length season.rules.prices)) path →
    sum_of (length season.stores) (λ i. mult_sum m (suc i) done path) ≡ pos 0
sums_vanish season m done [] zero_sums fits all = none (length season.stores)
  where
    none : (n : ℕ) → sum_of n (λ i. pos 0) ≡ pos 0
    none zero = refl
    none (suc n) = ap (λ t. pos 0 +ℤ t) (none n)
sums_vanish season m done (rung ∷ path) zero_sums fits all =
    sum_of-add (length season.stores) (λ i. m (suc i) (suc done) rung) (λ i. mult_sum m (suc i) (suc done) path)
    ∙ ap₂ ◌+ℤ◌ (zero_sums (suc done) rung (omega arith) (omega arith) all.0.0 all.0.1) (sums_vanish season m (suc done) path zero_sums (omega arith) all.1)

pub prefix_bounds_lem : PrefixBounds
prefix_bounds_lem season m prefix rest ok zero_sums good =
    let n : ℕ = length season.stores in
    let each : (i : ℕ) → i < n → (path_value floor season (suc i) 0 1 (prefix ++ rest) (get_or (full_stocks season) i 0) +ℤ mult_sum m (suc i) (length prefix) rest) ≤ℤ path_value_to ceil (store_value ceil m season (suc i) (length rest) prefix) season (suc i) 0 1 prefix (get_or (full_stocks season) i 0)
    = λ i p. walk_below season m ok i [] prefix rest (get_or (full_stocks season) i 0) p good in
    let all = sum_of-le n (λ i. path_value floor season (suc i) 0 1 (prefix ++ rest) (get_or (full_stocks season) i 0) +ℤ mult_sum m (suc i) (length prefix) rest) (λ i. path_value_to ceil (store_value ceil m season (suc i) (length rest) prefix) season (suc i) 0 1 prefix (get_or (full_stocks season) i 0)) each in
    let added = sum_of-add n (λ i. path_value floor season (suc i) 0 1 (prefix ++ rest) (get_or (full_stocks season) i 0)) (λ i. mult_sum m (suc i) (length prefix) rest) in
    let vanish : sum_of n (λ i. mult_sum m (suc i) (length prefix) rest) ≡ pos 0 = sums_vanish season m (length prefix) rest zero_sums (fits (obeys-length season.rules (prefix ++ rest) good) (length-append prefix rest)) (rungs_of season.rules prefix rest good) in
    subst (λ k. path_low season (prefix ++ rest) ≤ℤ sum_stores season (λ store. path_value_to ceil (store_value ceil m season store k prefix) season store 0 1 prefix (of_store (full_stocks season) store))) (sym (left_over (obeys-length season.rules (prefix ++ rest) good) (length-append prefix rest)))
    (finish _ _ _ _ added vanish all)
  where
    fits : length (prefix ++ rest) ≡ season.rules.weeks → length (prefix ++ rest) ≡ length prefix + length rest → length prefix + length rest ≤ season.rules.weeks
    fits p q = omega arith

    left_over : length (prefix ++ rest) ≡ season.rules.weeks → length (prefix ++ rest) ≡ length prefix + length rest → season.rules.weeks - length prefix ≡ length rest
    left_over p q = omega arith

    finish : (low mult both high : ℤ) → both ≡ low +ℤ mult → mult ≡ pos 0 → both ≤ℤ high → low ≤ℤ high
    finish low mult both high p q r = omega (arith, linear)
