-- How large the values of a store can be under multipliers of at most 10^16 in size.
use Rattle.std.proofs.Common.{◌≡◌, ℕ, zero, suc, ◌+◌, ◌*◌, ◌≤◌, ◌<◌, min, ℤ, pos, neg_ℤ, ◌+ℤ◌, ◌-ℤ◌, ◌*ℤ◌, ◌≤ℤ◌, ◌==◌, Bool, true, false, cond, List, [], ◌∷◌, ◌++◌, length, arith, refl, ap, sym, ◌∙◌, subst, mul_assoc, mul-add, mul-le-mul_right}
use Rattle.std.specs.List.{AllByRecursion}
use Rattle.clr_num.specs.Direction.{IsDirection}
use Rattle.clr_num.specs.Sums.{sum_over, first_best}
use Rattle.clr_rules.specs.Rules.{is_live, live_rungs, rungs, price}
use Rattle.clr_rules.proofs.ListTests.{All-filter}
use Rattle.clr_rules.proofs.LiveLemmas.{All-live_rungs, live-next, live-rung}
use Rattle.clr_season.specs.Season.{Season, IsPlace, IsSeason, demands, store_at, weight}
use Rattle.clr_average.specs.Average.{IsWithin}
use Rattle.clr_average.proofs.Ring.{linear, scale_le}
use Rattle.clr_average.proofs.Sums.{sum_over-scale_right}
use Rattle.clr_average.proofs.Within.{quotient_high, quotient_low}
use Rattle.clr_model.specs.PathValue.{weighed}
use Rattle.clr_model.specs.Revenue.{cent, earn, fee, left, week_cents}
use Rattle.clr_model.specs.StoreValue.{Multipliers, last_rung, rung_value, store_value}
use Rattle.clr_model.proofs.Abiding.{length_more}
use Rattle.clr_model.proofs.Best.{first_best-among}
use Rattle.clr_model.proofs.Rows.{turn}
use Rattle.clr_model.proofs.Sizes.{store_within}
use Rattle.clr_model.proofs.Sums.{All-every, All-imply, sum_over-le}
use Rattle.clr_model.proofs.Weeks.{store_mass}

-- multipliers of at most 10^16 in size
abbrev pub SmallMultipliers : Season → Multipliers → Type 0
SmallMultipliers season m = (store week rung : ℕ) → IsPlace season store week rung → IsWithin 10000000000000000 (m store week rung)

-- the most that a unit earns, and that relabelling costs
abbrev unit : ℕ
unit = 10000000000000

-- by how much a week may move a value, but for what its units earn
abbrev pub swing : ℕ
swing = 10010000000000000

each_le : (xs : List ℕ) (f g : ℕ → ℤ) → ((x : ℕ) → f x ≤ℤ g x) → sum_over xs f ≤ℤ sum_over xs g
each_le xs f g h = sum_over-le xs f g (All-every _ xs h)

price_most : (season : Season) (rung : ℕ) → IsSeason season → 1 ≤ rung → rung ≤ length season.rules.prices → price season.rules rung ≤ 10000000
price_most season zero is low high = absurd (omega arith)
price_most season (suc i) is low high = is.rules.ladder.most i (omega arith)

cents_most : (cents : ℕ) → cents ≤ 10000000 → cent * cents ≤ unit
unfolding cent
cents_most cents le = omega (arith, le)

module _ (leans : ℤ → ℤ → Type 0) (div : ℤ → ℕ → ℤ) (laws : IsDirection leans div) (m : Multipliers) (season : Season) (i : ℕ) (is : IsSeason season) (last : i < length season.stores) (small : SmallMultipliers season m) where
  fee_most : (before rung : ℕ) → cent * fee season (suc i) before rung ≤ unit
  fee_most before rung = by_test (rung == before)
    where
      by_test : (same : Bool) → cent * (cond same 0 (store_at season (suc i)).relabel) ≤ unit
      by_test true = let none : cent * 0 ≡ 0 = omega arith in omega (arith, none)
      by_test false = cents_most (store_at season (suc i)).relabel (store_within season (suc i) is (omega arith) last).relabel

  earn_high : (before rung stock demand : ℕ) → 1 ≤ rung → rung ≤ length season.rules.prices → earn season (suc i) before rung stock demand ≤ℤ pos (unit * min stock demand)
  unfolding week_cents
  earn_high before rung stock demand low high =
      let sold : ℕ = min stock demand in
      let paid : ℕ = price season.rules rung in
      let most : (pos cent *ℤ (pos (paid * sold) -ℤ pos (fee season (suc i) before rung))) ≤ℤ pos (cent * (paid * sold)) = scale_le cent (pos (paid * sold) -ℤ pos (fee season (suc i) before rung)) (pos (paid * sold)) (omega (arith, linear)) in
      let units : cent * paid * sold ≤ unit * sold = mul-le-mul_right sold (cents_most paid (price_most season rung is low high)) in
      let grouped : cent * paid * sold ≡ cent * (paid * sold) = mul_assoc cent paid sold in
      omega (arith, linear)

  earn_low : (before rung stock demand : ℕ) → neg_ℤ (pos unit) ≤ℤ earn season (suc i) before rung stock demand
  unfolding week_cents
  earn_low before rung stock demand =
      let paid : ℕ = price season.rules rung * min stock demand in
      let least : (pos cent *ℤ neg_ℤ (pos (fee season (suc i) before rung))) ≤ℤ (pos cent *ℤ (pos paid -ℤ pos (fee season (suc i) before rung))) = scale_le cent (neg_ℤ (pos (fee season (suc i) before rung))) (pos paid -ℤ pos (fee season (suc i) before rung)) (omega (arith, linear)) in
      let turned : pos cent *ℤ neg_ℤ (pos (fee season (suc i) before rung)) ≡ neg_ℤ (pos (cent * fee season (suc i) before rung)) = turn cent (fee season (suc i) before rung) in
      let most : cent * fee season (suc i) before rung ≤ unit = fee_most before rung in
      omega (arith, linear)

  constant : (week rung : ℕ) (c : ℤ) → IsPlace season (suc i) week rung → sum_over (demands season) (λ d. pos (weight season (suc i) week rung d) *ℤ c) ≡ pos season.base *ℤ c
  constant week rung c place =
      sum_over-scale_right (demands season) c (λ d. pos (weight season (suc i) week rung d))
      ∙ ap (λ t. t *ℤ c) (store_mass season week rung is place.first_week place.last_week place.first_rung place.last_rung i last)

  pub average_high : (done before rung stock more : ℕ) (value : ℕ → ℤ) → IsPlace season (suc i) (suc done) rung → ((rest : ℕ) → rest ≤ stock → value rest ≤ℤ pos (unit * rest + more)) →
      div (weighed season (suc i) done before rung stock value) season.base ≤ℤ pos (unit * stock + more)
  average_high done before rung stock more value place h =
      quotient_high leans div laws (weighed season (suc i) done before rung stock value) season.base (unit * stock + more) is.least_base
      (subst (λ t. weighed season (suc i) done before rung stock value ≤ℤ t) (constant (suc done) rung (pos (unit * stock + more)) place)
      (each_le (demands season) _ (λ d. pos (weight season (suc i) (suc done) rung d) *ℤ pos (unit * stock + more))
      (λ d. scale_le (weight season (suc i) (suc done) rung d) (earn season (suc i) before rung stock d +ℤ value (left stock d)) (pos (unit * stock + more)) (each d))))
    where
      each : (d : ℕ) → (earn season (suc i) before rung stock d +ℤ value (left stock d)) ≤ℤ pos (unit * stock + more)
      each d =
          let earned : earn season (suc i) before rung stock d ≤ℤ pos (unit * min stock d) = earn_high before rung stock d place.first_rung place.last_rung in
          let kept : value (left stock d) ≤ℤ pos (unit * left stock d + more) = h (left stock d) (omega arith) in
          let whole : min stock d + left stock d ≡ stock = omega arith in
          let split : unit * (min stock d + left stock d) ≡ unit * min stock d + unit * left stock d = mul-add unit (min stock d) (left stock d) in
          let both : unit * stock + more ≡ unit * min stock d + (unit * left stock d + more) = sum_moved (unit * stock) (unit * min stock d) (unit * left stock d) more (ap (λ t. unit * t) (sym whole) ∙ split) in
          let e : pos (unit * stock + more) ≡ pos (unit * min stock d) +ℤ pos (unit * left stock d + more) = ap pos both in
          omega (arith, linear)
        where
          sum_moved : (a b c k : ℕ) → a ≡ b + c → a + k ≡ b + (c + k)
          sum_moved a b c k e = omega arith

  pub average_low : (done before rung stock more : ℕ) (value : ℕ → ℤ) → IsPlace season (suc i) (suc done) rung → ((rest : ℕ) → rest ≤ stock → neg_ℤ (pos more) ≤ℤ value rest) →
      neg_ℤ (pos (more + unit)) ≤ℤ div (weighed season (suc i) done before rung stock value) season.base
  average_low done before rung stock more value place h =
      quotient_low leans div laws (weighed season (suc i) done before rung stock value) season.base (more + unit) is.least_base
      (subst (λ t. t ≤ℤ weighed season (suc i) done before rung stock value) (constant (suc done) rung (neg_ℤ (pos (more + unit))) place ∙ turn season.base (more + unit))
      (each_le (demands season) (λ d. pos (weight season (suc i) (suc done) rung d) *ℤ neg_ℤ (pos (more + unit))) _
      (λ d. scale_le (weight season (suc i) (suc done) rung d) (neg_ℤ (pos (more + unit))) (earn season (suc i) before rung stock d +ℤ value (left stock d)) (each d))))
    where
      each : (d : ℕ) → neg_ℤ (pos (more + unit)) ≤ℤ (earn season (suc i) before rung stock d +ℤ value (left stock d))
      each d =
          let earned : neg_ℤ (pos unit) ≤ℤ earn season (suc i) before rung stock d = earn_low before rung stock d in
          let kept : neg_ℤ (pos more) ≤ℤ value (left stock d) = h (left stock d) (omega arith) in
          let e : pos (more + unit) ≡ pos more +ℤ pos unit = refl in
          omega (arith, linear)

  -- between what the weeks to go can take, and what the units earn and the weeks can add
  pub record IsBetween (stock more : ℕ) (value : ℤ) : Type 0 where
    pub low : neg_ℤ (pos more) ≤ℤ value
    pub high : value ≤ℤ pos (unit * stock + more)

  pub value_between : (weeks : ℕ) (prefix : List ℕ) (stock : ℕ) → length prefix + weeks ≡ season.rules.weeks → is_live season.rules prefix ≡ true → IsBetween stock (swing * weeks) (store_value div m season (suc i) weeks prefix stock)
  value_between zero prefix stock long live =
      let paid : ℕ = (store_at season (suc i)).salvage in
      let grouped : cent * paid * stock ≡ cent * (paid * stock) = mul_assoc cent paid stock in
      let units : cent * paid * stock ≤ unit * stock = mul-le-mul_right stock (cents_most paid (store_within season (suc i) is (omega arith) last).salvage) in
      let none : swing * 0 ≡ 0 = omega arith in
      record { low = under (cent * (paid * stock)) (swing * 0) none; high = over (cent * (paid * stock)) (unit * stock) (swing * 0) (subst (λ n. n ≤ unit * stock) grouped units) }
    where
      under : (a b : ℕ) → b ≡ 0 → neg_ℤ (pos b) ≤ℤ pos a
      under a b e = omega (arith, linear)

      over : (a b c : ℕ) → a ≤ b → pos a ≤ℤ pos (b + c)
      over a b c e = omega (arith, linear)
  value_between (suc weeks) prefix stock long live =
      let (rung, next) = live-next season.rules prefix live (omega arith) in
      among (live_rungs season.rules prefix)
      (λ e. All-live_rungs season.rules prefix (λ _. ⊥) rung next (subst (AllByRecursion (λ _. ⊥)) (sym e) tt))
      (All-imply (λ rung. is_live season.rules (prefix ++ rung ∷ []) ≡ true) _ (live_rungs season.rules prefix)
      (λ rung h. one rung h (λ rest. value_between weeks (prefix ++ rung ∷ []) rest (shift (length prefix) (length (prefix ++ rung ∷ [])) (length_more prefix rung) long) h))
      (All-filter (λ rung. is_live season.rules (prefix ++ rung ∷ [])) (rungs season.rules)))
    where
      gives : ℕ → ℤ
      gives rung = rung_value div m season (suc i) prefix rung stock (λ rest. store_value div m season (suc i) weeks (prefix ++ rung ∷ []) rest)

      among : (xs : List ℕ) → (xs ≡ [] → ⊥) → AllByRecursion (λ rung. IsBetween stock (swing * suc weeks) (rung_value div m season (suc i) prefix rung stock (λ rest. store_value div m season (suc i) weeks (prefix ++ rung ∷ []) rest))) xs →
          IsBetween stock (swing * suc weeks) (let value_of : ℕ → ℤ = λ rung. rung_value div m season (suc i) prefix rung stock (λ rest. store_value div m season (suc i) weeks (prefix ++ rung ∷ []) rest) in value_of (first_best value_of 1 xs))
      among [] some all = absurd (some refl)
      among (x ∷ xs) some all =
          first_best-among (λ rung. IsBetween stock (swing * suc weeks) (rung_value div m season (suc i) prefix rung stock (λ rest. store_value div m season (suc i) weeks (prefix ++ rung ∷ []) rest)))
          (λ rung. rung_value div m season (suc i) prefix rung stock (λ rest. store_value div m season (suc i) weeks (prefix ++ rung ∷ []) rest)) 1 x xs all

      shift : (n k : ℕ) → k ≡ suc n → n + suc weeks ≡ season.rules.weeks → k + weeks ≡ season.rules.weeks
      shift n k e l = omega arith

      one : (rung : ℕ) → is_live season.rules (prefix ++ rung ∷ []) ≡ true → ((rest : ℕ) → IsBetween rest (swing * weeks) (store_value div m season (suc i) weeks (prefix ++ rung ∷ []) rest)) →
          IsBetween stock (swing * suc weeks) (rung_value div m season (suc i) prefix rung stock (λ rest. store_value div m season (suc i) weeks (prefix ++ rung ∷ []) rest))
      one rung next h =
          let range = live-rung season.rules prefix rung next in
          let place : IsPlace season (suc i) (suc (length prefix)) rung = record { first_store = omega arith; last_store = last; first_week = omega arith; last_week = omega arith; first_rung = range.0; last_rung = range.1 } in
          let value : ℕ → ℤ = λ rest. store_value div m season (suc i) weeks (prefix ++ rung ∷ []) rest in
          widened (div (weighed season (suc i) (length prefix) (last_rung prefix) rung stock value) season.base) (m (suc i) (suc (length prefix)) rung) weeks
          (average_low (length prefix) (last_rung prefix) rung stock (swing * weeks) value place (λ rest le. (h rest).low))
          (average_high (length prefix) (last_rung prefix) rung stock (swing * weeks) value place (λ rest le. (h rest).high)) (small (suc i) (suc (length prefix)) rung place)
        where
          widened : (q added : ℤ) (weeks : ℕ) → neg_ℤ (pos (swing * weeks + unit)) ≤ℤ q → q ≤ℤ pos (unit * stock + swing * weeks) → IsWithin 10000000000000000 added → IsBetween stock (swing * suc weeks) (q +ℤ added)
          widened q added weeks low high within =
              let more : swing * suc weeks ≡ swing * weeks + 10010000000000000 = omega arith in
              let least : neg_ℤ (pos 10000000000000000) ≤ℤ added = within.low in
              let most : added ≤ℤ pos 10000000000000000 = within.high in
              record { low = under (swing * weeks) (swing * suc weeks) q added more low least; high = over (unit * stock) (swing * weeks) (swing * suc weeks) q added more high most }
            where
              under : (a b : ℕ) (q added : ℤ) → b ≡ a + 10010000000000000 → neg_ℤ (pos (a + unit)) ≤ℤ q → neg_ℤ (pos 10000000000000000) ≤ℤ added → neg_ℤ (pos b) ≤ℤ (q +ℤ added)
              under a b q added e p r = omega (arith, linear)

              over : (u a b : ℕ) (q added : ℤ) → b ≡ a + 10010000000000000 → q ≤ℤ pos (u + a) → added ≤ℤ pos 10000000000000000 → (q +ℤ added) ≤ℤ pos (u + b)
              over u a b q added e p r = omega (arith, linear)
