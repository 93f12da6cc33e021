-- How large the values of a path can be.
use Rattle.std.proofs.Common.{[], ◌∷◌, if◌then◌else◌, ◌==◌, Bool, true, false, ◌≡◌, ℕ, zero, suc, ◌+◌, ◌-◌, ◌*◌, ◌≤◌, min, ℤ, pos, neg_ℤ, ◌+ℤ◌, ◌-ℤ◌, ◌*ℤ◌, ◌≤ℤ◌, List, length, length-drop, drop, arith, ap, sym, ◌∙◌, mul_assoc, mul-add, mul-le-mul_left, mul-le-mul_right, mul-suc}
use Rattle.std.proofs.lemmas.List.{get_or_past}
use Rattle.std.proofs.lemmas.List.Elements.{All-get_or}
use Rattle.clr_stock.specs.Stock.{IsStore, no_store}
use Rattle.clr_num.specs.Direction.{IsDirection}
use Rattle.clr_num.specs.Sums.{sum_over}
use Rattle.clr_rules.specs.Rules.{IsPath, price, rung_at}
use Rattle.clr_season.specs.Season.{Season, IsPlace, IsSeason, demands, store_at, weight, weights_of}
use Rattle.clr_model.specs.Revenue.{cent, earn, fee, left, week_cents}
use Rattle.clr_model.specs.PathValue.{weighed, path_value, path_value_at}
use Rattle.clr_model.proofs.Ladders.{OnLadder, path_on_ladder, rest_on_ladder}
use Rattle.clr_model.proofs.Rows.{weights_sum, turn}
use Rattle.clr_average.specs.Average.{IsWithin, mass}
use Rattle.clr_average.proofs.Masses.{mass_is_sum}
use Rattle.clr_average.proofs.Ring.{linear, scale_le}
use Rattle.clr_average.proofs.Sums.{sum_over-scale_right}
use Rattle.clr_average.proofs.Within.{quotient_high, quotient_low}

sum_over-le : (xs : List ℕ) (f g : ℕ → ℤ) → ((x : ℕ) → f x ≤ℤ g x) → sum_over xs f ≤ℤ sum_over xs g
sum_over-le [] f g h = omega (arith, linear)
sum_over-le (x ∷ xs) f g h =
    let here : f x ≤ℤ g x = h x in
    let rest : sum_over xs f ≤ℤ sum_over xs g = sum_over-le xs f g h in
    omega (arith, linear)

-- a store of a season, what a unit can earn it at most, and what it pays for relabelling at most
module _ (leans : ℤ → ℤ → Type 0) (div : ℤ → ℕ → ℤ) (laws : IsDirection leans div) (season : Season) (is : IsSeason season) (store unit cost : ℕ) (first : 1 ≤ store) (last : store ≤ length season.stores)
    (prices : (rung : ℕ) → 1 ≤ rung → rung ≤ length season.rules.prices → cent * price season.rules rung ≤ unit) (salvage : cent * (store_at season store).salvage ≤ unit) (relabel : cent * (store_at season store).relabel ≤ cost) where
  all_weights : (week rung : ℕ) → IsPlace season store week rung → sum_over (demands season) (λ d. pos (weight season store week rung d)) ≡ pos season.base
  all_weights week rung place =
      let size : suc season.top ≡ length (weights_of season store week rung) = sym (is.sizes store week rung place) in
      weights_sum (weights_of season store week rung) 0 [] 0 (λ d h. get_or_past (weights_of season store week rung) d 0 h) (suc season.top)
      ∙ (ap (λ n. pos (mass (weights_of season store week rung) n)) size ∙ ap pos (mass_is_sum (weights_of season store week rung) ∙ is.sums store week rung place))

  fee_most : (before rung : ℕ) → cent * fee season store before rung ≤ cost
  fee_most before rung = by_test (rung == before)
    where
      by_test : (same : Bool) → cent * (if same then 0 else (store_at season store).relabel) ≤ cost
      by_test true = let none : cent * 0 ≡ 0 = omega arith in omega (arith, none)
      by_test false = relabel

  -- ---- from above

  earn_high : (before rung stock demand : ℕ) → 1 ≤ rung → rung ≤ length season.rules.prices → earn season store before rung stock demand ≤ℤ pos (unit * min stock demand)
  unfolding week_cents
  earn_high before rung stock demand low high =
      let sold : ℕ = min stock demand in
      let paid : ℕ = price season.rules rung in
      let most : (pos cent *ℤ (pos (paid * sold) -ℤ pos (fee season store before rung))) ≤ℤ pos (cent * (paid * sold)) = scale_le cent (pos (paid * sold) -ℤ pos (fee season store before rung)) (pos (paid * sold)) (omega (arith, linear)) in
      let units : cent * paid * sold ≤ unit * sold = mul-le-mul_right sold (prices rung low high) in
      let grouped : cent * paid * sold ≡ cent * (paid * sold) = mul_assoc cent paid sold in
      omega (arith, linear)

  weighed_high : (done before rung stock : ℕ) (value : ℕ → ℤ) → IsPlace season store (suc done) rung → ((rest : ℕ) → rest ≤ stock → value rest ≤ℤ pos (unit * rest)) →
      weighed season store done before rung stock value ≤ℤ pos (season.base * (unit * stock))
  weighed_high done before rung stock value place h =
      let terms : weighed season store done before rung stock value ≤ℤ sum_over (demands season) (λ d. pos (weight season store (suc done) rung d) *ℤ pos (unit * stock)) =
      sum_over-le (demands season) _ (λ d. pos (weight season store (suc done) rung d) *ℤ pos (unit * stock)) (λ d. scale_le (weight season store (suc done) rung d) (earn season store before rung stock d +ℤ value (left stock d)) (pos (unit * stock)) (each d)) in
      let scaled : sum_over (demands season) (λ d. pos (weight season store (suc done) rung d) *ℤ pos (unit * stock)) ≡ pos (season.base * (unit * stock)) =
      sum_over-scale_right (demands season) (pos (unit * stock)) (λ d. pos (weight season store (suc done) rung d)) ∙ ap (λ t. t *ℤ pos (unit * stock)) (all_weights (suc done) rung place) in
      omega (arith, linear)
    where
      each : (d : ℕ) → (earn season store before rung stock d +ℤ value (left stock d)) ≤ℤ pos (unit * stock)
      each d =
          let earned : earn season store before rung stock d ≤ℤ pos (unit * min stock d) = earn_high before rung stock d place.first_rung place.last_rung in
          let kept : value (left stock d) ≤ℤ pos (unit * left stock d) = h (left stock d) (omega arith) in
          let whole : min stock d + left stock d ≡ stock = omega arith in
          let split : unit * (min stock d + left stock d) ≡ unit * min stock d + unit * left stock d = mul-add unit (min stock d) (left stock d) in
          let both : unit * stock ≡ unit * min stock d + unit * left stock d = ap (λ t. unit * t) (sym whole) ∙ split in
          let e : pos (unit * stock) ≡ pos (unit * min stock d) +ℤ pos (unit * left stock d) = ap pos both in
          omega (arith, linear)

  pub path_value_high : (path : List ℕ) (done before stock : ℕ) → done + length path ≤ season.rules.weeks → OnLadder season.rules path → path_value div season store done before path stock ≤ℤ pos (unit * stock)
  path_value_high [] done before stock weeks on =
      let grouped : cent * (store_at season store).salvage * stock ≡ cent * ((store_at season store).salvage * stock) = mul_assoc cent (store_at season store).salvage stock in
      let units : cent * (store_at season store).salvage * stock ≤ unit * stock = mul-le-mul_right stock salvage in
      let most : pos (cent * ((store_at season store).salvage * stock)) ≤ℤ pos (unit * stock) = omega (arith, linear) in
      most
  path_value_high (rung ∷ path) done before stock weeks on =
      quotient_high leans div laws (weighed season store done before rung stock (λ rest. path_value div season store (suc done) rung path rest)) season.base (unit * stock) is.least_base
      (weighed_high done before rung stock (λ rest. path_value div season store (suc done) rung path rest)
      (record { first_store = first; last_store = last; first_week = omega arith; last_week = omega arith; first_rung = (on 0 (omega arith)).0; last_rung = (on 0 (omega arith)).1 })
      (λ rest le. path_value_high path (suc done) rung rest (omega arith) (λ k lt. on (suc k) (omega arith))))

  -- ---- from below

  earn_low : (before rung stock demand : ℕ) → neg_ℤ (pos cost) ≤ℤ earn season store before rung stock demand
  unfolding week_cents
  earn_low before rung stock demand =
      let paid : ℕ = price season.rules rung * min stock demand in
      let least : (pos cent *ℤ neg_ℤ (pos (fee season store before rung))) ≤ℤ (pos cent *ℤ (pos paid -ℤ pos (fee season store before rung))) = scale_le cent (neg_ℤ (pos (fee season store before rung))) (pos paid -ℤ pos (fee season store before rung)) (omega (arith, linear)) in
      let turned : pos cent *ℤ neg_ℤ (pos (fee season store before rung)) ≡ neg_ℤ (pos (cent * fee season store before rung)) = turn cent (fee season store before rung) in
      let most : cent * fee season store before rung ≤ cost = fee_most before rung in
      omega (arith, linear)

  weighed_low : (done before rung stock weeks : ℕ) (value : ℕ → ℤ) → IsPlace season store (suc done) rung → ((rest : ℕ) → neg_ℤ (pos (cost * weeks)) ≤ℤ value rest) →
      neg_ℤ (pos (season.base * (cost * suc weeks))) ≤ℤ weighed season store done before rung stock value
  weighed_low done before rung stock weeks value place h =
      let terms : sum_over (demands season) (λ d. pos (weight season store (suc done) rung d) *ℤ neg_ℤ (pos (cost * suc weeks))) ≤ℤ weighed season store done before rung stock value =
      sum_over-le (demands season) (λ d. pos (weight season store (suc done) rung d) *ℤ neg_ℤ (pos (cost * suc weeks))) _ (λ d. scale_le (weight season store (suc done) rung d) (neg_ℤ (pos (cost * suc weeks))) (earn season store before rung stock d +ℤ value (left stock d)) (each d)) in
      let scaled : sum_over (demands season) (λ d. pos (weight season store (suc done) rung d) *ℤ neg_ℤ (pos (cost * suc weeks))) ≡ neg_ℤ (pos (season.base * (cost * suc weeks))) =
      sum_over-scale_right (demands season) (neg_ℤ (pos (cost * suc weeks))) (λ d. pos (weight season store (suc done) rung d)) ∙ (ap (λ t. t *ℤ neg_ℤ (pos (cost * suc weeks))) (all_weights (suc done) rung place) ∙ turn season.base (cost * suc weeks)) in
      omega (arith, linear)
    where
      each : (d : ℕ) → neg_ℤ (pos (cost * suc weeks)) ≤ℤ (earn season store before rung stock d +ℤ value (left stock d))
      each d =
          let earned : neg_ℤ (pos cost) ≤ℤ earn season store before rung stock d = earn_low before rung stock d in
          let kept : neg_ℤ (pos (cost * weeks)) ≤ℤ value (left stock d) = h (left stock d) in
          let split : cost * suc weeks ≡ cost * weeks + cost = mul-suc cost weeks in
          let e : pos (cost * suc weeks) ≡ pos (cost * weeks) +ℤ pos cost = ap pos split in
          omega (arith, linear)

  pub path_value_low : (path : List ℕ) (done before stock : ℕ) → done + length path ≤ season.rules.weeks → OnLadder season.rules path → neg_ℤ (pos (cost * length path)) ≤ℤ path_value div season store done before path stock
  path_value_low [] done before stock weeks on = let none : cost * 0 ≡ 0 = omega arith in let nothing : neg_ℤ (pos (cost * 0)) ≤ℤ pos (cent * ((store_at season store).salvage * stock)) = omega (arith, linear) in nothing
  path_value_low (rung ∷ path) done before stock weeks on =
      let size : length (rung ∷ path) ≡ suc (length path) = omega arith in
      rw size (quotient_low leans div laws (weighed season store done before rung stock (λ rest. path_value div season store (suc done) rung path rest)) season.base (cost * suc (length path)) is.least_base
      (weighed_low done before rung stock (length path) (λ rest. path_value div season store (suc done) rung path rest)
      (record { first_store = first; last_store = last; first_week = omega arith; last_week = omega arith; first_rung = (on 0 (omega arith)).0; last_rung = (on 0 (omega arith)).1 })
      (λ rest. path_value_low path (suc done) rung rest (omega arith) (λ k lt. on (suc k) (omega arith)))))

  -- a value of a path lies between what its weeks can cost at most and what its units can earn at most
  pub path_value_between : (path : List ℕ) (done stock : ℕ) → IsPath season.rules path → done ≤ length path → stock ≤ (store_at season store).units →
      (neg_ℤ (pos (cost * season.rules.weeks)) ≤ℤ path_value_at div season store path done stock) × (path_value_at div season store path done stock ≤ℤ pos (unit * (store_at season store).units))
  path_value_between path done stock path_is le held =
      let size : length (drop done path) ≡ length path - done = length-drop done path in
      let weeks : length path ≡ season.rules.weeks = path_is.weeks in
      let within : done + length (drop done path) ≤ season.rules.weeks = omega arith in
      let on : OnLadder season.rules (drop done path) = rest_on_ladder season.rules path done (path_on_ladder season.rules path path_is) le in
      let units : unit * stock ≤ unit * (store_at season store).units = mul-le-mul_left unit held in
      let costs : cost * length (drop done path) ≤ cost * season.rules.weeks = mul-le-mul_left cost (omega arith) in (
        lower (path_value_at div season store path done stock) (cost * length (drop done path)) (cost * season.rules.weeks) costs (path_value_low (drop done path) done (rung_at path done) stock within on),
        higher (path_value_at div season store path done stock) (unit * stock) (unit * (store_at season store).units) units (path_value_high (drop done path) done (rung_at path done) stock within on),
      )
    where
      lower : (value : ℤ) (a b : ℕ) → a ≤ b → neg_ℤ (pos a) ≤ℤ value → neg_ℤ (pos b) ≤ℤ value
      lower value a b le h = omega (arith, linear)

      higher : (value : ℤ) (a b : ℕ) → a ≤ b → value ≤ℤ pos a → value ≤ℤ pos b
      higher value a b le h = omega (arith, linear)

-- ---- within the limits of a season

pub store_within : (season : Season) (store : ℕ) → IsSeason season → 1 ≤ store → store ≤ length season.stores → IsStore (store_at season store)
store_within season zero is first last = absurd (omega arith)
store_within season (suc i) is first last = All-get_or IsStore season.stores i no_store (omega arith) is.stores.within

price_most : (season : Season) (rung : ℕ) → IsSeason season → 1 ≤ rung → rung ≤ length season.rules.prices → price season.rules rung ≤ 10000000
price_most season zero is low high = absurd (omega arith)
price_most season (suc i) is low high = is.rules.ladder.most i (omega arith)

cents_most : (cents : ℕ) → cents ≤ 10000000 → cent * cents ≤ 10000000000000
unfolding cent
cents_most cents le = omega (arith, le)

between_within : (value : ℤ) (low high limit : ℕ) → low ≤ limit → high ≤ limit → (neg_ℤ (pos low) ≤ℤ value) × (value ≤ℤ pos high) → IsWithin limit value
between_within value low high limit p q h = let least : neg_ℤ (pos low) ≤ℤ value = h.0 in let most : value ≤ℤ pos high = h.1 in record { low = omega (arith, linear); high = omega (arith, linear) }

-- a value of a path is at most what its units can earn and its weeks can cost
pub path_value_within : (leans : ℤ → ℤ → Type 0) (div : ℤ → ℕ → ℤ) → IsDirection leans div → (season : Season) (store : ℕ) (path : List ℕ) (unit cost done stock : ℕ) → IsSeason season → 1 ≤ store → store ≤ length season.stores → IsPath season.rules path →
    ((rung : ℕ) → 1 ≤ rung → rung ≤ length season.rules.prices → cent * price season.rules rung ≤ unit) → cent * (store_at season store).salvage ≤ unit → cent * (store_at season store).relabel ≤ cost →
    done ≤ length path → stock ≤ (store_at season store).units → IsWithin (unit * (store_at season store).units + cost * season.rules.weeks) (path_value_at div season store path done stock)
path_value_within leans div laws season store path unit cost done stock is first last path_is prices salvage relabel le held =
    between_within (path_value_at div season store path done stock) (cost * season.rules.weeks) (unit * (store_at season store).units) (unit * (store_at season store).units + cost * season.rules.weeks) (omega arith) (omega arith)
    (path_value_between leans div laws season is store unit cost first last prices salvage relabel path done stock path_is le held)

-- a value of a path is at most 2 * 10^16 in size
pub path_value_small : (leans : ℤ → ℤ → Type 0) (div : ℤ → ℕ → ℤ) → IsDirection leans div → (season : Season) (store : ℕ) (path : List ℕ) (done stock : ℕ) → IsSeason season → 1 ≤ store → store ≤ length season.stores → IsPath season.rules path →
    done ≤ length path → stock ≤ (store_at season store).units → IsWithin 20000000000000000 (path_value_at div season store path done stock)
path_value_small leans div laws season store path done stock is first last path_is le held =
    let holds : IsStore (store_at season store) = store_within season store is first last in
    let units : (store_at season store).units ≤ 2000 = holds.units in
    let weeks : season.rules.weeks ≤ 52 = is.rules.last_week in
    between_within (path_value_at div season store path done stock) (10000000000000 * season.rules.weeks) (10000000000000 * (store_at season store).units) 20000000000000000 (omega (arith, weeks)) (omega (arith, units))
    (path_value_between leans div laws season is store 10000000000000 10000000000000 first last (λ rung low high. cents_most (price season.rules rung) (price_most season rung is low high)) (cents_most (store_at season store).salvage holds.salvage) (cents_most (store_at season store).relabel holds.relabel) path done stock path_is le held)
