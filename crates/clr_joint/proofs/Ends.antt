-- What the stocks are worth at the end, store by store.
use Rattle.std.proofs.Common.{◌≡◌, ℕ, suc, ◌+◌, ◌-◌, ◌*◌, ◌/◌, ◌%◌, ◌≤◌, ◌<◌, ℤ, pos, ◌+ℤ◌, ◌*ℤ◌, List, ◌∷◌, length, get_or, arith, ap, ap₂, sym, ◌∙◌, subst, to_z, of_z, add-one, mul-le-mul, mul_assoc}
use Rattle.std.proofs.lemmas.Int.{ints, to_z-of_z}
use Rattle.std.proofs.lemmas.Nat.{div_below, mod_below}
use mir.Syntax.{w64}
use Rattle.clr_season.specs.Season.{Season, store_at}
use Rattle.clr_average.specs.Average.{IsWithin}
use Rattle.clr_average.proofs.Within.{within_64, within_pos, within_sum}
use Rattle.clr_model.specs.JointValue.{end_value}
use Rattle.clr_model.specs.Revenue.{cent, full_stocks, salvage_cents}
use Rattle.clr_model.proofs.Sums.{sum_of-same}
use Rattle.clr_joint.specs.Ends.{AreWorths, worth_from}
use Rattle.clr_joint.specs.Folds.{last_units}
use Rattle.clr_model.specs.Stocks.{lists_of, stocks_at}
use Rattle.clr_joint.proofs.Grid.{last_units_all, last_units_more}
use Rattle.clr_joint.proofs.Limits.{lists_some}

-- ---- one place

pub worth_most : (unit place lists stocks : ℕ) → 0 < lists → place < stocks * lists → stocks ≤ 2001 → unit ≤ 10000000000000 → unit * (place / lists) ≤ 20000000000000000
worth_most unit place lists stocks some lt few most =
    let low : place / lists < stocks = div_below place lists stocks some lt in
    mul-le-mul most (held (place / lists) low)
  where
    held : (x : ℕ) → x < stocks → x ≤ 2000
    held x low = omega arith

pub sum_within : (worth : ℕ) (value : ℤ) → worth ≤ 20000000000000000 → IsWithin 60000000000000000 value → IsWithin 80000000000000000 (pos worth +ℤ value)
sum_within worth value le within = within_sum 20000000000000000 60000000000000000 (pos worth) value (within_pos 20000000000000000 worth le) within

pub sum_read : (worth : ℕ) (value : ℤ) → worth ≤ 20000000000000000 → IsWithin 60000000000000000 value → to_z w64 worth +ℤ to_z w64 (of_z w64 value) ≡ pos worth +ℤ value
sum_read worth value le within =
    let known : to_z w64 worth ≡ pos worth = omega (arith, ints) in
    ap₂ ◌+ℤ◌ known (to_z-of_z w64 value (within_64 value 60000000000000000 (omega arith) within))

-- ---- one store more

pub worths_more : (season : Season) (count unit stocks : ℕ) (row now : List ℤ) → count < length season.stores → count < 4 → unit ≡ cent * (store_at season (length season.stores - count)).salvage → stocks ≡ suc (store_at season (length season.stores - count)).units → unit ≤ 10000000000000 → stocks ≤ 2001 →
    AreWorths season count row → length now ≡ stocks * length row → ((place : ℕ) → place < stocks * length row → get_or now place (pos 0) ≡ pos (unit * (place / length row)) +ℤ get_or row (place % length row) (pos 0)) →
    AreWorths season (count + 1) now
worths_more season count unit stocks row now lt few unit_is stocks_is small held are size each =
    subst (λ n. AreWorths season n now) (sym (add-one count)) (record {
      size = size ∙ (ap₂ ◌*◌ stocks_is are.size ∙ sym (ap lists_of (last_units_more season count lt)));
      within = λ place low.
          let inside : place < stocks * length row = subst (λ n. place < n) size low in
          let some : 0 < length row = subst (λ n. 0 < n) (sym are.size) (lists_some (last_units season count)) in
          let limit : 20000000000000000 + count * 20000000000000000 ≡ suc count * 20000000000000000 = omega arith in
          subst (IsWithin (suc count * 20000000000000000)) (sym (each place inside))
          (subst (λ n. IsWithin n (pos (unit * (place / length row)) +ℤ get_or row (place % length row) (pos 0))) limit
          (within_sum 20000000000000000 (count * 20000000000000000) (pos (unit * (place / length row))) (get_or row (place % length row) (pos 0)) (within_pos 20000000000000000 (unit * (place / length row)) (worth_most unit place (length row) stocks some inside held small))
          (are.within (place % length row) (mod_below place (length row) some))));
      each = λ place low.
          let inside : place < stocks * length row = subst (λ n. place < n) size low in
          let some : 0 < length row = subst (λ n. 0 < n) (sym are.size) (lists_some (last_units season count)) in
          each place inside
          ∙ (ap (λ t. pos (unit * (place / length row)) +ℤ t) (are.each (place % length row) (mod_below place (length row) some))
          ∙ (ap₂ (λ n (t : ℤ). pos (unit * (place / n)) +ℤ t) are.size (ap (λ n. worth_from season (suc (length season.stores - count)) count (stocks_at (last_units season count) (place % n))) are.size)
          ∙ (next (place / lists_of (last_units season count)) (stocks_at (last_units season count) (place % lists_of (last_units season count)))
          ∙ sym (ap (λ (us : List ℕ). worth_from season (suc (length season.stores - suc count)) (suc count) (stocks_at us place)) (last_units_more season count lt)))));
    })
  where
    first : (n k : ℕ) → k < n → n - k ≡ suc (n - suc k)
    first n k low = omega arith

    one : (n : ℕ) → suc (n - suc count) + 0 ≡ suc (n - suc count)
    one n = omega arith

    rest : (n i : ℕ) → suc (suc n) + i ≡ suc n + suc i
    rest n i = omega arith

    next : (stock : ℕ) (stocks : List ℕ) → pos (unit * stock) +ℤ worth_from season (suc (length season.stores - count)) count stocks ≡ worth_from season (suc (length season.stores - suc count)) (suc count) (stock ∷ stocks)
    next stock stocks =
        ap₂ ◌+ℤ◌
        (ap pos (ap (λ u. u * stock) unit_is ∙ mul_assoc cent (store_at season (length season.stores - count)).salvage stock)
        ∙ ap (λ n. pos cent *ℤ salvage_cents season n stock) (first (length season.stores) count lt ∙ sym (one (length season.stores))))
        (ap (λ n. worth_from season (suc n) count stocks) (first (length season.stores) count lt)
        ∙ sum_of-same count (λ i. pos cent *ℤ salvage_cents season (suc (suc (length season.stores - suc count)) + i) (get_or stocks i 0)) (λ i. pos cent *ℤ salvage_cents season (suc (length season.stores - suc count) + suc i) (get_or stocks i 0))
        (λ i p. ap (λ n. pos cent *ℤ salvage_cents season n (get_or stocks i 0)) (rest (length season.stores - suc count) i)))

-- ---- all stores

pub worths_all : (season : Season) (row : List ℤ) (place : ℕ) → AreWorths season (length season.stores) row → place < lists_of (full_stocks season) → get_or row place (pos 0) ≡ end_value season (stocks_at (full_stocks season) place)
worths_all season row place are lt =
    let none : length season.stores - length season.stores ≡ 0 = omega arith in
    are.each place (subst (λ n. place < n) (sym (are.size ∙ ap lists_of (last_units_all season))) lt)
    ∙ (ap₂ (λ n (us : List ℕ). worth_from season (suc n) (length season.stores) (stocks_at us place)) none (last_units_all season)
    ∙ sum_of-same (length season.stores) (λ i. pos cent *ℤ salvage_cents season (1 + i) (get_or (stocks_at (full_stocks season) place) i 0)) (λ i. pos cent *ℤ salvage_cents season (suc i) (get_or (stocks_at (full_stocks season) place) i 0))
    (λ i p. ap (λ n. pos cent *ℤ salvage_cents season n (get_or (stocks_at (full_stocks season) place) i 0)) (one i)))
  where
    one : (i : ℕ) → 1 + i ≡ suc i
    one i = omega arith
