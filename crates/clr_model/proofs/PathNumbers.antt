-- What any numbers along a path give that lean the right way each week.
use Rattle.std.proofs.Common.{◌≡◌, ℕ, ◌+◌, ℤ, pos, ◌*ℤ◌, refl, sym, subst, subst₂, arith, suc, zero, List, [], ◌∷◌, get_or, length, drop}
use Rattle.clr_num.specs.Rounding.{floor, ceil}
use Rattle.clr_num.specs.Direction.{IsDirection, AtLeast, AtMost}
use Rattle.clr_num.specs.DirectionLaws.{floor_is_direction, ceil_is_direction}
use Rattle.clr_rules.specs.Rules.{rung_at}
use Rattle.clr_season.specs.Season.{Season, IsSeason}
use Rattle.clr_model.specs.Policies.{joint_demands, IsWhole, const_tree}
use Rattle.clr_model.specs.Revenue.{cent, salvage_cents, sum_stores, of_store, full_stocks, stocks_left}
use Rattle.clr_model.specs.Expected.{den, earned}
use Rattle.clr_model.specs.PathValue.{weighed}
use Rattle.clr_model.specs.PathNumbers.{LeansAlong, PathNumbersEnclose}
use Rattle.clr_model.specs.StoreValue.{AreStocks}
use Rattle.clr_model.proofs.Sums.{All-imply}
use Rattle.clr_model.proofs.Steps.{store_step, sum_of-leans}
use Rattle.clr_model.proofs.PathBounds.{earned-stop, over_none, whole_const}
use Rattle.clr_model.proofs.StoreBounds.{full-stocks, stocks-left}

-- the rung of a week, and what follows it
drop_parts : (path : List ℕ) (done rung : ℕ) (rest : List ℕ) → drop done path ≡ rung ∷ rest → (rung_at path (suc done) ≡ rung) × (drop (suc done) path ≡ rest)
drop_parts [] zero rung rest e = cc
drop_parts [] (suc done) rung rest e = cc
drop_parts (x ∷ path) zero rung rest e = (cc, cc)
drop_parts (x ∷ path) (suc done) rung rest e = drop_parts path done rung rest e

module _ (leans : ℤ → ℤ → Type 0) (div : ℤ → ℕ → ℤ) (laws : IsDirection leans div) (season : Season) (path : List ℕ) (v : ℕ → ℕ → ℕ → ℤ) (ok : IsSeason season) (along : LeansAlong leans season path v) where
  pub numbers_lean : (done weeks : ℕ) (rest : List ℕ) (stocks : List ℕ) → AreStocks season stocks → done + weeks ≡ season.rules.weeks → drop done path ≡ rest → IsWhole season weeks (const_tree rest) →
      leans (sum_stores season (λ store. v store done (of_store stocks store)) *ℤ den season weeks) (pos cent *ℤ earned season done weeks (rung_at path done) stocks (const_tree rest))
  numbers_lean done zero [] stocks held long e whole =
      subst₂ leans (sym (over_none season (sum_stores season (λ store. v store done (of_store stocks store))))) (sym (earned-stop season done (rung_at path done) stocks))
      (sum_of-leans leans div laws (length season.stores) (λ i. v (suc i) done (get_or stocks i 0)) (λ i. pos cent *ℤ salvage_cents season (suc i) (get_or stocks i 0))
      (λ i p. subst (λ n. leans (v (suc i) n (get_or stocks i 0)) (pos cent *ℤ salvage_cents season (suc i) (get_or stocks i 0))) (sym (at_end done long)) (along.end (suc i) (get_or stocks i 0) (record { first = omega arith; last = p; held = held.held (suc i) }))))
    where
      at_end : (d : ℕ) → d + 0 ≡ season.rules.weeks → d ≡ season.rules.weeks
      at_end d h = omega arith
  numbers_lean done zero (rung ∷ rest) stocks held long e whole = absurd whole
  numbers_lean done (suc weeks) [] stocks held long e whole = absurd whole
  numbers_lean done (suc weeks) (rung ∷ rest) stocks held long e whole =
      let parts = drop_parts path done rung rest e in
      store_step leans div laws season done weeks (rung_at path done) rung stocks (λ week. const_tree rest) (λ store stock. v store (suc done) stock) (λ store. v store done (of_store stocks store)) ok (omega arith) whole
      (λ i p. subst (λ r. leans (v (suc i) done (get_or stocks i 0) *ℤ pos season.base) (weighed season (suc i) done (rung_at path done) r (get_or stocks i 0) (v (suc i) (suc done)))) parts.0
      (along.week (suc i) done (get_or stocks i 0) (record { first = omega arith; last = p; held = held.held (suc i) }) (omega arith)))
      (All-imply (λ week. IsWhole season weeks (const_tree rest)) _ (joint_demands season)
      (λ week h. subst (λ r. leans (sum_stores season (λ store. v store (suc done) (of_store (stocks_left stocks week) store)) *ℤ den season weeks) (pos cent *ℤ earned season (suc done) weeks r (stocks_left stocks week) (const_tree rest))) parts.0
      (numbers_lean (suc done) weeks rest (stocks_left stocks week) (stocks-left season stocks week held) (omega arith) parts.1 h))
      whole.2)

pub path_numbers_enclose_lem : PathNumbersEnclose
path_numbers_enclose_lem season path low high ok is below above =
    let whole : IsWhole season season.rules.weeks (const_tree path) = subst (λ n. IsWhole season n (const_tree path)) is.weeks (whole_const season path is.rungs) in
    record {
      least = numbers_lean AtMost floor floor_is_direction season path low ok below 0 season.rules.weeks path (full_stocks season) (full-stocks season) (omega arith) refl whole;
      most = numbers_lean AtLeast ceil ceil_is_direction season path high ok above 0 season.rules.weeks path (full_stocks season) (full-stocks season) (omega arith) refl whole;
    }
