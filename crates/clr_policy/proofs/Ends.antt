-- The values at the end of the season, store by store.
use Rattle.std.proofs.Common.{◌≡◌, ℕ, suc, ◌+◌, ◌*◌, ◌≤◌, ◌<◌, ℤ, pos, ◌+ℤ◌, ◌*ℤ◌, refl, sym, ap, ap₂, ◌∙◌, subst, arith, List, [], ◌∷◌, ◌++◌, length, get_or, mul-le-mul, mul_assoc}
use Rattle.std.proofs.lemmas.List.{length-map, get_or-map}
use Rattle.clr_num.specs.Sums.{sum_of}
use Rattle.clr_rules.proofs.GridLemmas.{flat_map-numbers_more, get_or-blocks, length-blocks, split_place}
use Rattle.clr_average.specs.Average.{IsWithin}
use Rattle.clr_average.proofs.Ring.{linear}
use Rattle.clr_average.proofs.Within.{within_pos, within_sum}
use Rattle.clr_season.specs.Season.{Season, store_at}
use Rattle.clr_model.specs.JointValue.{end_value}
use Rattle.clr_model.specs.Revenue.{cent, full_stocks, salvage_cents}
use Rattle.clr_model.specs.Stocks.{lists_of, place_in}
use Rattle.clr_policy.specs.StockLists.{AllWithin, AreValues, AreWithin, at_place, ends_from, most_gain, rows_of, stocks_from, with_more}
use Rattle.clr_policy.proofs.Folds.{place_low, size_splits, stocks_first, stocks_none, within_length}

pub rows_more : (unit rows : ℕ) (after : List ℤ) → rows_of unit after (rows + 1) ≡ rows_of unit after rows ++ with_more after (pos (unit * rows))
rows_more unit rows after =
    let one : rows + 1 ≡ suc rows = omega arith in
    rw one (flat_map-numbers_more (λ stock. with_more after (pos (unit * stock))) 0 rows ∙ ap (λ k. rows_of unit after rows ++ with_more after (pos (unit * k))) (omega arith))

row_wide : (unit : ℕ) (after : List ℤ) (x : ℕ) → length (with_more after (pos (unit * x))) ≡ length after
row_wide unit after x = length-map after (λ value. value +ℤ pos (unit * x))

row_at : (unit rows x place : ℕ) (after : List ℤ) → x < rows → place < length after → at_place (rows_of unit after rows) (x * length after + place) ≡ at_place after place +ℤ pos (unit * x)
row_at unit rows x place after lt low =
    get_or-blocks (λ stock. with_more after (pos (unit * stock))) (length after) (row_wide unit after) 0 rows x place (pos 0) lt low
    ∙ (ap (λ k. get_or (with_more after (pos (unit * k))) place (pos 0)) (start x)
    ∙ get_or-map (λ value. value +ℤ pos (unit * x)) after place (pos 0) (pos 0) low)
  where
    start : (x : ℕ) → 0 + x ≡ x
    start x = omega arith

pub rows_within : (unit rows reach : ℕ) (after : List ℤ) → unit ≤ 10000000000000 → rows ≤ 2001 → AllWithin reach after → AllWithin (reach + most_gain) (rows_of unit after rows)
rows_within unit rows reach after u few all k lt =
    let size : length (rows_of unit after rows) ≡ rows * length after = length-blocks (λ stock. with_more after (pos (unit * stock))) (length after) (row_wide unit after) 0 rows in
    let (x, place, x_lt, low, k_is) = split_place rows (length after) k (subst (λ n. k < n) size lt) in
    let units : x ≤ 2000 = omega (arith, x_lt, few) in
    let most : unit * x ≤ 10000000000000 * 2000 = mul-le-mul u units in
    rw k_is (subst (IsWithin (reach + most_gain)) (sym (row_at unit rows x place after x_lt low)) (within_sum reach most_gain _ _ (all place low) (within_pos most_gain (unit * x) (omega (arith, most)))))

pub one_store_more : (season : Season) (i unit stock : ℕ) (after values : List ℤ) → i < length season.stores → unit ≡ cent * (store_at season (suc i)).salvage → stock ≡ (store_at season (suc i)).units → values ≡ rows_of unit after (stock + 1) →
    AreValues (stocks_from season (suc i + 1)) (ends_from season (suc i + 1)) after → AreValues (stocks_from season (suc i)) (ends_from season (suc i)) values
one_store_more season i unit stock after values lt unit_is stock_is is are = record {
  size = ap length is
      ∙ (length-blocks (λ x. with_more after (pos (unit * x))) (length after) (row_wide unit after) 0 (stock + 1)
      ∙ (ap₂ (λ n w. (n + 1) * w) stock_is are.size ∙ sym (size_splits season (suc i) (omega arith) (omega (arith, lt)))));
  each = λ stocks held.
      subst (λ mosts. AreWithin mosts stocks → at_place values (place_in mosts stocks) ≡ ends_from season (suc i) stocks) (sym (stocks_first season i lt)) (by_stocks stocks)
      (subst (λ mosts. AreWithin mosts stocks) (refl_at (stocks_from season (suc i))) held);
}
  where
    refl_at : (xs : List ℕ) → xs ≡ xs
    refl_at xs = refl

    by_stocks : (stocks : List ℕ) → AreWithin ((store_at season (suc i)).units ∷ stocks_from season (suc i + 1)) stocks →
        at_place values (place_in ((store_at season (suc i)).units ∷ stocks_from season (suc i + 1)) stocks) ≡ ends_from season (suc i) stocks
    by_stocks [] h = absurd h
    by_stocks (x ∷ rest) h =
        let place : ℕ = place_in (stocks_from season (suc i + 1)) rest in
        let low : place < length after = subst (λ n. place < n) (sym are.size) (place_low (stocks_from season (suc i + 1)) rest h.1) in
        let next : suc i + 1 ≡ suc (suc i) = omega arith in
        let worth : pos (unit * x) ≡ pos cent *ℤ salvage_cents season (suc i) x = ap (λ u. pos (u * x)) unit_is ∙ ap pos (mul_assoc cent (store_at season (suc i)).salvage x) in
        ap (λ list. at_place list (x * lists_of (stocks_from season (suc i + 1)) + place)) is
        ∙ (ap (λ w. at_place (rows_of unit after (stock + 1)) (x * w + place)) (sym are.size)
        ∙ (row_at unit (stock + 1) x place after (let top = h.0 in omega (arith, top, stock_is)) low
        ∙ (ap₂ ◌+ℤ◌ (are.each rest h.1 ∙ ap (λ n. ends_from season n rest) next) worth ∙ turn (ends_from season (suc (suc i)) rest) (pos cent *ℤ salvage_cents season (suc i) x))))
      where
        turn : (a b : ℤ) → a +ℤ b ≡ b +ℤ a
        turn a b = omega (arith, linear)

-- ---- all stores

pub no_store_yet : (season : Season) (values : List ℤ) (store : ℕ) → length season.stores < store → values ≡ pos 0 ∷ [] → AreValues (stocks_from season store) (ends_from season store) values
no_store_yet season values store last is =
    subst (λ mosts. AreValues mosts (ends_from season store) values) (sym (stocks_none season store last))
    (record { size = ap length is; each = λ stocks held. by_stocks stocks held })
  where
    by_stocks : (stocks : List ℕ) → AreWithin [] stocks → at_place values 0 ≡ ends_from season store stocks
    by_stocks [] h = ap (λ list. at_place list 0) is
    by_stocks (x ∷ rest) h = absurd h

ends_sum : (season : Season) (stocks : List ℕ) (at : ℕ → ℕ) → ((i : ℕ) → at (suc i) ≡ suc (at i)) → ends_from season (at 0) stocks ≡ sum_of (length stocks) (λ i. pos cent *ℤ salvage_cents season (at i) (get_or stocks i 0))
ends_sum season [] at next = refl
ends_sum season (stock ∷ stocks) at next =
    ap (λ t. pos cent *ℤ salvage_cents season (at 0) stock +ℤ t) (ap (λ n. ends_from season n stocks) (sym (next 0)) ∙ ends_sum season stocks (λ i. at (suc i)) (λ i. next (suc i)))

pub all_ends : (season : Season) (values : List ℤ) (store : ℕ) → store ≡ 1 → AreValues (stocks_from season store) (ends_from season store) values → AreValues (full_stocks season) (end_value season) values
all_ends season values store first are =
    let from : AreValues (stocks_from season 1) (ends_from season 1) values = subst (λ n. AreValues (stocks_from season n) (ends_from season n) values) first are in
    record {
      size = from.size;
      each = λ stocks held. from.each stocks held ∙ (ends_sum season stocks (λ i. suc i) (λ i. refl)
          ∙ ap (λ n. sum_of n (λ i. pos cent *ℤ salvage_cents season (suc i) (get_or stocks i 0))) (within_length (full_stocks season) stocks held ∙ length-map season.stores (λ s. s.units)));
    }
