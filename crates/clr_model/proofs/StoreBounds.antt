-- Numbers that cover bound every policy, and the store values are such numbers.
use Rattle.std.proofs.Common.{◌≡◌, ℕ, ◌+◌, ◌-◌, ◌<◌, ◌≤◌, min, ℤ, pos, ◌-ℤ◌, ◌*ℤ◌, ◌≤ℤ◌, ◌+ℤ◌, refl, sym, ap, ◌∙◌, subst, subst₂, arith, suc, zero, List, [], ◌∷◌, ◌++◌, get_or, length, IsTrue, le_refl}
use lib.ListN.{length-map}
use Rattle.clr_num.specs.Rounding.{ceil}
use Rattle.clr_num.specs.Direction.{AtLeast}
use Rattle.clr_num.specs.DirectionLaws.{ceil_is_direction}
use Rattle.clr_num.specs.Sums.{sum_of}
use Rattle.clr_rules.specs.Rules.{is_live, live_rungs}
use Rattle.clr_rules.proofs.LiveLemmas.{live_from, live-length, All-live_rungs}
use Rattle.clr_season.specs.Season.{Season, IsSeason}
use Rattle.clr_average.proofs.Ring.{linear, scale_le_right, times_one}
use Rattle.clr_model.specs.Policies.{Tree, stop, node, joint_demands, AbidesFrom}
use Rattle.clr_model.specs.Revenue.{cent, salvage_cents, sum_stores, of_store, full_stocks, stocks_left}
use Rattle.clr_model.specs.Expected.{den, earned}
use Rattle.clr_model.specs.PathValue.{weighed, IsStock}
use Rattle.clr_model.specs.StoreValue.{Multipliers, SumToZero, IsCover, AreStocks, last_rung, rung_value, store_value, store_value_at}
use Rattle.clr_model.specs.StoreLaws.{CoversTop, BoundTops}
use Rattle.clr_model.proofs.Sums.{All-imply, sum_of-le}
use Rattle.clr_model.proofs.Weeks.{den_zero, of_store-stocks_left}
use Rattle.clr_model.proofs.Steps.{store_step}
use Rattle.clr_model.proofs.PathBounds.{earned-stop}
use Rattle.clr_model.proofs.Abiding.{length_more, last_rung_more, abides_kids, abides_live}
use Rattle.clr_model.proofs.Best.{first_best-greatest}

-- ---- stocks

length-stocks_left : (stocks week : List ℕ) → length (stocks_left stocks week) ≡ length stocks
length-stocks_left [] week = refl
length-stocks_left (stock ∷ stocks) [] = refl
length-stocks_left (stock ∷ stocks) (demand ∷ week) = ap suc (length-stocks_left stocks week)

pub stocks-left : (season : Season) (stocks week : List ℕ) → AreStocks season stocks → AreStocks season (stocks_left stocks week)
stocks-left season stocks week h = record {
  count = length-stocks_left stocks week ∙ h.count;
  held = elim [ zero ↦ h.held zero | suc i ↦ rw of_store-stocks_left (less (get_or stocks i 0) (get_or week i 0) (get_or (full_stocks season) i 0) (h.held (suc i))) ];
}
  where
    less : (x d n : ℕ) → x ≤ n → x - min x d ≤ n
    less x d n h = omega arith

pub full-stocks : (season : Season) → AreStocks season (full_stocks season)
full-stocks season = record { count = length-map season.stores (λ store. store.units); held = λ store. le_refl (of_store (full_stocks season) store) }

-- ---- numbers that cover

minus_zero_sum : (a m : ℤ) → m ≡ pos 0 → a ≡ a -ℤ m
minus_zero_sum a m h = omega (arith, linear)

sum_of-sub : (n : ℕ) (f g : ℕ → ℤ) → sum_of n (λ i. f i -ℤ g i) ≡ sum_of n f -ℤ sum_of n g
sum_of-sub zero f g = refl
sum_of-sub (suc n) f g =
    let rest : sum_of n (λ i. f (suc i) -ℤ g (suc i)) ≡ sum_of n (λ i. f (suc i)) -ℤ sum_of n (λ i. g (suc i)) = sum_of-sub n (λ i. f (suc i)) (λ i. g (suc i)) in
    omega (arith, linear)

module _ (season : Season) (m : Multipliers) (v : ℕ → List ℕ → ℕ → ℤ) (ok : IsSeason season) (sums : SumToZero season m) (cover : IsCover season m v) where
  stock_at : (stocks : List ℕ) (i : ℕ) → AreStocks season stocks → i < length season.stores → IsStock season (suc i) (get_or stocks i 0)
  stock_at stocks i h p = record { first = omega arith; last = p; held = h.held (suc i) }

  pub covers_from : (prefix : List ℕ) (weeks : ℕ) (stocks : List ℕ) (tree : Tree) → AreStocks season stocks → length prefix + weeks ≡ season.rules.weeks → AbidesFrom season prefix weeks tree →
      AtLeast (sum_stores season (λ store. v store prefix (of_store stocks store)) *ℤ den season weeks) (pos cent *ℤ earned season (length prefix) weeks (last_rung prefix) stocks tree)
  covers_from prefix zero stocks stop h long abides =
      let total : ℤ = sum_stores season (λ store. v store prefix (of_store stocks store)) in
      subst₂ AtLeast (sym (ap (λ t. total *ℤ t) (den_zero season) ∙ times_one total)) (sym (earned-stop season (length prefix) (last_rung prefix) stocks))
      (sum_of-le (length season.stores) (λ i. pos cent *ℤ salvage_cents season (suc i) (get_or stocks i 0)) (λ i. v (suc i) prefix (get_or stocks i 0))
      (λ i p. cover.end (suc i) prefix (get_or stocks i 0) (stock_at stocks i h p) live (omega arith)))
    where
      live : IsTrue (is_live season.rules prefix)
      live = live_from season.rules prefix [] abides.branches.0
  covers_from prefix zero stocks (node rung kids) h long abides = absurd abides.whole
  covers_from prefix (suc weeks) stocks stop h long abides = absurd abides.whole
  covers_from prefix (suc weeks) stocks (node rung kids) h long abides =
      subst (λ t. AtLeast (t *ℤ den season (suc weeks)) (pos cent *ℤ earned season (length prefix) (suc weeks) (last_rung prefix) stocks (node rung kids))) total
      (store_step AtLeast ceil ceil_is_direction season (length prefix) weeks (last_rung prefix) rung stocks kids (λ store. v store (prefix ++ rung ∷ [])) (λ store. v store prefix (of_store stocks store) -ℤ m store (suc (length prefix)) rung)
      ok (omega arith) abides.whole
      (λ i p. cover.week (suc i) prefix rung (get_or stocks i 0) (stock_at stocks i h p) (abides_live season prefix weeks rung kids abides))
      (All-imply (λ week. AbidesFrom season (prefix ++ rung ∷ []) weeks (kids week)) _ (joint_demands season)
      (λ week a. subst₂ (λ done before. AtLeast (sum_stores season (λ store. v store (prefix ++ rung ∷ []) (of_store (stocks_left stocks week) store)) *ℤ den season weeks) (pos cent *ℤ earned season done weeks before (stocks_left stocks week) (kids week)))
      (length_more prefix rung) (last_rung_more prefix rung)
      (covers_from (prefix ++ rung ∷ []) weeks (stocks_left stocks week) (kids week) (stocks-left season stocks week h) (long_more (length prefix) (length (prefix ++ rung ∷ [])) (length_more prefix rung) long) a))
      (abides_kids season prefix weeks rung kids abides)))
    where
      total : sum_stores season (λ store. v store prefix (of_store stocks store) -ℤ m store (suc (length prefix)) rung) ≡ sum_stores season (λ store. v store prefix (of_store stocks store))
      total = sum_of-sub (length season.stores) (λ i. v (suc i) prefix (get_or stocks i 0)) (λ i. m (suc i) (suc (length prefix)) rung)
          ∙ sym (minus_zero_sum _ _ (sums (suc (length prefix)) rung (omega arith) (omega arith) abides.whole.0 abides.whole.1))

      long_more : (n k : ℕ) → k ≡ suc n → n + suc weeks ≡ season.rules.weeks → k + weeks ≡ season.rules.weeks
      long_more n k e l = omega arith

pub covers_top_lem : CoversTop
covers_top_lem season m v ok sums cover prefix weeks stocks tree long held abides = covers_from season m v ok sums cover prefix weeks stocks tree held long abides

-- ---- the store values

at_least : (sum value mult now : ℤ) (base : ℕ) → 1 ≤ base → sum ≤ℤ (value *ℤ pos base) → (value +ℤ mult) ≤ℤ now → sum ≤ℤ ((now -ℤ mult) *ℤ pos base)
at_least sum value mult now base h p q =
    let less : value ≤ℤ (now -ℤ mult) = omega (arith, linear) in
    let scaled : (value *ℤ pos base) ≤ℤ ((now -ℤ mult) *ℤ pos base) = scale_le_right base value (now -ℤ mult) less in
    omega (arith, linear)

one_more : (weeks done : ℕ) → suc done ≤ weeks → weeks - done ≡ suc (weeks - suc done)
one_more weeks done h = omega arith

pub store_values_cover : (season : Season) (m : Multipliers) → IsSeason season → IsCover season m (store_value_at ceil m season)
store_values_cover season m ok = record {
  week = λ store prefix rung stock held live.
      let long : length (prefix ++ rung ∷ []) ≡ suc (length prefix) = length_more prefix rung in
      let short : suc (length prefix) ≤ season.rules.weeks = subst (λ n. n ≤ season.rules.weeks) long (live-length season.rules (prefix ++ rung ∷ []) live) in
      subst (λ n. weighed season store (length prefix) (last_rung prefix) rung stock (store_value ceil m season store (season.rules.weeks - n) (prefix ++ rung ∷ [])) ≤ℤ ((store_value_at ceil m season store prefix stock -ℤ m store (suc (length prefix)) rung) *ℤ pos season.base)) (sym long)
      (subst (λ n. weighed season store (length prefix) (last_rung prefix) rung stock (store_value ceil m season store (season.rules.weeks - suc (length prefix)) (prefix ++ rung ∷ [])) ≤ℤ ((store_value ceil m season store n prefix stock -ℤ m store (suc (length prefix)) rung) *ℤ pos season.base)) (sym (one_more season.rules.weeks (length prefix) short))
      (at_least _ _ _ _ season.base ok.least_base (ceil_is_direction.divides _ season.base ok.least_base)
      (All-live_rungs season.rules prefix (λ r. rung_value ceil m season store prefix r stock (λ rest. store_value ceil m season store (season.rules.weeks - suc (length prefix)) (prefix ++ r ∷ []) rest) ≤ℤ store_value ceil m season store (suc (season.rules.weeks - suc (length prefix))) prefix stock) rung live
      (first_best-greatest (λ r. rung_value ceil m season store prefix r stock (λ rest. store_value ceil m season store (season.rules.weeks - suc (length prefix)) (prefix ++ r ∷ []) rest)) 1 (live_rungs season.rules prefix)))));
  end = λ store prefix stock held live whole.
      let none : 0 ≡ season.rules.weeks - length prefix = omega arith in
      subst (λ n. (pos cent *ℤ salvage_cents season store stock) ≤ℤ store_value ceil m season store n prefix stock) none (omega (arith, linear));
}

pub bound_tops_lem : BoundTops
bound_tops_lem season m ok sums tree abides =
    covers_top_lem season m (store_value_at ceil m season) ok sums (store_values_cover season m ok) [] season.rules.weeks (full_stocks season) tree (omega arith) (full-stocks season) abides
