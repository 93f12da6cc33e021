-- A path's values enclose what it earns, and lie close together.
use Rattle.std.proofs.Common.{◌+ℤ◌, ◌*◌, ◌≡◌, ℕ, ◌+◌, ◌-◌, ◌<◌, ◌≤◌, min, ℤ, pos, ◌-ℤ◌, ◌*ℤ◌, ◌≤ℤ◌, ◌<ℤ◌, refl, sym, ap, ◌∙◌, subst, subst₂, arith, suc, zero, List, [], ◌∷◌, get_or, length, IsTrue}
use Rattle.std.proofs.lemmas.Bool.{and_parts}
use Rattle.std.proofs.lemmas.Int.{by_lt_z}
use lib.IntN.{*ℤ_comm, +ℤ_idr}
use Rattle.clr_num.specs.Rounding.{floor, ceil}
use Rattle.clr_num.specs.Direction.{IsDirection, AtLeast, AtMost}
use Rattle.clr_num.specs.DirectionLaws.{floor_is_direction, ceil_is_direction}
use Rattle.clr_num.specs.Sums.{sum_over, sum_of}
use Rattle.clr_rules.specs.Rules.{IsPath, are_rungs}
use Rattle.clr_rules.proofs.LiveLemmas.{is_rung-parts}
use Rattle.clr_season.specs.Season.{Season, IsSeason, demands, weight, store_at}
use Rattle.clr_average.proofs.Ring.{linear, add_mul, mul_add, one_mul, scale_le, scale_le_right, times_one}
use Rattle.clr_average.proofs.Sums.{sum_over-add, sum_over-scale_right}
use Rattle.clr_model.specs.Policies.{stop, joint_demands, IsWhole, const_tree}
use Rattle.clr_model.specs.Revenue.{cent, earn, left, salvage_cents, sum_stores, of_store, full_stocks, stocks_left, revenue}
use Rattle.clr_model.specs.Expected.{den, earned, season_earned}
use Rattle.clr_model.specs.PathValue.{weighed, path_value, path_total, path_low, path_high}
use Rattle.clr_model.specs.Laws.{PathEnclosed}
use Rattle.clr_model.proofs.Sums.{All-every, All-imply, sum_of-add, sum_of-le, sum_of-same, sum_of-scale, sum_over-le}
use Rattle.clr_model.proofs.Weeks.{den_zero, store_mass}
use Rattle.clr_model.proofs.Steps.{store_step}

-- ---- at the end of the season

pub earned-stop : (season : Season) (done before : ℕ) (stocks : List ℕ) → pos cent *ℤ earned season done zero before stocks stop ≡ sum_stores season (λ store. pos cent *ℤ salvage_cents season store (of_store stocks store))
unfolding earned
earned-stop season done before stocks =
    let each : revenue season before stocks [] [] ≡ sum_stores season (λ store. salvage_cents season store (of_store stocks store))
    = sum_of-same (length season.stores) _ _ (λ i p. nothing (salvage_cents season (suc i) (get_or stocks i 0 - min (get_or stocks i 0) 0)) (store_at season (suc i)).relabel ∙ ap (salvage_cents season (suc i)) (whole (get_or stocks i 0))) in
    ap (λ t. pos cent *ℤ t) (+ℤ_idr _ ∙ one_mul _ ∙ each) ∙ sym (sum_of-scale (length season.stores) (pos cent) (λ i. salvage_cents season (suc i) (get_or stocks i 0)))
  where
    nothing : (v : ℤ) (c : ℕ) → pos 0 +ℤ v -ℤ pos (c * 0) ≡ v
    nothing v c = omega (arith, linear)

    whole : (stock : ℕ) → stock - min stock 0 ≡ stock
    whole stock = omega arith

-- a number over the denominator of no week
pub over_none : (season : Season) (value : ℤ) → value *ℤ den season zero ≡ value
over_none season value = ap (λ t. value *ℤ t) (den_zero season) ∙ times_one value

-- ---- the tree of a path

pub whole_const : (season : Season) (path : List ℕ) → IsTrue (are_rungs season.rules path) → IsWhole season (length path) (const_tree path)
whole_const season [] h = tt
whole_const season (rung ∷ path) h =
    let parts = and_parts _ _ h in
    let range = is_rung-parts rung (length season.rules.prices) parts.0 in
    (range.0, range.1, All-every _ (joint_demands season) (λ week. whole_const season path parts.1))

-- ---- a path's value, rounded one way, leans that way from what the path earns

module _ (leans : ℤ → ℤ → Type 0) (div : ℤ → ℕ → ℤ) (laws : IsDirection leans div) (season : Season) (ok : IsSeason season) where
  rest_leans : (done weeks before : ℕ) (path : List ℕ) (stocks : List ℕ) → done + weeks ≤ season.rules.weeks → IsWhole season weeks (const_tree path) →
      leans (sum_stores season (λ store. path_value div season store done before path (of_store stocks store)) *ℤ den season weeks) (pos cent *ℤ earned season done weeks before stocks (const_tree path))
  rest_leans done zero before [] stocks fits whole =
      let worth : ℤ = sum_stores season (λ store. pos cent *ℤ salvage_cents season store (of_store stocks store)) in
      subst₂ leans (sym (over_none season worth)) (sym (earned-stop season done before stocks)) (laws.same worth)
  rest_leans done zero before (rung ∷ path) stocks fits whole = absurd whole
  rest_leans done (suc weeks) before [] stocks fits whole = absurd whole
  rest_leans done (suc weeks) before (rung ∷ path) stocks fits whole =
      store_step leans div laws season done weeks before rung stocks (λ week. const_tree path) (λ store stock. path_value div season store (suc done) rung path stock) (λ store. path_value div season store done before (rung ∷ path) (of_store stocks store)) ok fits whole
      (λ i p. laws.divides (weighed season (suc i) done before rung (get_or stocks i 0) (λ stock. path_value div season (suc i) (suc done) rung path stock)) season.base ok.least_base)
      (All-imply (λ week. IsWhole season weeks (const_tree path)) _ (joint_demands season)
      (λ week h. rest_leans (suc done) weeks rung path (stocks_left stocks week) (omega arith) h)
      whole.2)

  pub path_leans : (path : List ℕ) → IsPath season.rules path → leans (path_total div season path *ℤ den season season.rules.weeks) (pos cent *ℤ season_earned season (const_tree path))
  path_leans path is = rest_leans 0 season.rules.weeks 1 path (full_stocks season) (omega arith) (subst (λ n. IsWhole season n (const_tree path)) is.weeks (whole_const season path is.rungs))

-- ---- how far the values rounded up and down lie apart

-- a factor of at least 1 may be cut from both sides
cut_factor : (a b : ℤ) (base : ℕ) → (a *ℤ pos base) <ℤ (b *ℤ pos base) → a <ℤ b
cut_factor a b base h = by_lt_z a b (λ l. l) (λ l. let scaled : (b *ℤ pos base) ≤ℤ (a *ℤ pos base) = scale_le_right base b a l in omega (arith, linear))

-- rounded up and down, at sums that lie n bases apart
pub apart : (up_sum down_sum high low : ℤ) (n base : ℕ) → (high *ℤ pos base) <ℤ (up_sum +ℤ pos base) → down_sum <ℤ (low *ℤ pos base +ℤ pos base) → up_sum ≤ℤ (down_sum +ℤ pos n *ℤ pos base) → high ≤ℤ (low +ℤ pos (suc n))
apart up_sum down_sum high low n base p q r =
    let parts : (low +ℤ pos (n + 2)) *ℤ pos base ≡ low *ℤ pos base +ℤ pos ((n + 2) * base) = add_mul low (pos (n + 2)) (pos base) in
    let spread : pos ((n + 2) * base) ≡ pos n *ℤ pos base +ℤ pos base +ℤ pos base = ap pos (twice n base) in
    let less : high <ℤ (low +ℤ pos (n + 2)) = cut_factor high (low +ℤ pos (n + 2)) base (omega (arith, linear)) in
    omega (arith, linear)
  where
    twice : (n b : ℕ) → (n + 2) * b ≡ n * b + b + b
    twice n b = omega arith

-- weights that sum to the base
pub weights_apart : {X : Type 0} (xs : List X) (w e f g : X → ℤ) (n base : ℕ) → ((x : X) → (k : ℕ) × (w x ≡ pos k)) → sum_over xs w ≡ pos base → ((x : X) → f x ≤ℤ (g x +ℤ pos n)) →
    sum_over xs (λ x. w x *ℤ (e x +ℤ f x)) ≤ℤ (sum_over xs (λ x. w x *ℤ (e x +ℤ g x)) +ℤ pos n *ℤ pos base)
weights_apart xs w e f g n base natural mass h =
    subst (λ t. sum_over xs (λ x. w x *ℤ (e x +ℤ f x)) ≤ℤ t) total
    (sum_over-le xs (λ x. w x *ℤ (e x +ℤ f x)) (λ x. w x *ℤ (e x +ℤ g x) +ℤ w x *ℤ pos n) (All-every _ xs each))
  where
    total : sum_over xs (λ x. w x *ℤ (e x +ℤ g x) +ℤ w x *ℤ pos n) ≡ sum_over xs (λ x. w x *ℤ (e x +ℤ g x)) +ℤ pos n *ℤ pos base
    total = sum_over-add xs (λ x. w x *ℤ (e x +ℤ g x)) (λ x. w x *ℤ pos n) ∙ ap (λ t. sum_over xs (λ x. w x *ℤ (e x +ℤ g x)) +ℤ t) (sum_over-scale_right xs (pos n) w ∙ (ap (λ t. t *ℤ pos n) mass ∙ *ℤ_comm (pos base) (pos n)))

    each : (x : _) → (w x *ℤ (e x +ℤ f x)) ≤ℤ (w x *ℤ (e x +ℤ g x) +ℤ w x *ℤ pos n)
    each x =
        let r = natural x in
        let more : (e x +ℤ f x) ≤ℤ (e x +ℤ g x +ℤ pos n) = wider (e x) (f x) (g x) n (h x) in
        subst (λ t. (w x *ℤ (e x +ℤ f x)) ≤ℤ t) (mul_add (w x) (e x +ℤ g x) (pos n))
        (subst (λ t. (t *ℤ (e x +ℤ f x)) ≤ℤ (t *ℤ (e x +ℤ g x +ℤ pos n))) (sym r.1) (scale_le r.0 (e x +ℤ f x) (e x +ℤ g x +ℤ pos n) more))
      where
        wider : (e f g : ℤ) (n : ℕ) → f ≤ℤ (g +ℤ pos n) → (e +ℤ f) ≤ℤ (e +ℤ g +ℤ pos n)
        wider e f g n h = omega (arith, linear)

value_width : (season : Season) (i done before : ℕ) (path : List ℕ) (stock : ℕ) → IsSeason season → i < length season.stores → done + length path ≤ season.rules.weeks → IsTrue (are_rungs season.rules path) →
    path_value ceil season (suc i) done before path stock ≤ℤ (path_value floor season (suc i) done before path stock +ℤ pos (length path))
value_width season i done before [] stock ok p fits are = omega (arith, linear)
value_width season i done before (rung ∷ path) stock ok p fits are =
    let parts = and_parts _ _ are in
    let range = is_rung-parts rung (length season.rules.prices) parts.0 in
    apart (weighed season (suc i) done before rung stock (path_value ceil season (suc i) (suc done) rung path)) (weighed season (suc i) done before rung stock (path_value floor season (suc i) (suc done) rung path)) _ _ (length path) season.base
    (ceil_is_direction.below _ season.base ok.least_base) (floor_is_direction.above _ season.base ok.least_base)
    (weights_apart (demands season) (λ demand. pos (weight season (suc i) (suc done) rung demand)) (λ demand. earn season (suc i) before rung stock demand)
    (λ demand. path_value ceil season (suc i) (suc done) rung path (left stock demand)) (λ demand. path_value floor season (suc i) (suc done) rung path (left stock demand)) (length path) season.base
    (λ demand. (weight season (suc i) (suc done) rung demand, refl))
    (store_mass season (suc done) rung ok (omega arith) (omega arith) range.0 range.1 i p)
    (λ demand. value_width season i (suc done) rung path (left stock demand) ok p (omega arith) parts.1))

sum_of-const : (n k : ℕ) → sum_of n (λ i. pos k) ≡ pos (n * k)
sum_of-const zero k = ap pos (zero_times k)
  where
    zero_times : (k : ℕ) → 0 ≡ 0 * k
    zero_times k = omega arith
sum_of-const (suc n) k = ap (λ t. pos k +ℤ t) (sum_of-const n k) ∙ ap pos (more n k)
  where
    more : (n k : ℕ) → k + n * k ≡ suc n * k
    more n k = omega arith

path_width : (season : Season) (path : List ℕ) → IsSeason season → IsPath season.rules path → path_high season path ≤ℤ (path_low season path +ℤ pos (length season.stores * season.rules.weeks))
path_width season path ok is =
    subst (λ t. path_high season path ≤ℤ t)
    (sum_of-add (length season.stores) (λ i. path_value floor season (suc i) 0 1 path (get_or (full_stocks season) i 0)) (λ i. pos (length path))
    ∙ ap (λ t. path_low season path +ℤ t) (sum_of-const (length season.stores) (length path) ∙ ap (λ n. pos (length season.stores * n)) is.weeks))
    (sum_of-le (length season.stores) (λ i. path_value ceil season (suc i) 0 1 path (get_or (full_stocks season) i 0)) (λ i. path_value floor season (suc i) 0 1 path (get_or (full_stocks season) i 0) +ℤ pos (length path))
    (λ i p. value_width season i 0 1 path (get_or (full_stocks season) i 0) ok p (omega arith) is.rungs))

pub path_enclosed_lem : PathEnclosed
path_enclosed_lem season path ok is = record {
  encloses = record {
    least = path_leans AtMost floor floor_is_direction season ok path is;
    most = path_leans AtLeast ceil ceil_is_direction season ok path is;
  };
  width = path_width season path ok is;
}
