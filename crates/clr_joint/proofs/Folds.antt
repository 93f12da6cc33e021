-- One store is folded into the items of a week.
use Rattle.std.proofs.Common.{◌≡◌, ℕ, suc, ◌+◌, ◌-◌, ◌*◌, ◌/◌, ◌%◌, ◌^◌, ◌≤◌, ◌<◌, min, ℤ, pos, ◌+ℤ◌, ◌-ℤ◌, ◌*ℤ◌, cond, List, [], ◌∷◌, ◌++◌, length, get_or, sum, arith, refl, ap, ap₂, sym, ◌∙◌, subst, mul_assoc, mul_comm, mul-le-mul, mul-le-mul_left, mul-le-mul_right, below_more, length-append}
use Rattle.std.proofs.Math.ListN.{get_or-append}
use Rattle.std.proofs.lemmas.Bool.{eq-eqb}
use Rattle.std.proofs.lemmas.List.{get_or-append-add}
use Rattle.clr_num.specs.Sums.{sum_over}
use Rattle.clr_rules.specs.Rules.{price}
use Rattle.clr_season.specs.Season.{Season, demands, store_at, weight, weights_of}
use Rattle.clr_average.specs.Average.{IsWithin}
use Rattle.clr_average.proofs.Ring.{linear}
use Rattle.clr_average.proofs.Sums.{sum_over-same}
use Rattle.clr_average.proofs.Within.{within_more}
use Rattle.clr_model.specs.Revenue.{cent, earn, fee, week_cents}
use Rattle.clr_rows.specs.Rows.{AreWithin}
use Rattle.clr_joint.specs.Folds.{IsCell, cell_sum, fold_item, fold_reach}
use Rattle.clr_joint.proofs.Cells.{whole_within}
use Rattle.clr_joint.proofs.Limits.{reach_more}

-- ---- what a store earns

pub no_fee : (season : Season) (store rung : ℕ) → fee season store rung rung ≡ 0
no_fee season store rung = ap (λ b. cond b 0 (store_at season store).relabel) (eq-eqb rung rung refl)

earned_is : (season : Season) (store rung stock demand power unit : ℕ) → unit ≡ cent * price season.rules rung * power → earn season store rung rung stock demand *ℤ pos power ≡ pos (unit * min demand stock)
unfolding week_cents
earned_is season store rung stock demand power unit is =
    let paid : ℕ = price season.rules rung in
    let free : pos (paid * min stock demand) -ℤ pos (fee season store rung rung) ≡ pos (paid * min stock demand) = ap (λ n. pos (paid * min stock demand) -ℤ pos n) (no_fee season store rung) ∙ nothing (pos (paid * min stock demand)) in
    let turned : min stock demand ≡ min demand stock = omega arith in
    ap (λ t. (pos cent *ℤ t) *ℤ pos power) free
    ∙ ap pos (moved cent paid (min stock demand) power ∙ ap₂ (λ u m. u * m) (sym is) turned)
  where
    nothing : (z : ℤ) → z -ℤ pos 0 ≡ z
    nothing z = omega (arith, linear)

    moved : (a b c d : ℕ) → (a * (b * c)) * d ≡ (a * b * d) * c
    moved a b c d = ap (λ t. t * d) (sym (mul_assoc a b c)) ∙ (mul_assoc (a * b) c d ∙ (ap (λ t. a * b * t) (mul_comm c d) ∙ sym (mul_assoc (a * b) d c)))

-- ---- one place

pub fold_is : (season : Season) (done rung store stride power unit place stock : ℕ) (weights : List ℕ) (items : List ℤ) → weights ≡ weights_of season store (suc done) rung → length weights ≡ suc season.top → unit ≡ cent * price season.rules rung * power →
    stock ≡ (place / stride) % suc (store_at season store).units → cell_sum weights unit items place stock stride (length weights) ≡ fold_item season done rung store stride power items place
fold_is season done rung store stride power unit place stock weights items weights_are size unit_is stock_is =
    ap (cell_sum weights unit items place stock stride) size
    ∙ (sum_over-same (demands season) (λ d. pos (get_or weights d 0) *ℤ (get_or items (place - min d stock * stride) (pos 0) +ℤ pos (unit * min d stock)))
    (λ d. pos (weight season store (suc done) rung d) *ℤ (get_or items (place - min d stock * stride) (pos 0) +ℤ earn season store rung rung stock d *ℤ pos power))
    (λ d. ap₂ (λ (ws : List ℕ) t. pos (get_or ws d 0) *ℤ (get_or items (place - min d stock * stride) (pos 0) +ℤ t)) weights_are (sym (earned_is season store rung stock d power unit unit_is)))
    ∙ ap (λ x. sum_over (demands season) (λ d. pos (weight season store (suc done) rung d) *ℤ (get_or items (place - min d x * stride) (pos 0) +ℤ earn season store rung rung x d *ℤ pos power))) stock_is)

-- the stock that a place has
pub stock_inside : (place stride stocks : ℕ) → 1 ≤ stride → (place / stride) % stocks * stride ≤ place
stock_inside place stride stocks some =
    let low : (place / stride) % stocks ≤ place / stride = omega arith in
    let scaled : (place / stride) % stocks * stride ≤ place / stride * stride = mul-le-mul_right stride low in
    omega arith

pub is_cell : (base count power unit stock : ℕ) (weights : List ℕ) (items : List ℤ) → 1 ≤ base → sum weights ≡ base → AreWithin (fold_reach base count) items → power ≡ base ^ count → unit ≤ 10000000000000 * power → stock ≤ 2000 → fold_reach base (suc count) ≤ 1080000000000000000000000000000000000 →
    IsCell base (fold_reach base count) unit stock weights items
is_cell base count power unit stock weights items some whole within power_is most held reach = record {
  some = some;
  whole = whole;
  values = within;
  fits =
      let sold : unit * stock ≤ (10000000000000 * power) * 2000 = mul-le-mul most held in
      let grouped : (10000000000000 * power) * 2000 ≡ power * 20000000000000000 = omega arith in
      let earned : unit * stock ≤ base ^ count * 20000000000000000 = subst (λ n. unit * stock ≤ n * 20000000000000000) power_is (subst (λ n. unit * stock ≤ n) grouped sold) in
      let wider : fold_reach base count + unit * stock ≤ fold_reach base count + base ^ count * 20000000000000000 = plus_le (fold_reach base count) (unit * stock) (base ^ count * 20000000000000000) earned in
      let all : base * (fold_reach base count + unit * stock) ≤ base * (fold_reach base count + base ^ count * 20000000000000000) = mul-le-mul_left base wider in
      below (base * (fold_reach base count + unit * stock)) (fold_reach base (suc count)) (subst (λ n. base * (fold_reach base count + unit * stock) ≤ n) (sym (reach_more base count)) all) reach;
}
  where
    plus_le : (a b c : ℕ) → b ≤ c → a + b ≤ a + c
    plus_le a b c le = omega arith

    below : (a b : ℕ) → a ≤ b → b ≤ 1080000000000000000000000000000000000 → a < 2 ^ 127
    below a b le most = omega arith

pub item_within : (base count power unit stock place stride : ℕ) (weights : List ℕ) (items : List ℤ) → IsCell base (fold_reach base count) unit stock weights items → place < length items → power ≡ base ^ count → unit ≤ 10000000000000 * power → stock ≤ 2000 →
    IsWithin (fold_reach base (suc count)) (cell_sum weights unit items place stock stride (length weights))
item_within base count power unit stock place stride weights items is inside power_is most held =
    let sold : unit * stock ≤ (10000000000000 * power) * 2000 = mul-le-mul most held in
    let grouped : (10000000000000 * power) * 2000 ≡ power * 20000000000000000 = omega arith in
    let earned : unit * stock ≤ base ^ count * 20000000000000000 = subst (λ n. unit * stock ≤ n * 20000000000000000) power_is (subst (λ n. unit * stock ≤ n) grouped sold) in
    let wider : fold_reach base count + unit * stock ≤ fold_reach base count + base ^ count * 20000000000000000 = plus_le (fold_reach base count) (unit * stock) (base ^ count * 20000000000000000) earned in
    within_more (base * (fold_reach base count + unit * stock)) (fold_reach base (suc count)) (cell_sum weights unit items place stock stride (length weights)) (whole_within base (fold_reach base count) unit stock weights items is place stride inside)
    (subst (λ n. base * (fold_reach base count + unit * stock) ≤ n) (sym (reach_more base count)) (mul-le-mul_left base wider))
  where
    plus_le : (a b c : ℕ) → b ≤ c → a + b ≤ a + c
    plus_le a b c le = omega arith

-- ---- one item more at the end of a list

pub pushed : {X : Type 0} (items : List X) (count : ℕ) (item d : X) (P : ℕ → X → Type 0) → length items ≡ count → ((k : ℕ) → k < count → P k (get_or items k d)) → P count item → (k : ℕ) → k < count + 1 → P k (get_or (items ++ item ∷ []) k d)
pushed items count item d P size before here =
    below_more (λ k. P k (get_or (items ++ item ∷ []) k d)) count
    (λ k h. subst (P k) (sym (get_or-append items (item ∷ []) d k (subst (λ n. k < n) (sym size) h))) (before k h))
    (subst (P count) (sym at_end) here)
  where
    at_end : get_or (items ++ item ∷ []) count d ≡ item
    at_end = let none : length items + 0 ≡ count = omega (arith, size) in ap (λ n. get_or (items ++ item ∷ []) n d) (sym none) ∙ get_or-append-add items (item ∷ []) 0 d

pub pushed_size : {X : Type 0} (items : List X) (count : ℕ) (item : X) → length items ≡ count → length (items ++ item ∷ []) ≡ count + 1
pushed_size items count item size = length-append items (item ∷ []) ∙ ap (λ n. n + 1) size
