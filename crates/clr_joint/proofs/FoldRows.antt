-- The last stores are folded one by one.
use Rattle.std.proofs.Common.{◌≡◌, ℕ, suc, ◌+◌, ◌-◌, ◌*◌, ◌/◌, ◌%◌, ◌^◌, ◌≤◌, ◌<◌, min, ℤ, pos, ◌+ℤ◌, ◌*ℤ◌, List, ◌∷◌, length, get_or, arith, refl, ap, ap₂, sym, ◌∙◌, subst, add-one, add-mul, mul_assoc, mul-le-mul_right, length-drop}
use mathlib.Core.Path.{fun_ext}
use Rattle.std.proofs.Math.Nat.{pow-zero}
use Rattle.std.proofs.lemmas.Nat.{div_below, mod_below, div-mul-add, mod-mul-add}
use Rattle.clr_num.specs.Sums.{sum_over}
use Rattle.clr_season.specs.Season.{Season, demands, store_at, weight}
use Rattle.clr_average.specs.Average.{IsWithin}
use Rattle.clr_average.proofs.Sums.{sum_over-same}
use Rattle.clr_model.specs.JointFold.{fold_stores}
use Rattle.clr_model.specs.Revenue.{earn, full_stocks, left}
use Rattle.clr_rows.specs.Rows.{AreWithin}
use Rattle.clr_joint.specs.Folds.{AreFolded, fold_item, fold_reach, last_units}
use Rattle.clr_model.specs.Stocks.{lists_of, place_in, stocks_at}
use Rattle.clr_joint.proofs.Grid.{last_units_more, last_units_none, length-full_stocks, length-stocks_at}
use Rattle.clr_joint.proofs.Limits.{lists_some}

-- ---- places in blocks

regroup : (block units lists stock place : ℕ) → block * (suc units * lists) + (stock * lists + place) ≡ (block * suc units + stock) * lists + place
regroup block units lists stock place =
    let a : block * suc units * lists ≡ block * (suc units * lists) = mul_assoc block (suc units) lists in
    let b : (block * suc units + stock) * lists ≡ block * suc units * lists + stock * lists = add-mul (block * suc units) stock lists in
    omega (arith, a, b)

less : (a b lists place : ℕ) → b ≤ a → (a * lists + place) - b * lists ≡ (a - b) * lists + place
less a b lists place le =
    let split : (a - b + b) * lists ≡ (a - b) * lists + b * lists = add-mul (a - b) b lists in
    let same : (a - b + b) * lists ≡ a * lists = let e : a - b + b ≡ a = omega arith in ap (λ n. n * lists) e in
    omega (arith, split, same)

module _ (season : Season) (done rung store units : ℕ) (more : List ℕ) (row items : List ℤ) (units_are : units ≡ (store_at season store).units)
    (each : (block place : ℕ) → place < lists_of more → block * lists_of more + place < length row →
    get_or items (block * lists_of more + place) (pos 0) ≡ fold_stores season done rung rung (suc store) (stocks_at more place) (λ rest. get_or row (block * lists_of more + place_in more rest) (pos 0))) where
  -- what stands where a demand has been met
  met : (block stock place demand : ℕ) → place < lists_of more → (block * suc units + stock) * lists_of more + place < length row →
      get_or items ((block * suc units + stock) * lists_of more + place - min demand stock * lists_of more) (pos 0)
      ≡ fold_stores season done rung rung (suc store) (stocks_at more place) (λ rest. get_or row (block * (suc units * lists_of more) + (left stock demand * lists_of more + place_in more rest)) (pos 0))
  met block stock place demand lt inside =
      let lists : ℕ = lists_of more in
      let kept : block * suc units + stock - min demand stock ≡ block * suc units + left stock demand = omega arith in
      let moved : (block * suc units + stock) * lists_of more + place - min demand stock * lists_of more ≡ (block * suc units + left stock demand) * lists_of more + place
      = less (block * suc units + stock) (min demand stock) (lists_of more) place (omega arith) ∙ ap (λ n. n * lists_of more + place) kept in
      let low : (block * suc units + left stock demand) * lists_of more ≤ (block * suc units + stock) * lists_of more = mul-le-mul_right (lists_of more) (omega arith) in
      ap (λ n. get_or items n (pos 0)) moved
      ∙ (each (block * suc units + left stock demand) place lt (omega (arith, low, inside))
      ∙ ap (fold_stores season done rung rung (suc store) (stocks_at more place)) (fun_ext (λ rest. ap (λ n. get_or row n (pos 0)) (sym (regroup block units (lists_of more) (left stock demand) (place_in more rest))))))

  pub one_store : (block place : ℕ) → place < suc units * lists_of more → block * (suc units * lists_of more) + place < length row →
      fold_item season done rung store (lists_of more) (season.base ^ length more) items (block * (suc units * lists_of more) + place)
      ≡ fold_stores season done rung rung store (place / lists_of more ∷ stocks_at more (place % lists_of more)) (λ rest. get_or row (block * (suc units * lists_of more) + place_in (units ∷ more) rest) (pos 0))
  one_store block place lt inside =
      let some : 0 < lists_of more = lists_some more in
      let low : place % lists_of more < lists_of more = mod_below place (lists_of more) some in
      let held : place / lists_of more < suc units = div_below place (lists_of more) (suc units) some lt in
      let parts : place ≡ place / lists_of more * lists_of more + place % lists_of more = omega arith in
      let at : block * (suc units * lists_of more) + place ≡ (block * suc units + place / lists_of more) * lists_of more + place % lists_of more
      = ap (λ n. block * (suc units * lists_of more) + n) parts ∙ regroup block units (lists_of more) (place / lists_of more) (place % lists_of more) in
      let stock : ((block * (suc units * lists_of more) + place) / lists_of more) % suc (store_at season store).units ≡ place / lists_of more
      = ap₂ (λ n (u : ℕ). (n / lists_of more) % suc u) at (sym units_are)
      ∙ (ap (λ n. n % suc units) (div-mul-add (block * suc units + place / lists_of more) (lists_of more) (place % lists_of more) low)
      ∙ mod-mul-add block (suc units) (place / lists_of more) held) in
      ap (λ (x : ℕ). sum_over (demands season) (λ demand. pos (weight season store (suc done) rung demand) *ℤ (get_or items (block * (suc units * lists_of more) + place - min demand x * lists_of more) (pos 0) +ℤ earn season store rung rung x demand *ℤ pos (season.base ^ length more)))) stock
      ∙ sum_over-same (demands season) _ _
      (λ demand. ap₂ (λ t n. pos (weight season store (suc done) rung demand) *ℤ (t +ℤ earn season store rung rung (place / lists_of more) demand *ℤ pos (season.base ^ n)))
      (ap (λ n. get_or items (n - min demand (place / lists_of more) * lists_of more) (pos 0)) at
      ∙ met block (place / lists_of more) (place % lists_of more) demand low (subst (λ n. n < length row) at inside))
      (sym (length-stocks_at more (place % lists_of more))))

-- ---- from none to all

pub folded_none : (season : Season) (done rung : ℕ) (row items : List ℤ) → items ≡ row → AreWithin 1000000000000000000 row → AreFolded season done rung 0 row items
folded_none season done rung row items is within = record {
  size = ap length is;
  within = λ k lt. subst (λ n. IsWithin n (get_or items k (pos 0))) (sym (none season.base)) (subst (λ (xs : List ℤ). IsWithin 1000000000000000000 (get_or xs k (pos 0))) (sym is) (within k (subst (λ (xs : List ℤ). k < length xs) is lt)));
  each = λ block place lt inside.
      subst (λ (us : List ℕ). place < lists_of us → get_or items (block * lists_of us + place) (pos 0) ≡ fold_stores season done rung rung (suc (length season.stores - 0)) (stocks_at us place) (λ rest. get_or row (block * lists_of us + place_in us rest) (pos 0))) (sym (last_units_none season))
      (λ low. ap₂ (λ (xs : List ℤ) n. get_or xs (block * 1 + n) (pos 0)) is (zeroed place low)) lt;
}
  where
    none : (base : ℕ) → fold_reach base 0 ≡ 1000000000000000000
    none base = let power : base ^ 0 ≡ 1 = pow-zero base in ap (λ n. n * (1000000000000000000 + 0 * 20000000000000000)) power

    zeroed : (place : ℕ) → place < 1 → place ≡ 0
    zeroed place low = omega arith

length-last : (season : Season) (count : ℕ) → count ≤ length season.stores → length (last_units season count) ≡ count
length-last season count le =
    let size : length (last_units season count) ≡ length (full_stocks season) - (length season.stores - count) = length-drop (length season.stores - count) (full_stocks season) in
    omega (arith, size, length-full_stocks season)

pub folded_more : (season : Season) (done rung count stride power : ℕ) (row items now : List ℤ) → count < length season.stores → stride ≡ lists_of (last_units season count) → power ≡ season.base ^ count → AreFolded season done rung count row items →
    length now ≡ length items → AreWithin (fold_reach season.base (count + 1)) now →
    ((place : ℕ) → place < length items → get_or now place (pos 0) ≡ fold_item season done rung (length season.stores - count) stride power items place) → AreFolded season done rung (count + 1) row now
folded_more season done rung count stride power row items now lt stride_is power_is are size within each =
    subst (λ n. AreFolded season done rung n row now) (sym (add-one count)) (record {
      size = size ∙ are.size;
      within = subst (λ n. AreWithin (fold_reach season.base n) now) (add-one count) within;
      each = λ block place low inside.
          subst (λ (us : List ℕ). place < lists_of us → block * lists_of us + place < length row → get_or now (block * lists_of us + place) (pos 0) ≡ fold_stores season done rung rung (suc (length season.stores - suc count)) (stocks_at us place) (λ rest. get_or row (block * lists_of us + place_in us rest) (pos 0)))
          (sym (last_units_more season count lt)) (one block place) low inside;
    })
  where
    store : ℕ
    store = length season.stores - count

    first : (n k : ℕ) → k < n → suc (n - suc k) ≡ n - k
    first n k low = omega arith

    one : (block place : ℕ) → place < suc (store_at season (length season.stores - count)).units * lists_of (last_units season count) → block * (suc (store_at season (length season.stores - count)).units * lists_of (last_units season count)) + place < length row →
        get_or now (block * (suc (store_at season (length season.stores - count)).units * lists_of (last_units season count)) + place) (pos 0)
        ≡ fold_stores season done rung rung (suc (length season.stores - suc count)) (place / lists_of (last_units season count) ∷ stocks_at (last_units season count) (place % lists_of (last_units season count)))
        (λ rest. get_or row (block * (suc (store_at season (length season.stores - count)).units * lists_of (last_units season count)) + place_in ((store_at season (length season.stores - count)).units ∷ last_units season count) rest) (pos 0))
    one block place low inside =
        each (block * (suc (store_at season (length season.stores - count)).units * lists_of (last_units season count)) + place) (subst (λ n. block * (suc (store_at season (length season.stores - count)).units * lists_of (last_units season count)) + place < n) (sym are.size) inside)
        ∙ (ap₂ (λ s p. fold_item season done rung (length season.stores - count) s p items (block * (suc (store_at season (length season.stores - count)).units * lists_of (last_units season count)) + place)) stride_is (power_is ∙ ap (λ n. season.base ^ n) (sym (length-last season count (omega arith))))
        ∙ (one_store season done rung (length season.stores - count) (store_at season (length season.stores - count)).units (last_units season count) row items refl are.each block place low inside
        ∙ ap (λ n. fold_stores season done rung rung n (place / lists_of (last_units season count) ∷ stocks_at (last_units season count) (place % lists_of (last_units season count)))
        (λ rest. get_or row (block * (suc (store_at season (length season.stores - count)).units * lists_of (last_units season count)) + place_in ((store_at season (length season.stores - count)).units ∷ last_units season count) rest) (pos 0))) (sym (first (length season.stores) count lt))))
