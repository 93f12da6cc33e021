-- The stores of a made season.
use Rattle.std.proofs.Common.{◌≡◌, ◌<◌, ◌≤◌, ◌+◌, ◌-◌, ◌*◌, ◌∙◌, ℕ, zero, suc, List, [], ◌∷◌, ◌++◌, length, map, false, sym, ap, subst, arith}
use Rattle.std.specs.Prelude.{All}
use Rattle.std.specs.List.{sum_by}
use Rattle.std.specs.Option.{is_some}
use Rattle.std.proofs.lemmas.List.{length-map, map-append}
use Rattle.std.proofs.lemmas.List.Sums.{sum_by-cons}
use Rattle.clr_num.specs.Lists.{numbers}
use Rattle.clr_text.specs.Names.{AreDistinct, is_held}
use Rattle.clr_text.proofs.Apart.{distinct-more, distinct-none}
use Rattle.clr_stock.specs.Stock.{AreStores, IsStore, Store}
use Rattle.clr_season.specs.Season.{cells, most_cells, store_cells}
use Rattle.clr_make.specs.Made.{made_units, store_name}
use Rattle.clr_make.proofs.LineLemmas.{numbers-more}
use Rattle.clr_make.proofs.MadeRules.{made_rulebook}
use Rattle.clr_make.proofs.RangeLemmas.{numbers-length}
use Rattle.clr_make.proofs.StockReads.{made_names, made_store, made_stores, name-good, name-new, units-range}

pub stores-length : (seed : ℕ) → length (made_stores seed) ≡ 24
unfolding made_stores
stores-length seed = length-map (numbers 1 24) (made_store seed) ∙ numbers-length 1 24

-- ---- the names differ

distinct-names : (count : ℕ) → count ≤ 24 → AreDistinct (map store_name (numbers 1 count))
distinct-names zero le = distinct-none
distinct-names (suc count) le =
    let last : 1 + count ≡ suc count = omega arith in
    let here : suc count - 1 ≡ count = omega arith in
    let split : map store_name (numbers 1 (suc count)) ≡ map store_name (numbers 1 count) ++ store_name (suc count) ∷ [] =
    ap (λ ns. map store_name ns) (numbers-more 1 count) ∙ (map-append store_name (numbers 1 count) ((1 + count) ∷ []) ∙ ap (λ k. map store_name (numbers 1 count) ++ store_name k ∷ []) last) in
    let free : is_held (map store_name (numbers 1 count)) (store_name (suc count)) ≡ false = ap is_some (rw here at (name-new (suc count) (omega arith) le)) in
    subst (λ ns. AreDistinct ns) (sym split) (distinct-more (map store_name (numbers 1 count)) (store_name (suc count)) (distinct-names count (omega arith)) free)

-- ---- each is within its limits

store-good : (seed store : ℕ) → 1 ≤ store → store ≤ 24 → IsStore (made_store seed store)
store-good seed store low high =
    let range = units-range seed store in
    record {
      name = name-good store low high;
      units = omega (arith, range.1);
      salvage = omega arith;
      relabel = omega arith;
    }

all-good : (seed from count : ℕ) → 1 ≤ from → from + count ≤ 25 → All IsStore (map (made_store seed) (numbers from count))
all-good seed from zero low high k d less = absurd (omega arith)
all-good seed from (suc count) low high zero d less = store-good seed from low (omega arith)
all-good seed from (suc count) low high (suc k) d less =
    let under : suc from + count ≤ 25 = omega arith in
    let inside : k < length (map (made_store seed) (numbers (suc from) count)) = omega arith in
    all-good seed (suc from) count (omega arith) under k d inside

stores-good : (seed : ℕ) → All IsStore (made_stores seed)
unfolding made_stores
stores-good seed = all-good seed 1 24 (omega arith) (omega arith)

pub made-stores : (seed : ℕ) → AreStores (made_stores seed)
made-stores seed = record {
  few = let size = stores-length seed in omega (arith, size);
  within = stores-good seed;
  distinct = subst (λ ns. AreDistinct ns) (sym (made_names seed)) (distinct-names 24 (omega arith));
}

-- ---- their cells

few-cells : (seed : ℕ) (xs : List ℕ) → sum_by (λ (store : Store). store_cells made_rulebook store.units) (map (made_store seed) xs) ≤ length xs * 38064
few-cells seed [] = omega arith
few-cells seed (n ∷ xs) =
    let split = sum_by-cons (λ (store : Store). store_cells made_rulebook store.units) (made_store seed n) (map (made_store seed) xs) in
    let range = units-range seed n in
    let here : store_cells made_rulebook (made_units seed n) ≤ 38064 = omega (arith, range.1) in
    let rest = few-cells seed xs in
    omega (arith, split, here, rest)

pub made-cells : (seed : ℕ) → cells made_rulebook (made_stores seed) ≤ most_cells
unfolding made_stores
made-cells seed = let all = few-cells seed (numbers 1 24) in let count = numbers-length 1 24 in omega (arith, all, count)
