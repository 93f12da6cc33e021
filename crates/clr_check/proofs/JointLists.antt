-- The lists of stocks of the stores after some, and rows with a number for each.
use Rattle.std.proofs.Common.{◌≡◌, ℕ, ◌+◌, ◌*◌, ◌/◌, ◌%◌, ◌<◌, ◌≤◌, List, [], ◌∷◌, length, get_or, take, drop, slice_get, Some, refl, sym, ap, ◌∙◌, subst, arith, suc, zero, ℤ, pos, mul-le-mul_right}
use Rattle.std.proofs.lemmas.List.{drop_more, get_or-take, get_or-drop}
use Rattle.std.proofs.lemmas.Nat.{div-mul-add, mod-mul-add}
use Rattle.clr_average.specs.Average.{IsWithin}
use Rattle.clr_rules.specs.declared.season_rules.Summary.{Summary}
use Rattle.clr_rules.specs.LiveSummaries.{live_summaries}
use Rattle.clr_stock.specs.Stock.{Store, no_store}
use Rattle.clr_season.specs.Season.{Season, store_at}
use Rattle.clr_model.specs.Fits.{stock_lists}
use Rattle.clr_cert.specs.Entries.{most_entry}
use Rattle.clr_cert.specs.Places.{all_stocks}
use Rattle.clr_cert.proofs.StockLists.{NextStore, next_units}
use Rattle.clr_check.specs.JointRows.{AreJointRows, HasJointRows, HasLists, IsListRow, list_after, lists_after}

-- ---- a part of a row

pub row_at : (width place index : ℕ) (rows part : List ℤ) → part ≡ take width (drop (place * width) rows) → index < width → get_or part index (pos 0) ≡ get_or rows (place * width + index) (pos 0)
row_at width place index rows part is less = ap (λ (r : List ℤ). get_or r index (pos 0)) is ∙ (get_or-take width (drop (place * width) rows) index (pos 0) less ∙ get_or-drop (place * width) rows index (pos 0))

block_end : (place count width index : ℕ) → place < count → index < width → place * width + index < count * width
block_end place count width index less low =
    let part : (place + 1) * width ≤ count * width = mul-le-mul_right width (omega arith) in
    let split : (place + 1) * width ≡ place * width + width = more place width in
    omega (arith, part, split, low)
  where
    more : (a b : ℕ) → (a + 1) * b ≡ a * b + b
    more a b = grind arith

-- ---- one store further

-- the first store's units
pub units_are : (season : Season) (past : ℕ) → (store_at season (past + 1)).units ≡ (get_or season.stores past no_store).units
units_are season past = let e : past + 1 ≡ suc past = omega arith in ap (λ n. (store_at season n).units) e

pub further : (season : Season) (past index units : ℕ) → past < length season.stores → units ≡ (store_at season (past + 1)).units → index < lists_after season past → NextStore season.stores past (lists_after season past) index units
further season past index units low is less = next_units season.stores past (lists_after season past) index units low (is ∙ units_are season past) refl less

pub next_row : (season : Season) (past index units : ℕ) (row : List ℤ) → past < length season.stores → units ≡ (store_at season (past + 1)).units → IsListRow season past row → index < lists_after season past → NextStore season.stores past (length row) index units
next_row season past index units row low is row_is less = subst (λ n. NextStore season.stores past n index units) (sym row_is.size) (further season past index units low is less)

pub next_lists : (season : Season) (past index units lists : ℕ) → past < length season.stores → units ≡ (store_at season (past + 1)).units → lists ≡ lists_after season past → index < lists → NextStore season.stores past lists index units
next_lists season past index units lists low is lists_is less = next_units season.stores past lists index units low (is ∙ units_are season past) lists_is less

-- so many times the lists of the stores after it
pub lists_split : (season : Season) (past : ℕ) → past < length season.stores → lists_after season past ≡ ((store_at season (past + 1)).units + 1) * lists_after season (past + 1)
lists_split season past low = ap stock_lists (drop_more season.stores past no_store low) ∙ ap (λ n. (n + 1) * lists_after season (past + 1)) (sym (units_are season past))

-- a stock of the first store before a list of the others
pub list_joined : (season : Season) (past stock rest : ℕ) → past < length season.stores → stock ≤ (store_at season (past + 1)).units → rest < lists_after season (past + 1) →
    list_after season past (stock * lists_after season (past + 1) + rest) ≡ stock ∷ list_after season (past + 1) rest
list_joined season past stock rest low held less =
    let w : ℕ = lists_after season (past + 1) in
    let inside : stock * w + rest < lists_after season past = subst (λ n. stock * w + rest < n) (sym (lists_split season past low)) (block_end stock ((store_at season (past + 1)).units + 1) w rest (omega (arith, held)) less) in
    let next : NextStore season.stores past (lists_after season past) (stock * w + rest) (store_at season (past + 1)).units = further season past (stock * w + rest) (store_at season (past + 1)).units low refl inside in
    let first : (stock * w + rest) / w ≡ stock = div-mul-add stock w rest less in
    let last : (stock * w + rest) % w ≡ rest = mod-mul-add stock w rest less in
    next.read ∙ (ap (λ k. (stock * w + rest) / k ∷ list_after season (past + 1) ((stock * w + rest) % k)) next.width ∙ (ap (λ x. x ∷ list_after season (past + 1) ((stock * w + rest) % w)) first ∙ ap (λ k. stock ∷ list_after season (past + 1) k) last))

-- the numbers of what is left of the first store's stock
pub part_has : (season : Season) (past left lists : ℕ) (row part : List ℤ) (f : List ℕ → ℤ) → past < length season.stores → left ≤ (store_at season (past + 1)).units → lists ≡ lists_after season (past + 1) → part ≡ take lists (drop (left * lists) row) →
    HasLists season past row f → HasLists season (past + 1) part (λ more. f (left ∷ more))
part_has season past left lists row part f low held lists_is part_is has index less =
    let w : ℕ = lists_after season (past + 1) in
    let inside : left * w + index < lists_after season past = subst (λ n. left * w + index < n) (sym (lists_split season past low)) (block_end left ((store_at season (past + 1)).units + 1) w index (omega (arith, held)) less) in
    ap f (sym (list_joined season past left index low held less))
    ∙ (has (left * w + index) inside ∙ (ap (λ n. get_or row (left * n + index) (pos 0)) (sym lists_is) ∙ sym (row_at lists left index row part part_is (omega (arith, less, lists_is)))))

pub part_inside : (season : Season) (past left lists : ℕ) (row : List ℤ) → past < length season.stores → left ≤ (store_at season (past + 1)).units → lists ≡ lists_after season (past + 1) → length row ≡ lists_after season past → (left + 1) * lists ≤ length row
part_inside season past left lists row low held lists_is size =
    let part : (left + 1) * lists ≤ ((store_at season (past + 1)).units + 1) * lists = mul-le-mul_right lists (omega (arith, held)) in
    subst (λ n. (left + 1) * lists ≤ n) (sym (size ∙ (lists_split season past low ∙ ap (λ n. ((store_at season (past + 1)).units + 1) * n) (sym lists_is)))) part

pub part_row : (season : Season) (past left lists : ℕ) (row part : List ℤ) → past < length season.stores → left ≤ (store_at season (past + 1)).units → lists ≡ lists_after season (past + 1) → part ≡ take lists (drop (left * lists) row) → length part ≡ lists →
    IsListRow season past row → IsListRow season (past + 1) part
part_row season past left lists row part low held lists_is part_is size is = record {
  size = size ∙ lists_is;
  small = λ k less.
      let k_less : k < lists = omega (arith, less, size) in
      let inside : left * lists + k < ((store_at season (past + 1)).units + 1) * lists = block_end left ((store_at season (past + 1)).units + 1) lists k (omega (arith, held)) k_less in
      let all : length row ≡ ((store_at season (past + 1)).units + 1) * lists = is.size ∙ (lists_split season past low ∙ ap (λ n. ((store_at season (past + 1)).units + 1) * n) (sym lists_is)) in
      subst (IsWithin most_entry) (sym (row_at lists left k row part part_is k_less)) (is.small (left * lists + k) (subst (λ n. left * lists + k < n) (sym all) inside));
}

-- ---- no store further

dropped : (stores : List Store) (n : ℕ) → length stores ≤ n → drop n stores ≡ []
dropped [] zero h = refl
dropped [] (suc n) h = refl
dropped (x ∷ stores) zero h = absurd (none h)
  where
    none : suc (length stores) ≤ 0 → ⊥
    none p = omega arith
dropped (x ∷ stores) (suc n) h = dropped stores n (omega arith)

pub last_lists : (season : Season) (past : ℕ) → past ≡ length season.stores → lists_after season past ≡ 1
last_lists season past end = ap stock_lists (dropped season.stores past (omega (arith, end)))

pub last_list_is : (season : Season) (past index : ℕ) → past ≡ length season.stores → index < lists_after season past → list_after season past index ≡ []
last_list_is season past index end less =
    let none : index ≡ 0 = let one = last_lists season past end in omega (arith, less, one) in
    ap (λ n. list_after season past n) none ∙ ap (λ (stores : List Store). get_or (all_stocks stores) 0 []) (dropped season.stores past (omega (arith, end)))

-- a list has a stock for each store
pub list_length : (season : Season) (more past index : ℕ) → past + more ≡ length season.stores → index < lists_after season past → length (list_after season past index) ≡ more
list_length season zero past index end less = ap length (last_list_is season past index (omega (arith, end)) less)
list_length season (suc more) past index end less =
    let low : past < length season.stores = omega (arith, end) in
    let next : NextStore season.stores past (lists_after season past) index (store_at season (past + 1)).units = further season past index (store_at season (past + 1)).units low refl less in
    let inside : index % (lists_after season past / ((store_at season (past + 1)).units + 1)) < lists_after season (past + 1) = subst (λ n. index % (lists_after season past / ((store_at season (past + 1)).units + 1)) < n) next.width next.within in
    ap length next.read ∙ ap suc (list_length season more (past + 1) (index % (lists_after season past / ((store_at season (past + 1)).units + 1))) (omega (arith, end)) inside)

-- ---- the row of a live summary

pub summary_row_inside : (season : Season) (done place width : ℕ) (rows : List ℤ) → AreJointRows season done rows → place < length (live_summaries season.rules done) → width ≡ stock_lists season.stores → (place + 1) * width ≤ length rows
summary_row_inside season done place width rows are less wide =
    let part : (place + 1) * stock_lists season.stores ≤ length (live_summaries season.rules done) * stock_lists season.stores = mul-le-mul_right (stock_lists season.stores) (omega (arith, less)) in
    subst (λ w. (place + 1) * w ≤ length rows) (sym wide) (chain part are.size)
  where
    chain : {a b c : ℕ} → a ≤ b → b ≤ c → a ≤ c
    chain p q = omega arith

pub summary_row : (season : Season) (done place width : ℕ) (rows row : List ℤ) → AreJointRows season done rows → place < length (live_summaries season.rules done) → width ≡ stock_lists season.stores → row ≡ take width (drop (place * width) rows) → length row ≡ width → IsListRow season 0 row
summary_row season done place width rows row are less wide is size = record {
  size = size ∙ wide;
  small = λ k k_less.
      let low : k < width = omega (arith, k_less, size) in
      let inside : (place + 1) * width ≤ length rows = summary_row_inside season done place width rows are less wide in
      let split : (place + 1) * width ≡ place * width + width = more place width in
      subst (IsWithin most_entry) (sym (row_at width place k rows row is low)) (are.small (place * width + k) (omega (arith, inside, split, low)));
}
  where
    more : (a b : ℕ) → (a + 1) * b ≡ a * b + b
    more a b = grind arith

pub summary_row_has : (season : Season) (done place width : ℕ) (rows row : List ℤ) (f : Summary → List ℕ → ℤ) (s : Summary) → width ≡ stock_lists season.stores → row ≡ take width (drop (place * width) rows) → slice_get (live_summaries season.rules done) place ≡ Some s → HasJointRows season done rows f → HasLists season 0 row (f s)
summary_row_has season done place width rows row f s wide is there has index less =
    has place index s there less ∙ (ap (λ w. get_or rows (place * w + index) (pos 0)) (sym wide) ∙ sym (row_at width place index rows row is (omega (arith, less, wide))))
