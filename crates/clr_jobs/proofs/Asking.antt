-- The numbers of a path's tables and of the stores' tables that a certificate needs: they are there, are what they are told to be, and lie
-- in their ranges.
use Rattle.std.proofs.Common.{◌≡◌, ◌∙◌, ℕ, zero, suc, ◌+◌, ◌-◌, ◌≤◌, ◌<◌, true, ℤ, pos, neg_ℤ, ◌*◌, ◌≤ℤ◌, List, [], length, map, get_or, sym, ap, subst, subst₂, arith, mul-le-mul_left}
use Rattle.std.specs.Prelude.{IsTrue}
use Rattle.clr_num.specs.Direction.{AtLeast, IsDirection}
use Rattle.clr_num.specs.DirectionLaws.{ceil_is_direction}
use Rattle.clr_num.specs.Lists.{nth, numbers}
use Rattle.clr_num.specs.Rounding.{ceil}
use Rattle.clr_average.specs.Average.{IsWithin}
use Rattle.clr_average.proofs.Ring.{linear}
use Rattle.clr_average.proofs.Within.{within_more}
use Rattle.clr_rules.specs.declared.season_rules.Summary.{Summary}
use Rattle.clr_rules.specs.LiveSummaries.{IsAmong, live_pairs}
use Rattle.clr_rules.specs.Rules.{IsLiveSummary, IsPath, is_live, summary}
use Rattle.clr_rules.proofs.LiveLaw.{live_pairs_lem}
use Rattle.clr_rules.proofs.LiveLemmas.{live-length}
use Rattle.clr_season.specs.Season.{IsSeason, Season, store_at}
use Rattle.clr_model.specs.PathValue.{path_value_at}
use Rattle.clr_model.specs.StoreValue.{Multipliers, store_value_at}
use Rattle.clr_model.proofs.Sizes.{path_value_small, store_within}
use Rattle.clr_path.specs.Tables.{path_rows, row_at, store_rows, value_at}
use Rattle.clr_path.proofs.Lists.{get_or-numbers, length-numbers}
use Rattle.clr_path.proofs.TableLemmas.{row_size, value_is}
use Rattle.clr_storedp.specs.Tables.{Entry, IsTableOf, stocks, table_pairs, values_of}
use Rattle.clr_storedp.proofs.ReadAt.{at_stock, in_stocks}
use Rattle.clr_storedp.proofs.Sizes.{SmallMultipliers, swing, value_between}
use Rattle.clr_cert.specs.Entries.{IsCell, IsLiveCell}
use Rattle.clr_jobs.specs.Held.{HasPathValue}

-- ---- a path's tables

path-inside : (season : Season) (path : List ℕ) (done store stock : ℕ) → IsPath season.rules path → IsCell season done store stock → done ≤ length path
path-inside season path done store stock path_is cell = subst (λ n. done ≤ n) (sym path_is.weeks) cell.early

store-rows : (div : ℤ → ℕ → ℤ) (season : Season) (path : List ℕ) (i : ℕ) → i < length season.stores → nth (path_rows div season path) (suc i) [] ≡ store_rows div season path (suc i)
store-rows div season path i lt = let next : 1 + i ≡ suc i = omega arith in get_or-numbers (store_rows div season path) 1 (length season.stores) i [] lt ∙ ap (store_rows div season path) next

store-sized : (div : ℤ → ℕ → ℤ) (season : Season) (path : List ℕ) (i : ℕ) → i < length season.stores → length (nth (path_rows div season path) (suc i) []) ≡ suc (length path)
store-sized div season path i lt =
    ap length (store-rows div season path i lt) ∙ length-numbers (λ done. map (path_value_at div season (suc i) path done) (numbers 0 (suc (store_at season (suc i)).units))) 0 (suc (length path))

path-held : (div : ℤ → ℕ → ℤ) (season : Season) (path : List ℕ) (done store stock : ℕ) → IsPath season.rules path → IsCell season done store stock → HasPathValue (path_rows div season path) done store stock
path-held div season path done zero stock path_is cell = let first : 1 ≤ 0 = cell.first in absurd (omega arith)
path-held div season path done (suc i) stock path_is cell =
    let lt : i < length season.stores = let last : suc i ≤ length season.stores = cell.last in omega arith in
    let le : done ≤ length path = path-inside season path done (suc i) stock path_is cell in
    let all : length (path_rows div season path) ≡ length season.stores = length-numbers (store_rows div season path) 1 (length season.stores) in
    let weeks : length (nth (path_rows div season path) (suc i) []) ≡ suc (length path) = store-sized div season path i lt in
    let size : length (row_at (path_rows div season path) (suc i) done) ≡ suc (store_at season (suc i)).units = row_size div season path i done lt le in
    let held : stock ≤ (store_at season (suc i)).units = cell.held in
    record { row = record { first = cell.first; last = subst (λ n. suc i ≤ n) (sym all) cell.last; early = subst (λ n. done < n) (sym weeks) (omega arith) }; inside = subst (λ n. stock < n) (sym size) (omega arith) }

-- the table of a path has each number that is needed
pub path-asked : (div : ℤ → ℕ → ℤ) (season : Season) (path : List ℕ) (table : List (List (List ℤ))) → table ≡ path_rows div season path → IsPath season.rules path → (done store stock : ℕ) → IsCell season done store stock → HasPathValue table done store stock
path-asked div season path table is path_is done store stock cell = subst (λ t. HasPathValue t done store stock) (sym is) (path-held div season path done store stock path_is cell)

path-value : (div : ℤ → ℕ → ℤ) (season : Season) (path : List ℕ) (done store stock : ℕ) → IsPath season.rules path → IsCell season done store stock → value_at (path_rows div season path) store done stock ≡ path_value_at div season store path done stock
path-value div season path done zero stock path_is cell = let first : 1 ≤ 0 = cell.first in absurd (omega arith)
path-value div season path done (suc i) stock path_is cell =
    let lt : i < length season.stores = let last : suc i ≤ length season.stores = cell.last in omega arith in
    value_is div season path i done stock lt (path-inside season path done (suc i) stock path_is cell) cell.held

-- which is the path's value
pub path-told : (div : ℤ → ℕ → ℤ) (season : Season) (path : List ℕ) (table : List (List (List ℤ))) → table ≡ path_rows div season path → IsPath season.rules path → (done store stock : ℕ) → IsCell season done store stock →
    value_at table store done stock ≡ path_value_at div season store path done stock
path-told div season path table is path_is done store stock cell = ap (λ (t : List (List (List ℤ))). value_at t store done stock) is ∙ path-value div season path done store stock path_is cell

-- and in its range
pub path-ranged : (leans : ℤ → ℤ → Type 0) (div : ℤ → ℕ → ℤ) → IsDirection leans div → (season : Season) (path : List ℕ) (table : List (List (List ℤ))) → IsSeason season → table ≡ path_rows div season path → IsPath season.rules path →
    (done store stock : ℕ) → IsCell season done store stock → IsWithin 1000000000000000000 (value_at table store done stock)
path-ranged leans div laws season path table facts is path_is done store stock cell =
    subst (IsWithin 1000000000000000000) (sym (path-told div season path table is path_is done store stock cell))
    (within_more 20000000000000000 1000000000000000000 (path_value_at div season store path done stock)
    (path_value_small leans div laws season store path done stock facts cell.first cell.last path_is (path-inside season path done store stock path_is cell) cell.held) (omega arith))

-- ---- the stores' tables

-- the table of a store has each number that is needed
pub store-asked : (div : ℤ → ℕ → ℤ) (m : Multipliers) (season : Season) (store : ℕ) (table : List Entry) (done : ℕ) (s : Summary) (stock : ℕ) → IsSeason season → IsTableOf div m season store table → IsLiveCell season done store s stock →
    IsAmong (table_pairs table) done s × (stock < length (values_of table done s))
store-asked div m season store table done s stock facts is cell =
    let live : IsLiveSummary season.rules done s = cell.live in
    let early : done ≤ season.rules.weeks = cell.cell.early in
    let among : IsAmong (live_pairs season.rules) done s = ((live_pairs_lem season.rules facts.rules).pairs done s).1 (early, live) in
    let here : values_of table done s ≡ map (store_value_at div m season store live.0) (stocks season store) = subst₂ (λ n t. values_of table n t ≡ map (store_value_at div m season store live.0) (stocks season store)) live.1 live.3 (is.values live.0 live.2) in
    (subst (λ pairs. IsAmong pairs done s) (sym is.pairs) among, in_stocks (store_value_at div m season store live.0) season store stock (values_of table done s) here cell.cell.held)

-- which is the store's value after each live prefix with the summary
pub store-told : (div : ℤ → ℕ → ℤ) (m : Multipliers) (season : Season) (store : ℕ) (table : List Entry) (prefix : List ℕ) (stock : ℕ) → IsTableOf div m season store table → IsTrue (is_live season.rules prefix) → stock ≤ (store_at season store).units →
    get_or (values_of table (length prefix) (summary season.rules prefix)) stock (pos 0) ≡ store_value_at div m season store prefix stock
store-told div m season store table prefix stock is live held = at_stock (store_value_at div m season store prefix) season store stock (values_of table (length prefix) (summary season.rules prefix)) (pos 0) (is.values prefix live) held

-- and at most 10^18 in size
store-small : (m : Multipliers) (season : Season) (i : ℕ) (prefix : List ℕ) (stock : ℕ) → IsSeason season → i < length season.stores → SmallMultipliers season m → is_live season.rules prefix ≡ true → stock ≤ (store_at season (suc i)).units →
    IsWithin 1000000000000000000 (store_value_at ceil m season (suc i) prefix stock)
store-small m season i prefix stock facts last small live held =
    let early : length prefix ≤ season.rules.weeks = live-length season.rules prefix live in
    let whole : length prefix + (season.rules.weeks - length prefix) ≡ season.rules.weeks = omega arith in
    let few : season.rules.weeks - length prefix ≤ 52 = let most : season.rules.weeks ≤ 52 = facts.rules.last_week in omega arith in
    let units : (store_at season (suc i)).units ≤ 2000 = (store_within season (suc i) facts (omega arith) (omega arith)).units in
    let stocks_few : stock ≤ 2000 = omega arith in
    between-small (season.rules.weeks - length prefix) stock (store_value_at ceil m season (suc i) prefix stock) few stocks_few
    (value_between AtLeast ceil ceil_is_direction m season i facts last small (season.rules.weeks - length prefix) prefix stock whole live).low
    (value_between AtLeast ceil ceil_is_direction m season i facts last small (season.rules.weeks - length prefix) prefix stock whole live).high
  where
    between-small : (weeks stock : ℕ) (value : ℤ) → weeks ≤ 52 → stock ≤ 2000 → neg_ℤ (pos (swing * weeks)) ≤ℤ value → value ≤ℤ pos (10000000000000 * stock + swing * weeks) → IsWithin 1000000000000000000 value
    between-small weeks stock value few held least top =
        let a : swing * weeks ≤ swing * 52 = mul-le-mul_left swing few in
        let b : 10000000000000 * stock ≤ 10000000000000 * 2000 = mul-le-mul_left 10000000000000 held in
        record { low = omega (arith, linear); high = omega (arith, linear) }

store-ranged-at : (m : Multipliers) (season : Season) (store : ℕ) (table : List Entry) (prefix : List ℕ) (stock : ℕ) → IsSeason season → SmallMultipliers season m → IsTableOf ceil m season store table → IsTrue (is_live season.rules prefix) → IsCell season (length prefix) store stock →
    IsWithin 1000000000000000000 (get_or (values_of table (length prefix) (summary season.rules prefix)) stock (pos 0))
store-ranged-at m season zero table prefix stock facts small is live cell = let first : 1 ≤ 0 = cell.first in absurd (omega arith)
store-ranged-at m season (suc i) table prefix stock facts small is live cell =
    subst (IsWithin 1000000000000000000) (sym (store-told ceil m season (suc i) table prefix stock is live cell.held))
    (store-small m season i prefix stock facts (let last : suc i ≤ length season.stores = cell.last in omega arith) small live cell.held)

pub store-ranged : (m : Multipliers) (season : Season) (store : ℕ) (table : List Entry) (done : ℕ) (s : Summary) (stock : ℕ) → IsSeason season → SmallMultipliers season m → IsTableOf ceil m season store table → IsLiveCell season done store s stock →
    IsWithin 1000000000000000000 (get_or (values_of table done s) stock (pos 0))
store-ranged m season store table done s stock facts small is cell =
    let live : IsLiveSummary season.rules done s = cell.live in
    let at : IsCell season (length live.0) store stock = subst (λ n. IsCell season n store stock) (sym live.1) cell.cell in
    subst₂ (λ n t. IsWithin 1000000000000000000 (get_or (values_of table n t) stock (pos 0))) live.1 live.3 (store-ranged-at m season store table live.0 stock facts small is live.2 at)
