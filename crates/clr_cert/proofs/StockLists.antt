-- The lists of stocks by their numbers.
use Rattle.std.proofs.Common.{◌≡◌, ℕ, ◌+◌, ◌-◌, ◌*◌, ◌/◌, ◌%◌, ◌<◌, ◌≤◌, List, [], ◌∷◌, ◌++◌, length, map, get_or, set, take, drop, Contains, refl, sym, ap, ◌∙◌, subst, arith, suc, zero, append_assoc}
use Rattle.std.proofs.Math.Seq.{take-suc-set}
use Rattle.std.proofs.Math.Nat.{mul-div_cancel_left, mod-lt}
use Rattle.std.proofs.lemmas.List.{length-map, drop_more}
use Rattle.std.proofs.lemmas.Nat.{div_below, div-add-mod'}
use Rattle.clr_rules.proofs.GridLemmas.{length-blocks, get_or-blocks}
use Rattle.clr_stock.specs.Stock.{Store, no_store}
use Rattle.clr_model.specs.Fits.{stock_lists}
use Rattle.clr_cert.specs.Places.{all_stocks}
use Rattle.clr_cert.proofs.Walking.{some_stocks}

pub length-all_stocks : (stores : List Store) → length (all_stocks stores) ≡ stock_lists stores
length-all_stocks [] = refl
length-all_stocks (store ∷ stores) =
    length-blocks (λ stock. map (λ rest. stock ∷ rest) (all_stocks stores)) (stock_lists stores) (λ stock. length-map (all_stocks stores) (λ rest. stock ∷ rest) ∙ length-all_stocks stores) 0 (suc store.units)
    ∙ ap (λ n. n * stock_lists stores) (next store.units)
  where
    next : (n : ℕ) → suc n ≡ n + 1
    next n = omega arith

get_or-mapped : (x : ℕ) (lists : List (List ℕ)) (j : ℕ) → j < length lists → get_or (map (λ rest. x ∷ rest) lists) j [] ≡ x ∷ get_or lists j []
get_or-mapped x [] j low = absurd (omega arith)
get_or-mapped x (list ∷ lists) zero low = refl
get_or-mapped x (list ∷ lists) (suc j) low = get_or-mapped x lists j (omega arith)

-- the first store's stock, and the rest of the list
list_at : (store : Store) (stores : List Store) (stock rest : ℕ) → stock ≤ store.units → rest < stock_lists stores → get_or (all_stocks (store ∷ stores)) (stock * stock_lists stores + rest) [] ≡ stock ∷ get_or (all_stocks stores) rest []
list_at store stores stock rest held low =
    let wide : (x : ℕ) → length (map (λ rest. x ∷ rest) (all_stocks stores)) ≡ stock_lists stores = λ x. length-map (all_stocks stores) (λ rest. x ∷ rest) ∙ length-all_stocks stores in
    let plain : 0 + stock ≡ stock = omega arith in
    get_or-blocks (λ stock. map (λ rest. stock ∷ rest) (all_stocks stores)) (stock_lists stores) wide 0 (suc store.units) stock rest [] (omega arith) low
    ∙ (ap (λ x. get_or (map (λ rest. x ∷ rest) (all_stocks stores)) rest []) plain ∙ get_or-mapped stock (all_stocks stores) rest (omega (arith, length-all_stocks stores)))

-- one store further: the stock of this store, and the number of the rest among the lists of the stores after it
pub record NextStore (stores : List Store) (at lists rest units : ℕ) : Type 0 where
  pub width : lists / (units + 1) ≡ stock_lists (drop (at + 1) stores)
  pub some : 0 < lists / (units + 1)
  pub held : rest / (lists / (units + 1)) ≤ units
  pub within : rest % (lists / (units + 1)) < lists / (units + 1)
  pub read :
      get_or (all_stocks (drop at stores)) rest []
      ≡ rest / (lists / (units + 1)) ∷ get_or (all_stocks (drop (at + 1) stores)) (rest % (lists / (units + 1))) []

pub next_store : (stores : List Store) (at lists rest : ℕ) → at < length stores → lists ≡ stock_lists (drop at stores) → rest < lists → NextStore stores at lists rest (get_or stores at no_store).units
next_store stores at lists rest low is within =
    let units : ℕ = (get_or stores at no_store).units in
    let w : ℕ = stock_lists (drop (at + 1) stores) in
    let split : drop at stores ≡ get_or stores at no_store ∷ drop (at + 1) stores = drop_more stores at no_store low in
    let product : lists ≡ (units + 1) * w = is ∙ ap stock_lists split in
    let some : 1 ≤ w = some_stocks (drop (at + 1) stores) in
    let width : lists / (units + 1) ≡ w = ap (λ n. n / (units + 1)) product ∙ mul-div_cancel_left w (omega arith) in
    let held : rest / w < units + 1 = div_below rest w (units + 1) (omega arith) (omega arith) in
    let parts : rest / w * w + rest % w ≡ rest = div-add-mod' rest w in
    record {
      width = width;
      some = omega arith;
      held = subst (λ k. rest / k ≤ units) (sym width) (omega arith);
      within = subst (λ k. rest % k < k) (sym width) (mod-lt rest (omega arith));
      read =
          ap (λ (list : List Store). get_or (all_stocks list) rest []) split
          ∙ (ap (λ k. get_or (all_stocks (get_or stores at no_store ∷ drop (at + 1) stores)) k []) (sym parts)
          ∙ (list_at (get_or stores at no_store) (drop (at + 1) stores) (rest / w) (rest % w) (omega arith) (mod-lt rest (omega arith)) ∙ ap (λ k. rest / k ∷ get_or (all_stocks (drop (at + 1) stores)) (rest % k) []) (sym width)));
    }

pub next_units : (stores : List Store) (at lists rest units : ℕ) → at < length stores → units ≡ (get_or stores at no_store).units → lists ≡ stock_lists (drop at stores) → rest < lists → NextStore stores at lists rest units
next_units stores at lists rest units low same is within = subst (λ u. NextStore stores at lists rest u) (sym same) (next_store stores at lists rest low is within)

-- a list that is read from its front, with one number more
pub read_more : (whole stocks tail : List ℕ) (rest : List ℕ) (at x : ℕ) → at < length stocks → whole ≡ take at stocks ++ tail → tail ≡ x ∷ rest → whole ≡ take (at + 1) (set stocks at x) ++ rest
read_more whole stocks tail rest at x low is split =
    is
    ∙ (ap (λ t. take at stocks ++ t) split
    ∙ (sym (append_assoc (take at stocks) (x ∷ []) rest) ∙ (ap (λ t. t ++ rest) (sym (take-suc-set stocks at x low)) ∙ ap (λ k. take k (set stocks at x) ++ rest) (next at))))
  where
    next : (k : ℕ) → suc k ≡ k + 1
    next k = omega arith

-- ---- lists that stand among all

pub list_held : (stores : List Store) (index : ℕ) (stocks : List ℕ) → index < stock_lists stores → stocks ≡ get_or (all_stocks stores) index [] → Contains (all_stocks stores) stocks
list_held stores index stocks low is =
    let within : index < length (all_stocks stores) = omega (arith, length-all_stocks stores) in
    (index, within, get_or_any (all_stocks stores) index within ∙ sym is)
  where
    get_or_any : (lists : List (List ℕ)) (k : ℕ) → k < length lists → get_or lists k stocks ≡ get_or lists k []
    get_or_any [] k h = absurd (omega arith)
    get_or_any (list ∷ lists) zero h = refl
    get_or_any (list ∷ lists) (suc k) h = get_or_any lists k (omega arith)

-- the last list has the full stocks
pub last_list : (stores : List Store) → get_or (all_stocks stores) (stock_lists stores - 1) [] ≡ map (λ store. store.units) stores
last_list [] = refl
last_list (store ∷ stores) =
    let some = some_stocks stores in
    let place : (store.units + 1) * stock_lists stores - 1 ≡ store.units * stock_lists stores + (stock_lists stores - 1) = omega arith in
    ap (λ k. get_or (all_stocks (store ∷ stores)) k []) place
    ∙ (list_at store stores store.units (stock_lists stores - 1) (omega arith) (omega arith) ∙ ap (λ t. store.units ∷ t) (last_list stores))
