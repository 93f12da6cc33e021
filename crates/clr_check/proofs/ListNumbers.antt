-- Each list of stocks has one number.
use Rattle.std.proofs.Common.{◌≡◌, ℕ, ◌+◌, ◌*◌, ◌<◌, refl, sym, ap, ◌∙◌, subst, arith, suc, zero, List, [], ◌∷◌, length, map, get_or, ◌≤◌, ◌-◌, mul-le-mul_right}
use Rattle.std.proofs.lemmas.Slice.Eq.{bytes_eq-Decides}
use Rattle.std.proofs.lemmas.Option.{get_or_from_slice_get, slice_get-get_or, slice_get_within}
use Rattle.std.specs.Str.{bytes_eq}
use lib.ListN.{length-map}
use Rattle.clr_num.specs.Lists.{numbers}
use Rattle.clr_stock.specs.Stock.{Store}
use Rattle.clr_rules.proofs.GridLemmas.{get_or-blocks, split_place}
use Rattle.clr_season.specs.Season.{Season}
use Rattle.clr_model.specs.Fits.{stock_lists}
use Rattle.clr_model.specs.Revenue.{full_stocks}
use Rattle.clr_cert.specs.Lines.{stocks_at}
use Rattle.clr_cert.specs.Places.{all_stocks}
use Rattle.clr_cert.specs.Reading.{index_of}
use Rattle.clr_cert.proofs.Among.{Among, FirstPassing, among_flat_map, among_head, among_map, among_numbers, first_passing}
use Rattle.clr_check.proofs.Joints.{length-all_stocks}

-- the number of a list of stocks, by the stocks alone
abbrev list_number : List Store → List ℕ → ℕ
list_number [] stocks = 0
list_number (store ∷ stores) [] = 0
list_number (store ∷ stores) (stock ∷ stocks) = stock * stock_lists stores + list_number stores stocks

get_or-mapped : (x : ℕ) (lists : List (List ℕ)) (j : ℕ) → j < length lists → get_or (map (λ rest. x ∷ rest) lists) j [] ≡ x ∷ get_or lists j []
get_or-mapped x [] j h = absurd (omega arith)
get_or-mapped x (list ∷ lists) zero h = refl
get_or-mapped x (list ∷ lists) (suc j) h = get_or-mapped x lists j (omega arith)

number_at : (stores : List Store) (i : ℕ) → i < length (all_stocks stores) → list_number stores (get_or (all_stocks stores) i []) ≡ i
number_at [] i h = one i h
  where
    one : (i : ℕ) → i < suc zero → 0 ≡ i
    one i h = omega arith
number_at (store ∷ stores) i h =
    let w : ℕ = stock_lists stores in
    let block : ℕ → List (List ℕ) = λ stock. map (λ rest. stock ∷ rest) (all_stocks stores) in
    let wide : (x : ℕ) → length (block x) ≡ w = λ x. length-map (all_stocks stores) (λ rest. x ∷ rest) ∙ length-all_stocks stores in
    let many : length (all_stocks (store ∷ stores)) ≡ (store.units + 1) * w = length-all_stocks (store ∷ stores) in
    let size : store.units + 1 ≡ suc store.units = omega arith in
    let (a, b, a_less, b_less, is) = split_place (suc store.units) w i (subst (λ n. i < n * w) size (subst (λ n. i < n) many h)) in
    let inner : b < length (all_stocks stores) = subst (λ n. b < n) (sym (length-all_stocks stores)) b_less in
    let at : get_or (all_stocks (store ∷ stores)) i [] ≡ a ∷ get_or (all_stocks stores) b []
    = ap (λ n. get_or (all_stocks (store ∷ stores)) n []) is ∙ (get_or-blocks block w wide 0 (suc store.units) a b [] a_less b_less ∙ (first a b ∙ get_or-mapped a (all_stocks stores) b inner)) in
    ap (list_number (store ∷ stores)) at ∙ (ap (λ n. a * w + n) (number_at stores b inner) ∙ sym is)
  where
    first : (a b : ℕ) → get_or (map (λ rest. (0 + a) ∷ rest) (all_stocks stores)) b [] ≡ get_or (map (λ rest. a ∷ rest) (all_stocks stores)) b []
    first a b = let e : 0 + a ≡ a = omega arith in ap (λ n. get_or (map (λ rest. n ∷ rest) (all_stocks stores)) b []) e

-- the number of the list of stocks of a number is that number
pub index_at : (season : Season) (index : ℕ) → index < stock_lists season.stores → index_of season (stocks_at season index) ≡ index
index_at season index less =
    let lists : List (List ℕ) = all_stocks season.stores in
    let inside : index < length lists = subst (λ n. index < n) (sym (length-all_stocks season.stores)) less in
    let found : FirstPassing (bytes_eq (stocks_at season index)) lists = first_passing (bytes_eq (stocks_at season index)) lists (stocks_at season index) (record { at = index; here = slice_get-get_or lists index [] inside }) ((bytes_eq-Decides (stocks_at season index) (stocks_at season index)).1 refl) in
    let there : index_of season (stocks_at season index) < length lists = slice_get_within lists (index_of season (stocks_at season index)) found.item found.here in
    let same : get_or lists (index_of season (stocks_at season index)) [] ≡ stocks_at season index = get_or_from_slice_get lists (index_of season (stocks_at season index)) found.item [] found.here ∙ sym ((bytes_eq-Decides (stocks_at season index) found.item).0 found.passing) in
    sym (number_at season.stores (index_of season (stocks_at season index)) there) ∙ (ap (list_number season.stores) same ∙ number_at season.stores index inside)

-- ---- full stocks

pub one_list : (stores : List Store) → 1 ≤ stock_lists stores
one_list [] = omega arith
one_list (store ∷ stores) = let rest : 1 ≤ stock_lists stores = one_list stores in let p : 1 * stock_lists stores ≤ (store.units + 1) * stock_lists stores = mul-le-mul_right (stock_lists stores) (omega arith) in omega (arith, p, rest)

full_among : (stores : List Store) → Among (all_stocks stores) (map (λ store. store.units) stores)
full_among [] = among_head [] []
full_among (store ∷ stores) =
    among_flat_map (λ stock. map (λ rest. stock ∷ rest) (all_stocks stores)) (numbers 0 (suc store.units)) store.units (store.units ∷ map (λ s. s.units) stores) (among_numbers 0 (suc store.units) store.units (omega arith) (omega arith))
    (among_map (λ rest. store.units ∷ rest) (all_stocks stores) (map (λ s. s.units) stores) (full_among stores))

full_number : (stores : List Store) → list_number stores (map (λ store. store.units) stores) + 1 ≡ stock_lists stores
full_number [] = omega arith
full_number (store ∷ stores) = let rest : list_number stores (map (λ s. s.units) stores) + 1 ≡ stock_lists stores = full_number stores in let e : (store.units + 1) * stock_lists stores ≡ store.units * stock_lists stores + stock_lists stores = more store.units (stock_lists stores) in omega (arith, rest, e)
  where
    more : (a b : ℕ) → (a + 1) * b ≡ a * b + b
    more a b = grind arith

-- the list of the full stocks is the last
pub full_index : (season : Season) → index_of season (full_stocks season) ≡ stock_lists season.stores - 1
full_index season =
    let stocks : List ℕ = full_stocks season in
    let lists : List (List ℕ) = all_stocks season.stores in
    let found : FirstPassing (bytes_eq stocks) lists = first_passing (bytes_eq stocks) lists stocks (full_among season.stores) ((bytes_eq-Decides stocks stocks).1 refl) in
    let there : index_of season stocks < length lists = slice_get_within lists (index_of season stocks) found.item found.here in
    let same : get_or lists (index_of season stocks) [] ≡ stocks = get_or_from_slice_get lists (index_of season stocks) found.item [] found.here ∙ sym ((bytes_eq-Decides stocks found.item).0 found.passing) in
    let is : index_of season stocks ≡ list_number season.stores stocks = sym (number_at season.stores (index_of season stocks) there) ∙ ap (list_number season.stores) same in
    let last : list_number season.stores stocks + 1 ≡ stock_lists season.stores = full_number season.stores in
    omega (arith, is, last)
