-- How many lines there are after so many weeks, and how many live summaries.
use Rattle.std.proofs.Common.{◌≡◌, ℕ, ◌+◌, ◌*◌, ◌≤◌, Bool, true, false, List, [], ◌∷◌, ◌++◌, length, map, refl, sym, ◌∙◌, subst, arith, suc, zero, cond, if◌then◌else◌, length-append, le_trans, mul-le-mul}
use Rattle.std.proofs.lemmas.List.{length-map}
use Rattle.std.specs.List.{flat_map, filter}
use Rattle.clr_num.specs.Lists.{numbers}
use Rattle.clr_rules.specs.declared.season_rules.Summary.{Summary}
use Rattle.clr_rules.specs.Rules.{most_markdowns}
use Rattle.clr_rules.specs.LiveSummaries.{live_summaries, summaries, is_live_summary}
use Rattle.clr_rules.proofs.GridLemmas.{length-numbers, length-blocks}
use Rattle.clr_rules.proofs.Sweeps.{length-grid}
use Rattle.clr_season.specs.Season.{Season, IsSeason}
use Rattle.clr_model.specs.Fits.{fits, stock_lists}
use Rattle.clr_cert.specs.declared.place.Place.{Place}
use Rattle.clr_cert.specs.declared.place.Place.TheVariants.{Lengths, Path, Mult, Low, High, Value, Joint, Revenue, Bound, Exact}
use Rattle.clr_cert.specs.Places.{countdown, low_places, high_places, value_places, joint_places, week_places, mult_places, has_lengths, places}

-- ---- live summaries

length-filter_le : (test : Summary → Bool) (list : List Summary) → length (filter test list) ≤ length list
length-filter_le test [] = omega arith
length-filter_le test (s ∷ list) = by_test (test s) (length-filter_le test list)
  where
    by_test : (b : Bool) → length (filter test list) ≤ length list → length (cond b (s ∷ filter test list) (filter test list)) ≤ suc (length list)
    by_test true h = omega arith
    by_test false h = omega arith

pub few_live : (season : Season) (done : ℕ) → IsSeason season → length (live_summaries season.rules done) ≤ 1872
few_live season done is =
    let all : length (summaries season.rules) ≡ (length season.rules.prices * suc (most_markdowns season.rules)) * season.rules.spacing =
    length-grid season.rules (length season.rules.prices) (suc (most_markdowns season.rules)) season.rules.spacing (record { rungs_are = refl; counts_are = refl; ages_are = refl }) in
    let rungs : length season.rules.prices ≤ 12 = is.rules.ladder.few in
    let counts : suc (most_markdowns season.rules) ≤ 13 = omega (arith, is.rules.markdowns) in
    let most : (length season.rules.prices * suc (most_markdowns season.rules)) * season.rules.spacing ≤ 1872 = mul-le-mul (mul-le-mul rungs counts) is.rules.far in
    le_trans (length-filter_le (is_live_summary season.rules done) (summaries season.rules)) (subst (λ n. n ≤ 1872) (sym all) most)

-- ---- lines

length-by_number : (g : ℕ → Place) (from count : ℕ) → length (map g (numbers from count)) ≡ count
length-by_number g from count = length-map (numbers from count) g ∙ length-numbers from count

length-blocks_of : (f : Summary → List Place) (width : ℕ) → ((s : Summary) → length (f s) ≡ width) → (list : List Summary) → length (flat_map f list) ≡ length list * width
length-blocks_of f width wide [] = omega arith
length-blocks_of f width wide (s ∷ list) =
    total (length (flat_map f list)) (length-append (f s) (flat_map f list)) (length-blocks_of f width wide list) (wide s)
  where
    total : (b : ℕ) → length (f s ++ flat_map f list) ≡ length (f s) + b → b ≡ length list * width → length (f s) ≡ width → length (f s ++ flat_map f list) ≡ suc (length list) * width
    total b p q r = omega arith

length-joint : (season : Season) (done : ℕ) → length (joint_places season done) ≡ length (live_summaries season.rules done) * (if fits season then stock_lists season.stores else 0)
length-joint season done = by_fit (fits season)
  where
    by_fit : (b : Bool) → length (cond b (flat_map (λ s. map (λ index. Joint done s index) (numbers 0 (stock_lists season.stores))) (live_summaries season.rules done)) []) ≡ length (live_summaries season.rules done) * (if b then stock_lists season.stores else 0)
    by_fit true = length-blocks_of (λ s. map (λ index. Joint done s index) (numbers 0 (stock_lists season.stores))) (stock_lists season.stores) (λ s. length-by_number (λ index. Joint done s index) 0 (stock_lists season.stores)) (live_summaries season.rules done)
    by_fit false = omega arith

pub length-week : (season : Season) (done : ℕ) → length (week_places season done) ≡ 2 * length season.stores + length (live_summaries season.rules done) * (length season.stores + (if fits season then stock_lists season.stores else 0))
length-week season done =
    let low : length (low_places season done) ≡ length season.stores = length-by_number (λ store. Low done store) 1 (length season.stores) in
    let high : length (high_places season done) ≡ length season.stores = length-by_number (λ store. High done store) 1 (length season.stores) in
    let value : length (value_places season done) ≡ length season.stores * length (live_summaries season.rules done) =
    length-blocks (λ store. map (λ s. Value done store s) (live_summaries season.rules done)) (length (live_summaries season.rules done)) (λ store. length-map (live_summaries season.rules done) (λ s. Value done store s)) 1 (length season.stores) in
    let a = length-append (low_places season done) (high_places season done ++ (value_places season done ++ joint_places season done)) in
    let b = length-append (high_places season done) (value_places season done ++ joint_places season done) in
    let c = length-append (value_places season done) (joint_places season done) in
    total (length season.stores) (length (live_summaries season.rules done)) (if fits season then stock_lists season.stores else 0) (length (low_places season done)) (length (high_places season done)) (length (value_places season done)) (length (joint_places season done)) a b c low high value (length-joint season done)
  where
    total : (s k j l h v jj : ℕ) {rest more all : ℕ} → all ≡ l + rest → rest ≡ h + more → more ≡ v + jj → l ≡ s → h ≡ s → v ≡ s * k → jj ≡ k * j → all ≡ 2 * s + k * (s + j)
    total s k j l h v jj p q r t u w x = omega arith

-- the lines of values of the first so many numbers of weeks
abbrev pub lines_below : Season → ℕ → ℕ
lines_below season zero = 0
lines_below season (suc done) = length (flat_map (week_places season) (countdown done))

pub lines_more : (season : Season) (done : ℕ) → lines_below season (suc done) ≡ lines_below season done + length (week_places season done)
lines_more season zero = let e = length-append (week_places season 0) [] in omega arith
lines_more season (suc done) = let e = length-append (week_places season (suc done)) (flat_map (week_places season) (countdown done)) in omega arith

pub week_range : (stores summaries joint : ℕ) → stores ≤ 64 → summaries ≤ 1872 → joint ≤ 16032024008001 → 2 * stores + summaries * (stores + joint) ≤ 100000000000000000
week_range stores summaries joint p q r =
    let sum : stores + joint ≤ 16032024008065 = omega arith in
    let most : summaries * (stores + joint) ≤ 1872 * 16032024008065 = mul-le-mul q sum in
    omega arith

pub length-mults : (season : Season) → length (mult_places season) ≡ season.rules.weeks * length season.rules.prices
length-mults season =
    length-blocks (λ week. map (λ rung. Mult week rung) (numbers 1 (length season.rules.prices))) (length season.rules.prices) (λ week. length-by_number (λ rung. Mult week rung) 1 (length season.rules.prices)) 1 season.rules.weeks

-- all lines
pub length-places : (season : Season) →
    length (places season) ≡ 4 + (if has_lengths season then 1 else 0) + season.rules.weeks * length season.rules.prices + length (flat_map (week_places season) (countdown season.rules.weeks)) + (if fits season then 1 else 0)
unfolding places
length-places season =
    let a = by_lengths (has_lengths season) in
    let b = length-append (mult_places season) (flat_map (week_places season) (countdown season.rules.weeks) ++ (Revenue ∷ Bound ∷ (if fits season then Exact ∷ [] else []))) in
    let c = length-append (flat_map (week_places season) (countdown season.rules.weeks)) (Revenue ∷ Bound ∷ (if fits season then Exact ∷ [] else [])) in
    let d = by_fit (fits season) in
    let e = length-mults season in
    omega arith
  where
    rest : List Place
    rest = Path ∷ (mult_places season ++ (flat_map (week_places season) (countdown season.rules.weeks) ++ (Revenue ∷ Bound ∷ (if fits season then Exact ∷ [] else []))))

    by_lengths : (b : Bool) → length ((if b then Lengths ∷ [] else []) ++ rest) ≡ (if b then 1 else 0) + length rest
    by_lengths true = omega arith
    by_lengths false = omega arith

    by_fit : (b : Bool) → length (Revenue ∷ Bound ∷ (if b then Exact ∷ [] else [])) ≡ 2 + (if b then 1 else 0)
    by_fit true = refl
    by_fit false = refl
