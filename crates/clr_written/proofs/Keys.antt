-- The key of a line: a word, and numbers that are few and small.
use Rattle.std.proofs.Common.{◌≡◌, ℕ, ◌+◌, ◌*◌, ◌^◌, ◌<◌, ◌≤◌, Bool, true, false, cond, nat_lt, nat_le, refl, sym, ◌∙◌, subst, arith, suc, zero, List, [], ◌∷◌, ◌++◌, length, map, get_or, append-nil, leb→le, mul-le-mul, if◌then◌else◌, ◌⊎◌, inl, inr}
use Rattle.std.specs.Prelude.{codes}
use Rattle.std.specs.Bool.{passes}
use Rattle.std.specs.List.{AllByRecursion, list_all}
use Rattle.std.proofs.lemmas.Bool.{and_parts, cases_lt}
use Rattle.std.proofs.lemmas.List.{get_or_past}
use lib.ListN.{length-map}
use Rattle.clr_num.specs.Lists.{numbers}
use Rattle.clr_stock.specs.Stock.{Store, no_store}
use Rattle.clr_rules.specs.declared.season_rules.Summary.{Summary}
use Rattle.clr_rules.specs.LiveSummaries.{live_summaries, IsIn}
use Rattle.clr_rules.specs.Rules.{IsInRange, most_markdowns}
use Rattle.clr_rules.proofs.GridLemmas.{length-numbers}
use Rattle.clr_rules.proofs.LiveLists.{in_range, reached-by}
use Rattle.clr_rules.proofs.SummaryLemmas.{live-keeps}
use Rattle.clr_season.specs.Season.{Season, IsSeason}
use Rattle.clr_model.specs.Fits.{fits, stock_lists}
use Rattle.clr_model.proofs.FitsBounds.{lists_more, lists_most}
use Rattle.clr_model.proofs.Sizes.{store_within}
use Rattle.clr_model.proofs.Sums.{All-imply}
use Rattle.clr_model.proofs.JointNumbers.{All-append_in, All-flat_map_in, All-map_in}
use Rattle.clr_cert.specs.declared.place.Place.{Place}
use Rattle.clr_cert.specs.declared.place.Place.TheVariants.{Head, Lengths, Path, Mult, Low, High, Value, Joint, Revenue, Bound, Exact, End}
use Rattle.clr_cert.specs.Lines.{head_text, key_fields, key_text, length_keys, stocks_at, summary_keys}
use Rattle.clr_cert.specs.Places.{IsJointPlace, IsPlaceOf, IsWeekStore, all_stocks, has_lengths, places, week_places}
use Rattle.clr_cert.proofs.Counting.{few_live, length-places, length-week, lines_below, lines_more, week_range}
use Rattle.clr_cert.proofs.Walking.{is_live_in}
use Rattle.clr_written.proofs.Alls.{All-numbers}
use Rattle.clr_written.proofs.Spelled.{AreKeys, most_told}

-- ---- the word and the numbers

abbrev pub key_word : Season → Place → List ℕ
key_word season Head = head_text season
key_word season Lengths = codes "lengths"
key_word season Path = codes "path"
key_word season (Mult week rung) = codes "m"
key_word season (Low done store) = codes "l"
key_word season (High done store) = codes "h"
key_word season (Value done store s) = codes "v"
key_word season (Joint done s index) = codes "j"
key_word season Revenue = codes "revenue"
key_word season Bound = codes "bound"
key_word season Exact = codes "exact"
key_word season End = []

abbrev pub key_numbers : Season → Place → List ℕ
key_numbers season Head = []
key_numbers season Lengths = length_keys season
key_numbers season Path = []
key_numbers season (Mult week rung) = week ∷ rung ∷ []
key_numbers season (Low done store) = done ∷ store ∷ []
key_numbers season (High done store) = done ∷ store ∷ []
key_numbers season (Value done store s) = done ∷ store ∷ summary_keys s
key_numbers season (Joint done s index) = done ∷ (summary_keys s ++ stocks_at season index)
key_numbers season Revenue = []
key_numbers season Bound = []
key_numbers season Exact = []
key_numbers season End = []

pub key_parts : (season : Season) (place : Place) → key_text season place ≡ key_word season place ++ key_fields (key_numbers season place)
unfolding key_text
key_parts season Head = sym (append-nil (head_text season))
key_parts season Lengths = refl
key_parts season Path = refl
key_parts season (Mult week rung) = refl
key_parts season (Low done store) = refl
key_parts season (High done store) = refl
key_parts season (Value done store s) = refl
key_parts season (Joint done s index) = refl
key_parts season Revenue = refl
key_parts season Bound = refl
key_parts season Exact = refl
key_parts season End = refl

-- its bytes stand above the line feed, and they are few
pub word_is : (season : Season) (place : Place) → (list_all (λ byte. nat_lt 10 byte) (key_word season place) ≡ true) × (nat_le (length (key_word season place)) 24 ≡ true)
word_is season Head = by_version (has_lengths season)
  where
    by_version : (b : Bool) → (list_all (λ byte. nat_lt 10 byte) (cond b (codes "clearance certificate 2") (codes "clearance certificate 1")) ≡ true) × (nat_le (length (cond b (codes "clearance certificate 2") (codes "clearance certificate 1"))) 24 ≡ true)
    by_version true = (refl, refl)
    by_version false = (refl, refl)
word_is season Lengths = (refl, refl)
word_is season Path = (refl, refl)
word_is season (Mult week rung) = (refl, refl)
word_is season (Low done store) = (refl, refl)
word_is season (High done store) = (refl, refl)
word_is season (Value done store s) = (refl, refl)
word_is season (Joint done s index) = (refl, refl)
word_is season Revenue = (refl, refl)
word_is season Bound = (refl, refl)
word_is season Exact = (refl, refl)
word_is season End = (refl, refl)

-- ---- stocks

pub units_few : (season : Season) (i : ℕ) → IsSeason season → (get_or season.stores i no_store).units ≤ 2000
units_few season i ok = by_place (cases_lt i (length season.stores))
  where
    by_place : (i < length season.stores) ⊎ (length season.stores ≤ i) → (get_or season.stores i no_store).units ≤ 2000
    by_place (inl less) = (store_within season (suc i) ok (omega arith) less).units
    by_place (inr past) = let none : get_or season.stores i no_store ≡ no_store = get_or_past season.stores i no_store past in subst (λ s. s.units ≤ 2000) (sym none) (omega arith)

-- a list with so many stocks at most, none of them above 2000
pub record AreFew (count : ℕ) (stocks : List ℕ) : Type 0 where
  pub size : length stocks ≤ count
  pub held : AllByRecursion (λ stock. stock ≤ 2000) stocks

lists_few : (stores : List Store) → ((i : ℕ) → (get_or stores i no_store).units ≤ 2000) → AllByRecursion (AreFew (length stores)) (all_stocks stores)
lists_few [] h = (record { size = omega arith; held = tt }, tt)
lists_few (store ∷ stores) h =
    let units : store.units ≤ 2000 = h 0 in
    let rest : AllByRecursion (AreFew (length stores)) (all_stocks stores) = lists_few stores (λ i. h (suc i)) in
    All-flat_map_in (AreFew (suc (length stores))) (λ stock. map (λ more. stock ∷ more) (all_stocks stores)) (numbers 0 (suc store.units))
    (All-numbers (λ stock. AllByRecursion (AreFew (suc (length stores))) (map (λ more. stock ∷ more) (all_stocks stores))) 0 (suc store.units)
    (λ stock low high. All-map_in (AreFew (suc (length stores))) (λ more. stock ∷ more) (all_stocks stores)
    (All-imply (AreFew (length stores)) (λ more. AreFew (suc (length stores)) (stock ∷ more)) (all_stocks stores) (λ more few. longer stock more (omega arith) few) rest)))
  where
    longer : (stock : ℕ) (more : List ℕ) → stock ≤ 2000 → AreFew (length stores) more → AreFew (suc (length stores)) (stock ∷ more)
    longer stock more held few = record { size = (let size : length more ≤ length stores = few.size in omega (arith, size)); held = (held, few.held) }

All-get : {X : Type 0} (P : X → Type 0) (xs : List X) (i : ℕ) (d : X) → P d → AllByRecursion P xs → P (get_or xs i d)
All-get P [] i d none all = none
All-get P (x ∷ xs) zero d none all = all.0
All-get P (x ∷ xs) (suc i) d none all = All-get P xs i d none all.1

pub stocks_few : (season : Season) (index : ℕ) → IsSeason season → AreFew (length season.stores) (stocks_at season index)
stocks_few season index ok =
    All-get (AreFew (length season.stores)) (all_stocks season.stores) index [] (record { size = omega arith; held = tt }) (lists_few season.stores (λ i. units_few season i ok))

-- ---- summaries

summary_range : (season : Season) (done : ℕ) (s : Summary) → IsSeason season → done ≤ season.rules.weeks → IsIn (live_summaries season.rules done) s → IsInRange season.rules s
summary_range season done s ok early h =
    let (prefix, weeks, live, same) = is_live_in season done s ok early h in
    in_range season.rules done s ok.rules early (reached-by season.rules done s prefix (record { weeks = weeks; keeps = live-keeps season.rules prefix live; same = same }))

summary_small : (season : Season) (s : Summary) → IsSeason season → IsInRange season.rules s → AreKeys (summary_keys s)
summary_small season s ok range =
    let high : s.last ≤ length season.rules.prices = range.high in
    let few : length season.rules.prices ≤ 12 = ok.rules.ladder.few in
    let count : s.count ≤ most_markdowns season.rules = range.count in
    let most : season.rules.markdowns ≤ 12 = ok.rules.markdowns in
    let old : s.age ≤ season.rules.spacing = range.old in
    let far : season.rules.spacing ≤ 12 = ok.rules.far in
    (omega (arith, high, few), (omega (arith, count, most), (omega (arith, old, far), tt)))

-- ---- how many lines there are

abbrev joint_lines : Season → ℕ
joint_lines season = if fits season then stock_lists season.stores else 0

lists_power : (stores : List Store) → ((i : ℕ) → (get_or stores i no_store).units ≤ 2000) → stock_lists stores ≤ 2001 ^ length stores
lists_power [] h = omega arith
lists_power (store ∷ stores) h =
    let units : store.units ≤ 2000 = h 0 in
    let rest : stock_lists stores ≤ 2001 ^ length stores = lists_power stores (λ i. h (suc i)) in
    let next : length stores + 1 ≡ suc (length stores) = omega arith in
    let more : stock_lists stores * (store.units + 1) ≤ 2001 ^ (length stores + 1) = lists_more (stock_lists stores) (store.units + 1) (length stores) rest (omega arith) in
    swap (store.units + 1) (stock_lists stores) (2001 ^ suc (length stores)) (subst (λ n. stock_lists stores * (store.units + 1) ≤ 2001 ^ n) next more)
  where
    swap : (a b c : ℕ) → b * a ≤ c → a * b ≤ c
    swap a b c h = grind arith

joint_few : (season : Season) → IsSeason season → joint_lines season ≤ 16032024008001
joint_few season ok = by_fit (fits season) refl
  where
    by_fit : (b : Bool) → fits season ≡ b → cond b (stock_lists season.stores) 0 ≤ 16032024008001
    by_fit true e = lists_most (stock_lists season.stores) (length season.stores) (lists_power season.stores (λ i. units_few season i ok)) (leb→le (length season.stores) 4 (passes _ (and_parts _ _ e).0))
    by_fit false e = omega arith

week_few : (season : Season) (done : ℕ) → IsSeason season → length (week_places season done) ≤ 100000000000000000
week_few season done ok =
    let size = length-week season done in
    let stores : length season.stores ≤ 64 = ok.stores.few in
    subst (λ n. n ≤ 100000000000000000) (sym size) (week_range (length season.stores) (length (live_summaries season.rules done)) (joint_lines season) stores (few_live season done ok) (joint_few season ok))

values_few : (season : Season) (done : ℕ) → IsSeason season → lines_below season done ≤ done * 100000000000000000
values_few season zero ok = omega arith
values_few season (suc done) ok =
    let more : lines_below season (suc done) ≡ lines_below season done + length (week_places season done) = lines_more season done in
    let rest : lines_below season done ≤ done * 100000000000000000 = values_few season done ok in
    let here : length (week_places season done) ≤ 100000000000000000 = week_few season done ok in
    omega (arith, more, rest, here)

lines_few : (season : Season) → IsSeason season → length (places season) ≤ most_told
lines_few season ok =
    let all = length-places season in
    let weeks : season.rules.weeks ≤ 52 = ok.rules.last_week in
    let rungs : length season.rules.prices ≤ 12 = ok.rules.ladder.few in
    let mults : season.rules.weeks * length season.rules.prices ≤ 52 * 12 = mul-le-mul weeks rungs in
    let values : lines_below season (suc season.rules.weeks) ≤ suc season.rules.weeks * 100000000000000000 = values_few season (suc season.rules.weeks) ok in
    total (length (places season)) (flag (has_lengths season)) (season.rules.weeks * length season.rules.prices) (lines_below season (suc season.rules.weeks)) (flag (fits season)) season.rules.weeks all (flag_few (has_lengths season)) mults values (flag_few (fits season)) weeks
  where
    flag : Bool → ℕ
    flag b = if b then 1 else 0

    flag_few : (b : Bool) → (if b then 1 else 0) ≤ 1
    flag_few true = omega arith
    flag_few false = omega arith

    total : (all a b c d weeks : ℕ) → all ≡ 4 + a + b + c + d → a ≤ 1 → b ≤ 624 → c ≤ suc weeks * 100000000000000000 → d ≤ 1 → weeks ≤ 52 → all ≤ 100000000000000000000
    total all a b c d weeks p q r s t u = omega arith

-- ---- the numbers of a key

-- so many at most, and each is small
pub record IsKey (numbers : List ℕ) : Type 0 where
  pub size : length numbers ≤ 70
  pub small : AreKeys numbers

lengths_key : (season : Season) → IsSeason season → IsKey (length_keys season)
unfolding length_keys
lengths_key season ok =
    let weeks : season.rules.weeks ≤ 52 = ok.rules.last_week in
    let many : length (map (λ done. length (live_summaries season.rules done)) (numbers 0 (suc season.rules.weeks))) ≡ suc season.rules.weeks =
    length-map (numbers 0 (suc season.rules.weeks)) (λ done. length (live_summaries season.rules done)) ∙ length-numbers 0 (suc season.rules.weeks) in
    record {
      size = omega (arith, many, weeks);
      small = (
        lines_few season ok,
        All-map_in (λ key. key ≤ most_told) (λ done. length (live_summaries season.rules done)) (numbers 0 (suc season.rules.weeks))
            (All-numbers (λ done. length (live_summaries season.rules done) ≤ most_told) 0 (suc season.rules.weeks) (λ done low high. let few = few_live season done ok in omega (arith, few))),
      );
    }

store_small : (season : Season) (done store : ℕ) → IsSeason season → IsWeekStore season done store → (done ≤ most_told) × (store ≤ most_told)
store_small season done store ok of =
    let weeks : season.rules.weeks ≤ 52 = ok.rules.last_week in
    let stores : length season.stores ≤ 64 = ok.stores.few in
    let early : done ≤ season.rules.weeks = of.early in
    let last : store ≤ length season.stores = of.last in
    (omega (arith, weeks, early), omega (arith, stores, last))

joint_key : (season : Season) (done : ℕ) (s : Summary) (index : ℕ) → IsSeason season → IsJointPlace season done s index → IsKey (done ∷ (summary_keys s ++ stocks_at season index))
joint_key season done s index ok of =
    let weeks : season.rules.weeks ≤ 52 = ok.rules.last_week in
    let early : done ≤ season.rules.weeks = of.early in
    let stores : length season.stores ≤ 64 = ok.stores.few in
    let few : AreFew (length season.stores) (stocks_at season index) = stocks_few season index ok in
    let size : length (stocks_at season index) ≤ length season.stores = few.size in
    record {
      size = omega (arith, size, stores);
      small = (
        omega (arith, weeks, early),
        All-append_in (λ key. key ≤ most_told) (summary_keys s) (stocks_at season index) (summary_small season s ok (summary_range season done s ok of.early of.live))
            (All-imply (λ stock. stock ≤ 2000) (λ key. key ≤ most_told) (stocks_at season index) (λ stock h. omega (arith, h)) few.held),
      );
    }

pub key_is : (season : Season) (place : Place) → IsSeason season → IsPlaceOf season place → IsKey (key_numbers season place)
key_is season Head ok of = record { size = omega arith; small = tt }
key_is season Lengths ok of = lengths_key season ok
key_is season Path ok of = record { size = omega arith; small = tt }
key_is season (Mult week rung) ok of =
    let weeks : season.rules.weeks ≤ 52 = ok.rules.last_week in
    let rungs : length season.rules.prices ≤ 12 = ok.rules.ladder.few in
    let a : week ≤ season.rules.weeks = of.last_week in
    let b : rung ≤ length season.rules.prices = of.last_rung in
    record { size = omega arith; small = (omega (arith, weeks, a), (omega (arith, rungs, b), tt)) }
key_is season (Low done store) ok of = let small = store_small season done store ok of in record { size = omega arith; small = (small.0, (small.1, tt)) }
key_is season (High done store) ok of = let small = store_small season done store ok of in record { size = omega arith; small = (small.0, (small.1, tt)) }
key_is season (Value done store s) ok of =
    let small = store_small season done store ok of.0 in
    record { size = omega arith; small = (small.0, (small.1, summary_small season s ok (summary_range season done s ok of.0.early of.1))) }
key_is season (Joint done s index) ok of = joint_key season done s index ok of
key_is season Revenue ok of = record { size = omega arith; small = tt }
key_is season Bound ok of = record { size = omega arith; small = tt }
key_is season Exact ok of = record { size = omega arith; small = tt }
key_is season End ok of = record { size = omega arith; small = tt }
