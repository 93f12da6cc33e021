-- The lines of a season's certificate, by their places.
use Rattle.std.specs.Prelude.{◌≡◌, ℕ, zero, suc, ◌<◌, ◌≤◌, ◌==◌, Bool, if◌then◌else◌, IsTrue, List, [], ◌∷◌, ◌++◌, length, map, Some, slice_get, ⊤}
use Rattle.std.specs.List.{flat_map}
use Rattle.clr_num.specs.Lists.{numbers}
use Rattle.clr_stock.specs.Stock.{Store}
use Rattle.clr_rules.specs.declared.season_rules.Summary.{Summary}
use Rattle.clr_rules.specs.LiveSummaries.{live_summaries, IsIn}
use Rattle.clr_season.specs.Season.{Season}
use Rattle.clr_model.specs.Fits.{fits, stock_lists}
use Rattle.clr_cert.specs.declared.place.Place.{Place}
use Rattle.clr_cert.specs.declared.place.Place.TheVariants.{Head, Lengths, Path, Mult, Low, High, Value, Joint, Revenue, Bound, Exact, End}

-- so many, one less, and so on down to 0
abbrev pub countdown : ℕ → List ℕ
countdown zero = 0 ∷ []
countdown (suc n) = suc n ∷ countdown n

-- the numbers of the stores, of the weeks and of the rungs
abbrev pub store_numbers : Season → List ℕ
store_numbers season = numbers 1 (length season.stores)

abbrev pub week_numbers : Season → List ℕ
week_numbers season = numbers 1 season.rules.weeks

abbrev pub rung_numbers : Season → List ℕ
rung_numbers season = numbers 1 (length season.rules.prices)

-- all lists of stocks, one for each store and from 0 to what it opens with: the first store's goes slowest
abbrev pub all_stocks : List Store → List (List ℕ)
all_stocks [] = [] ∷ []
all_stocks (store ∷ stores) = flat_map (λ stock. map (λ rest. stock ∷ rest) (all_stocks stores)) (numbers 0 (suc store.units))

-- the multipliers, by week and then by rung
abbrev pub mult_places : Season → List Place
mult_places season = flat_map (λ week. map (λ rung. Mult week rung) (rung_numbers season)) (week_numbers season)

-- a path's values rounded down, and up, after so many weeks: by store
abbrev pub low_places : Season → ℕ → List Place
low_places season done = map (λ store. Low done store) (store_numbers season)

abbrev pub high_places : Season → ℕ → List Place
high_places season done = map (λ store. High done store) (store_numbers season)

-- the stores' values after so many weeks: by store, and then by live summary
abbrev pub value_places : Season → ℕ → List Place
value_places season done = flat_map (λ store. map (λ s. Value done store s) (live_summaries season.rules done)) (store_numbers season)

-- the values of all stores after so many weeks: by live summary, and then by the lists of stocks, which are counted from 0
abbrev pub joint_places : Season → ℕ → List Place
joint_places season done =
    if fits season then flat_map (λ s. map (λ index. Joint done s index) (numbers 0 (stock_lists season.stores))) (live_summaries season.rules done) else []

-- all values after so many weeks
abbrev pub week_places : Season → ℕ → List Place
week_places season done = low_places season done ++ (high_places season done ++ (value_places season done ++ joint_places season done))

-- a certificate of version 3 tells how many lines and live summaries there are
abbrev pub has_lengths : Season → Bool
has_lengths season = season.version == 3

-- The places of all lines in their order: the values go from the end of the season back to its start.
unfoldable pub places : Season → List Place
places season =
    Head ∷ ((if has_lengths season then Lengths ∷ [] else []) ++ (Path ∷ (mult_places season ++ (flat_map (week_places season) (countdown season.rules.weeks)
    ++ (Revenue ∷ Bound ∷ (if fits season then Exact ∷ [] else []))))))

-- the places, and the end after them
abbrev pub walk : Season → List Place
walk season = places season ++ End ∷ []

-- a place that the walk from the head reaches
abbrev pub IsReached : Season → Place → Type 0
IsReached season place = (row : ℕ) × (slice_get (walk season) row ≡ Some place)

-- ---- the numbers of a place

-- a week and a rung
pub record IsWeekRung (season : Season) (week rung : ℕ) : Type 0 where
  pub first_week : 1 ≤ week
  pub last_week : week ≤ season.rules.weeks
  pub first_rung : 1 ≤ rung
  pub last_rung : rung ≤ length season.rules.prices

-- a number of weeks done, and a store
pub record IsWeekStore (season : Season) (done store : ℕ) : Type 0 where
  pub early : done ≤ season.rules.weeks
  pub first : 1 ≤ store
  pub last : store ≤ length season.stores

-- the number of a list of stocks in a season that fits, a number of weeks done and a live summary
pub record IsJointPlace (season : Season) (done : ℕ) (s : Summary) (index : ℕ) : Type 0 where
  pub fit : IsTrue (fits season)
  pub early : done ≤ season.rules.weeks
  pub live : IsIn (live_summaries season.rules done) s
  pub within : index < stock_lists season.stores

-- the numbers are the season's
abbrev pub IsPlaceOf : Season → Place → Type 0
IsPlaceOf season (Mult week rung) = IsWeekRung season week rung
IsPlaceOf season (Low done store) = IsWeekStore season done store
IsPlaceOf season (High done store) = IsWeekStore season done store
IsPlaceOf season (Value done store s) = IsWeekStore season done store × IsIn (live_summaries season.rules done) s
IsPlaceOf season (Joint done s index) = IsJointPlace season done s index
IsPlaceOf season Head = ⊤
IsPlaceOf season Lengths = ⊤
IsPlaceOf season Path = ⊤
IsPlaceOf season Revenue = ⊤
IsPlaceOf season Bound = ⊤
IsPlaceOf season Exact = IsTrue (fits season)
IsPlaceOf season End = ⊤
