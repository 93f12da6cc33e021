-- The numbers of all stores after a week, as rows, and the sum over a week's joint demands from one store on.
use Rattle.std.specs.Prelude.{◌≡◌, ℕ, suc, ◌+◌, ◌-◌, ◌*◌, ◌^◌, ◌≤◌, ◌<◌, ℤ, pos, ◌+ℤ◌, ◌*ℤ◌, if◌then◌else◌, List, [], ◌∷◌, length, drop, get_or, slice_get, Some}
use Rattle.clr_average.specs.Average.{IsWithin}
use Rattle.clr_rules.specs.declared.season_rules.Summary.{Summary}
use Rattle.clr_rules.specs.LiveSummaries.{leads_at, live_summaries}
use Rattle.clr_season.specs.Season.{Season}
use Rattle.clr_model.specs.Fits.{stock_lists}
use Rattle.clr_model.specs.JointFold.{fold_stores}
use Rattle.clr_model.specs.Revenue.{cent, earn, left, salvage_cents}
use Rattle.clr_cert.specs.Conditions.{Condition, joint_top_condition}
use Rattle.clr_cert.specs.Entries.{CertEntries, most_entry}
use Rattle.clr_cert.specs.Lines.{stocks_at}
use Rattle.clr_cert.specs.Places.{all_stocks}
use Rattle.clr_check.specs.declared.joint.RungWeek.{RungWeek}

-- ---- the rows of a week

-- rows, one for each live summary after so many weeks, have the numbers of a function of summaries and lists of stocks
abbrev pub HasJointRows : Season → ℕ → List ℤ → (Summary → List ℕ → ℤ) → Type 0
HasJointRows season done rows f =
    (place index : ℕ) (s : Summary) → slice_get (live_summaries season.rules done) place ≡ Some s → index < stock_lists season.stores → f s (stocks_at season index) ≡ get_or rows (place * stock_lists season.stores + index) (pos 0)

-- there is a row for each live summary after so many weeks, and each number lies in the range of entries
pub record AreJointRows (season : Season) (done : ℕ) (rows : List ℤ) : Type 0 where
  pub size : length (live_summaries season.rules done) * stock_lists season.stores ≤ length rows
  pub small : (k : ℕ) → k < length rows → IsWithin most_entry (get_or rows k (pos 0))

-- rows have the low numbers of some entries after so many weeks, or the top numbers
abbrev pub HasLows : Season → CertEntries → ℕ → List ℤ → Type 0
HasLows season entries done rows = HasJointRows season done rows (λ s stocks. (entries.joint done s stocks).1)

abbrev pub HasTops : Season → CertEntries → ℕ → List ℤ → Type 0
HasTops season entries done rows = HasJointRows season done rows (λ s stocks. (entries.joint done s stocks).2)

-- the condition of a rung on the top number, where the rung leads to a live summary
abbrev pub top_conditions : Season → CertEntries → ℕ → Summary → List ℕ → ℤ → ℕ → List Condition
top_conditions season entries done s stocks top rung = if leads_at season.rules done s rung then joint_top_condition season entries done s stocks top rung ∷ [] else []

-- ---- the stores after some

-- how many lists of stocks these stores have
abbrev pub lists_after : Season → ℕ → ℕ
lists_after season past = stock_lists (drop past season.stores)

-- their list of stocks of a number, counted from 0
abbrev pub list_after : Season → ℕ → ℕ → List ℕ
list_after season past index = get_or (all_stocks (drop past season.stores)) index []

-- a row has the numbers of a function of their lists
abbrev pub HasLists : Season → ℕ → List ℤ → (List ℕ → ℤ) → Type 0
HasLists season past row f = (index : ℕ) → index < lists_after season past → f (list_after season past index) ≡ get_or row index (pos 0)

-- there is a number in the range of entries for each list
pub record IsListRow (season : Season) (past : ℕ) (row : List ℤ) : Type 0 where
  pub size : length row ≡ lists_after season past
  pub small : (k : ℕ) → k < length row → IsWithin most_entry (get_or row k (pos 0))

-- what these stocks are worth at the end
abbrev pub worth_after : Season → ℕ → List ℕ → ℤ
worth_after season past [] = pos 0
worth_after season past (stock ∷ stocks) = pos cent *ℤ salvage_cents season (suc past) stock +ℤ worth_after season (suc past) stocks

-- ---- the sum over a week's joint demands

-- a week of the season, a rung and the rung before
pub record IsRungWeek (season : Season) (week : RungWeek) : Type 0 where
  pub early : week.done < season.rules.weeks
  pub low_before : 1 ≤ week.before
  pub high_before : week.before ≤ length season.rules.prices
  pub low : 1 ≤ week.rung
  pub high : week.rung ≤ length season.rules.prices

-- the sum over the joint demands of these stores
abbrev pub sum_after : Season → RungWeek → ℕ → List ℕ → (List ℕ → ℤ) → ℤ
sum_after season week past stocks f = fold_stores season week.done week.before week.rung (suc past) stocks f

-- What a demand of the first of these stores gives: the sum of those after it over the number of what is left, and what the store earns, times
-- the base for each store after it.
abbrev pub part_after : Season → RungWeek → ℕ → ℕ → List ℕ → (List ℕ → ℤ) → ℕ → ℤ
part_after season week past stock rest f demand =
    sum_after season week (suc past) rest (λ more. f (left stock demand ∷ more)) +ℤ earn season (suc past) week.before week.rung stock demand *ℤ pos (season.base ^ length rest)

-- sizes that the sums don't pass, and that what a demand gives doesn't pass
abbrev pub most_gain : ℕ
most_gain = 20000000000000000

abbrev pub reach_after : Season → ℕ → ℕ
reach_after season past = season.base ^ (length season.stores - past) * (most_entry + (length season.stores - past) * most_gain)

abbrev pub reach_of_part : Season → ℕ → ℕ
reach_of_part season past = reach_after season (past + 1) + season.base ^ (length season.stores - (past + 1)) * most_gain

abbrev pub most_joint_sum : ℕ
most_joint_sum = 2000000000000000000000000000000000000
