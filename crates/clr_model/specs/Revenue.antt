-- What the stores earn along a path when these are the demands, in cents.
use Rattle.std.specs.Prelude.{ℕ, zero, suc, ◌+◌, ◌-◌, ◌*◌, ◌==◌, if◌then◌else◌, min, ℤ, pos, ◌+ℤ◌, ◌-ℤ◌, ◌*ℤ◌, List, [], ◌∷◌, length, map, take, get_or, sum}
use Rattle.clr_num.specs.Sums.{sum_of}
use Rattle.clr_rules.specs.Rules.{price}
use Rattle.clr_season.specs.Season.{Season, store_at}

-- the units of value in one cent
unfoldable pub cent : ℕ
cent = 1000000

-- ---- one store in one week

-- what is left of a stock when so much is asked for
abbrev pub left : ℕ → ℕ → ℕ
left stock demand = stock - min stock demand

-- what the store pays, in cents, for the rung that comes after another: its cost where the rung is another one
abbrev pub fee : Season → ℕ → ℕ → ℕ → ℕ
fee season store before rung = if rung == before then 0 else (store_at season store).relabel

-- what the store earns in the week, in cents: the price of each unit sold, less the fee
unfoldable pub week_cents : Season → ℕ → ℕ → ℕ → ℕ → ℕ → ℤ
week_cents season store before rung stock demand = pos (price season.rules rung * min stock demand) -ℤ pos (fee season store before rung)

-- the same in units
abbrev pub earn : Season → ℕ → ℕ → ℕ → ℕ → ℕ → ℤ
earn season store before rung stock demand = pos cent *ℤ week_cents season store before rung stock demand

-- what a stock is worth at the end, in cents
abbrev pub salvage_cents : Season → ℕ → ℕ → ℤ
salvage_cents season store stock = pos ((store_at season store).salvage * stock)

-- ---- all stores

abbrev pub sum_stores : Season → (ℕ → ℤ) → ℤ
sum_stores season f = sum_of (length season.stores) (λ i. f (suc i))

-- the number at a store's place in a list with one number a store
abbrev pub of_store : List ℕ → ℕ → ℕ
of_store xs zero = 0
of_store xs (suc i) = get_or xs i 0

-- the opening stocks
abbrev pub full_stocks : Season → List ℕ
full_stocks season = map (λ store. store.units) season.stores

-- what a week's demands leave of the stocks
abbrev pub stocks_left : List ℕ → List ℕ → List ℕ
stocks_left [] week = []
stocks_left (stock ∷ stocks) [] = stock ∷ stocks
stocks_left (stock ∷ stocks) (demand ∷ week) = left stock demand ∷ stocks_left stocks week

-- ---- the revenue of a path

-- the number of markdown weeks of a path's weeks after a rung
abbrev pub markdowns_after : ℕ → List ℕ → ℕ
markdowns_after before [] = 0
markdowns_after before (rung ∷ path) = (if rung == before then 0 else 1) + markdowns_after rung path

-- the units sold of a stock in the first weeks: what is asked for in them together, and at most the stock
abbrev pub sold : ℕ → List ℕ → ℕ → ℕ
sold stock asked weeks = min stock (sum (take weeks asked))

-- What a store earns along a path when this is asked for in its weeks, by the rung before the path and the stock: the price of
-- each unit sold, by the week in which it is sold, and the salvage of each that is left, less the cost of each markdown week.
abbrev pub store_revenue : Season → ℕ → ℕ → ℕ → List ℕ → List ℕ → ℤ
store_revenue season store before stock path asked =
    sum_of (length path) (λ i. pos (price season.rules (get_or path i 0) * (sold stock asked (suc i) - sold stock asked i)))
    +ℤ salvage_cents season store (stock - sold stock asked (length path))
    -ℤ pos ((store_at season store).relabel * markdowns_after before path)

-- all stores together
abbrev pub revenue : Season → ℕ → List ℕ → List ℕ → List (List ℕ) → ℤ
revenue season before stocks path outcome =
    sum_stores season (λ store. store_revenue season store before (of_store stocks store) path (map (λ week. of_store week store) outcome))
