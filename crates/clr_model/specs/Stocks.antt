-- Lists of stocks, one stock for each store, in their order.
use Rattle.std.specs.Prelude.{ℕ, suc, ◌+◌, ◌*◌, ◌/◌, ◌%◌, List, [], ◌∷◌, map}
use Rattle.std.specs.List.{flat_map}
use Rattle.clr_num.specs.Lists.{numbers}

-- all lists of stocks, each stock from 0 to the units that its store opens with: the first store's goes slowest
abbrev pub all_stocks : List ℕ → List (List ℕ)
all_stocks [] = [] ∷ []
all_stocks (units ∷ more) = flat_map (λ stock. map (λ rest. stock ∷ rest) (all_stocks more)) (numbers 0 (suc units))

-- the number of them
abbrev pub lists_of : List ℕ → ℕ
lists_of [] = 1
lists_of (units ∷ more) = suc units * lists_of more

-- the list at a place, counted from 0
abbrev pub stocks_at : List ℕ → ℕ → List ℕ
stocks_at [] place = []
stocks_at (units ∷ more) place = place / lists_of more ∷ stocks_at more (place % lists_of more)

-- the place of a list
abbrev pub place_in : List ℕ → List ℕ → ℕ
place_in [] stocks = 0
place_in (units ∷ more) [] = 0
place_in (units ∷ more) (stock ∷ stocks) = stock * lists_of more + place_in more stocks
