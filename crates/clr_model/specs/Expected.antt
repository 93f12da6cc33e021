-- What a policy earns in expectation, as a whole number over a common denominator. Demands are independent over stores and weeks.
use Rattle.std.specs.Prelude.{ℕ, suc, ◌*◌, ◌^◌, ℤ, pos, ◌*ℤ◌, ◌≤ℤ◌, List, [], ◌∷◌, length}
use Rattle.clr_num.specs.Sums.{sum_over, product_of}
use Rattle.clr_season.specs.Season.{Season, weight}
use Rattle.clr_model.specs.Policies.{Tree, branch, outcomes, Abides}
use Rattle.clr_model.specs.Revenue.{cent, of_store, full_stocks, revenue}

-- ---- chance

abbrev pub product_stores : Season → (ℕ → ℤ) → ℤ
product_stores season f = product_of (length season.stores) (λ i. f (suc i))

-- the chance of one week's demands on a rung: the product of the stores' weights, out of the base to the number of stores
abbrev pub week_chance : Season → ℕ → ℕ → List ℕ → ℤ
week_chance season week rung asked = product_stores season (λ store. pos (weight season store week rung (of_store asked store)))

-- The chance of an outcome along a path whose first week comes after so many: the product over its weeks.
abbrev pub chance : Season → ℕ → List ℕ → List (List ℕ) → ℤ
chance season done [] outcome = pos 1
chance season done (rung ∷ path) [] = pos 1
chance season done (rung ∷ path) (week ∷ outcome) = week_chance season (suc done) rung week *ℤ chance season (suc done) path outcome

-- the denominator of so many weeks
abbrev pub den : Season → ℕ → ℤ
den season weeks = pos (season.base ^ (length season.stores * weeks))

-- ---- expected revenue

-- The expected revenue of a policy over the last `weeks` weeks, in cents and times their denominator: from a start with so many
-- weeks done, the rung before and the stocks. It is the sum over all outcomes of chance times revenue, along the outcome's branch.
unfoldable pub earned : Season → ℕ → ℕ → ℕ → List ℕ → Tree → ℤ
earned season done weeks before stocks tree =
    sum_over (outcomes season weeks) (λ outcome. chance season done (branch tree outcome) outcome *ℤ revenue season before stocks (branch tree outcome) outcome)

-- of a whole season: no week is done, rung 1 stands before, and the stocks are full
abbrev pub season_earned : Season → Tree → ℤ
season_earned season tree = earned season 0 season.rules.weeks 1 (full_stocks season) tree

-- the expected revenue of a policy lies between two numbers, in units
pub record Encloses (season : Season) (low high : ℤ) (tree : Tree) : Type 0 where
  pub least : (low *ℤ den season season.rules.weeks) ≤ℤ (pos cent *ℤ season_earned season tree)
  pub most : (pos cent *ℤ season_earned season tree) ≤ℤ (high *ℤ den season season.rules.weeks)

-- no rule-abiding policy earns more than this number, in units
abbrev pub Tops : Season → ℤ → Type 0
Tops season top = (tree : Tree) → Abides season tree → (pos cent *ℤ season_earned season tree) ≤ℤ (top *ℤ den season season.rules.weeks)
