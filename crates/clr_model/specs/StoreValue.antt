-- What one store can earn at most from a prefix on, where each store may choose its own rungs and is paid a multiplier for each, in units.
use Rattle.std.specs.Prelude.{◌≡◌, ℕ, zero, suc, ◌≤◌, ◌-◌, ℤ, pos, ◌+ℤ◌, ◌-ℤ◌, ◌*ℤ◌, ◌≤ℤ◌, List, [], ◌∷◌, ◌++◌, length, IsTrue}
use Rattle.clr_num.specs.Rounding.{ceil}
use Rattle.clr_num.specs.Sums.{first_best}
use Rattle.clr_rules.specs.Rules.{live_rungs, rung_at, is_live}
use Rattle.clr_season.specs.Season.{Season}
use Rattle.clr_model.specs.Revenue.{cent, salvage_cents, sum_stores, of_store, full_stocks}
use Rattle.clr_model.specs.PathValue.{weighed, IsStock}

-- ---- multipliers

-- the multiplier of a store, a week and a rung
abbrev pub Multipliers : Type 0
Multipliers = ℕ → ℕ → ℕ → ℤ

-- over the stores they sum to zero, for each week and rung of the season
abbrev pub SumToZero : Season → Multipliers → Type 0
SumToZero season m = (week rung : ℕ) → 1 ≤ week → week ≤ season.rules.weeks → 1 ≤ rung → rung ≤ length season.rules.prices → sum_stores season (λ store. m store week rung) ≡ pos 0

-- ---- the value of a store, and its choice

-- the last rung of a prefix, and 1 where it is empty
abbrev pub last_rung : List ℕ → ℕ
last_rung prefix = rung_at prefix (length prefix)

-- what a rung gives after a prefix, where `value` is what a stock is worth after it: the rounded average over the demands of what
-- the store earns and of the value after it, and the multiplier
abbrev pub rung_value : (ℤ → ℕ → ℤ) → Multipliers → Season → ℕ → List ℕ → ℕ → ℕ → (ℕ → ℤ) → ℤ
rung_value div m season store prefix rung stock value =
    div (weighed season store (length prefix) (last_rung prefix) rung stock value) season.base +ℤ m store (suc (length prefix)) rung

-- The value of a stock after a live prefix, with so many weeks to go: at the end what it is worth then, and before it the greatest
-- that a rung gives after which the prefix is live, each average rounded by `div`.
abbrev pub store_value : (ℤ → ℕ → ℤ) → Multipliers → Season → ℕ → ℕ → List ℕ → ℕ → ℤ
store_value div m season store zero prefix stock = pos cent *ℤ salvage_cents season store stock
store_value div m season store (suc weeks) prefix stock =
    let value_of : ℕ → ℤ = λ rung. rung_value div m season store prefix rung stock (λ rest. store_value div m season store weeks (prefix ++ rung ∷ []) rest) in
    value_of (first_best value_of 1 (live_rungs season.rules prefix))

-- the least rung that attains it, with so many weeks to go after the next
abbrev pub store_rung : (ℤ → ℕ → ℤ) → Multipliers → Season → ℕ → ℕ → List ℕ → ℕ → ℕ
store_rung div m season store weeks prefix stock =
    first_best (λ rung. rung_value div m season store prefix rung stock (λ rest. store_value div m season store weeks (prefix ++ rung ∷ []) rest)) 1 (live_rungs season.rules prefix)

-- the value, and the choice, after a live prefix
abbrev pub store_value_at : (ℤ → ℕ → ℤ) → Multipliers → Season → ℕ → List ℕ → ℕ → ℤ
store_value_at div m season store prefix stock = store_value div m season store (season.rules.weeks - length prefix) prefix stock

abbrev pub store_choice_at : (ℤ → ℕ → ℤ) → Multipliers → Season → ℕ → List ℕ → ℕ → ℕ
store_choice_at div m season store prefix stock = store_rung div m season store (season.rules.weeks - suc (length prefix)) prefix stock

-- The bound that the multipliers give: over the stores, the sum of the values, rounded up, before the first week at full stocks.
abbrev pub bound : Multipliers → Season → ℤ
bound m season = sum_stores season (λ store. store_value_at ceil m season store [] (of_store (full_stocks season) store))

-- ---- numbers that cover

-- one stock for each store, no more than it opened with
pub record AreStocks (season : Season) (stocks : List ℕ) : Type 0 where
  pub count : length stocks ≡ length season.stores
  pub held : (store : ℕ) → of_store stocks store ≤ of_store (full_stocks season) store

-- Numbers for each store, live prefix and stock: less the multiplier, and times the base, they are at least the sum over the
-- demands for each rung that keeps the prefix live, and at the end at least what the stock is worth. Nothing is rounded.
pub record IsCover (season : Season) (m : Multipliers) (v : ℕ → List ℕ → ℕ → ℤ) : Type 0 where
  pub week :
      (store : ℕ) (prefix : List ℕ) (rung stock : ℕ) → IsStock season store stock → IsTrue (is_live season.rules (prefix ++ rung ∷ [])) →
      weighed season store (length prefix) (last_rung prefix) rung stock (v store (prefix ++ rung ∷ [])) ≤ℤ ((v store prefix stock -ℤ m store (suc (length prefix)) rung) *ℤ pos season.base)
  pub end :
      (store : ℕ) (prefix : List ℕ) (stock : ℕ) → IsStock season store stock → IsTrue (is_live season.rules prefix) → length prefix ≡ season.rules.weeks →
      (pos cent *ℤ salvage_cents season store stock) ≤ℤ v store prefix stock
