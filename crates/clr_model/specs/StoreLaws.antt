-- The laws of policies node by node, of a store's values, and of the bound: each stands on the contract of a public function.
use Rattle.std.specs.Prelude.{◌≡◌, ℕ, ◌+◌, ◌<◌, ℤ, pos, ◌*ℤ◌, ◌≤ℤ◌, List, ◌++◌, [], ◌∷◌, length, IsTrue, ⊤}
use Rattle.std.specs.List.{AllByRecursion}
use Rattle.clr_rules.specs.Rules.{is_live, summary}
use Rattle.clr_season.specs.Season.{Season, IsSeason}
use Rattle.clr_model.specs.Policies.{Tree, stop, node, joint_demands, AbidesFrom}
use Rattle.clr_model.specs.Revenue.{cent, sum_stores, of_store}
use Rattle.clr_model.specs.Expected.{den, earned, Tops}
use Rattle.clr_model.specs.StoreValue.{Multipliers, SumToZero, IsCover, AreStocks, bound, last_rung, store_value_at, store_choice_at}

-- after this prefix, each node of a tree that some demands lead to has a live prefix, its own rung included
abbrev pub NodesLive : Season → List ℕ → Tree → Type 0
NodesLive season prefix stop = ⊤
NodesLive season prefix (node rung kids) =
    IsTrue (is_live season.rules (prefix ++ rung ∷ [])) × AllByRecursion (λ week. NodesLive season (prefix ++ rung ∷ []) (kids week)) (joint_demands season)

-- the nodes of a tree that abides are so, from the start and after any prefix
abbrev pub AbidingNodesLive : Type 0
AbidingNodesLive = (season : Season) (prefix : List ℕ) (weeks : ℕ) (tree : Tree) → AbidesFrom season prefix weeks tree → NodesLive season prefix tree

-- a store has one value after both prefixes, and one choice where a week is to come
pub record SameValue (div : ℤ → ℕ → ℤ) (m : Multipliers) (season : Season) (store : ℕ) (prefix other : List ℕ) (stock : ℕ) : Type 0 where
  pub value : store_value_at div m season store prefix stock ≡ store_value_at div m season store other stock
  pub choice : length prefix < season.rules.weeks → store_choice_at div m season store prefix stock ≡ store_choice_at div m season store other stock

-- A store's value and choice after a live prefix depend on its length and summary alone, whichever way is rounded.
abbrev pub ValueBySummary : Type 0
ValueBySummary =
    (div : ℤ → ℕ → ℤ) (m : Multipliers) (season : Season) (store : ℕ) (prefix other : List ℕ) (stock : ℕ) → length prefix ≡ length other →
    IsTrue (is_live season.rules prefix) → IsTrue (is_live season.rules other) → summary season.rules prefix ≡ summary season.rules other →
    SameValue div m season store prefix other stock

-- For any numbers that cover, under multipliers that sum to zero over the stores, no policy that abides after a prefix earns more from
-- there than the sum of the numbers, whatever the stocks.
abbrev pub CoversTop : Type 0
CoversTop =
    (season : Season) (m : Multipliers) (v : ℕ → List ℕ → ℕ → ℤ) → IsSeason season → SumToZero season m → IsCover season m v →
    (prefix : List ℕ) (weeks : ℕ) (stocks : List ℕ) (tree : Tree) → length prefix + weeks ≡ season.rules.weeks → AreStocks season stocks → AbidesFrom season prefix weeks tree →
    (pos cent *ℤ earned season (length prefix) weeks (last_rung prefix) stocks tree) ≤ℤ (sum_stores season (λ store. v store prefix (of_store stocks store)) *ℤ den season weeks)

-- so no policy earns more over a season than the bound that such multipliers give
abbrev pub BoundTops : Type 0
BoundTops = (season : Season) (m : Multipliers) → IsSeason season → SumToZero season m → Tops season (bound m season)
