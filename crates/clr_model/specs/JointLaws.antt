-- The laws of the values of all stores together: each stands on the contract of a public function.
use Rattle.std.specs.Prelude.{◌≡◌, ℕ, ◌+◌, ◌-◌, ◌<◌, ℤ, pos, ◌+ℤ◌, ◌*ℤ◌, ◌≤ℤ◌, List, [], length, IsTrue}
use Rattle.clr_rules.specs.Rules.{is_live, summary}
use Rattle.clr_season.specs.Season.{Season, IsSeason}
use Rattle.clr_model.specs.Policies.{Tree, AbidesFrom, Abides}
use Rattle.clr_model.specs.Revenue.{cent}
use Rattle.clr_model.specs.Expected.{den, earned, Encloses, Tops}
use Rattle.clr_model.specs.StoreValue.{AreStocks, last_rung}
use Rattle.clr_model.specs.JointValue.{joint_value_at, joint_rung_at, joint_low_at, joint_top_at, joint_low, joint_top, choice_tree, joint_table, IsJointCover, IsJointFloor}

-- ---- by summary

-- stocks have one value after both prefixes, and one choice where a week is to come
pub record SameJointValue (div : ℤ → ℕ → ℤ) (season : Season) (prefix other stocks : List ℕ) : Type 0 where
  pub value : joint_value_at div season prefix stocks ≡ joint_value_at div season other stocks
  pub rung : length prefix < season.rules.weeks → joint_rung_at season prefix stocks ≡ joint_rung_at season other stocks

-- The value and the choice after a live prefix depend on its length and summary alone, whichever way is rounded.
abbrev pub JointValueBySummary : Type 0
JointValueBySummary =
    (div : ℤ → ℕ → ℤ) (season : Season) (prefix other stocks : List ℕ) → length prefix ≡ length other →
    IsTrue (is_live season.rules prefix) → IsTrue (is_live season.rules other) → summary season.rules prefix ≡ summary season.rules other →
    SameJointValue div season prefix other stocks

-- ---- any numbers and choices

-- For any numbers that cover, no policy that abides after a prefix earns more from there than the number, whatever the stocks.
abbrev pub JointCoversTop : Type 0
JointCoversTop =
    (season : Season) (v : List ℕ → List ℕ → ℤ) → IsSeason season → IsJointCover season v →
    (prefix : List ℕ) (weeks : ℕ) (stocks : List ℕ) (tree : Tree) → length prefix + weeks ≡ season.rules.weeks → AreStocks season stocks → AbidesFrom season prefix weeks tree →
    (pos cent *ℤ earned season (length prefix) weeks (last_rung prefix) stocks tree) ≤ℤ (v prefix stocks *ℤ den season weeks)

-- the policy of choices abides after a prefix, and earns at least the number from there
pub record FloorReached (season : Season) (choose : List ℕ → List ℕ → ℕ) (v : List ℕ → List ℕ → ℤ) (prefix : List ℕ) (weeks : ℕ) (stocks : List ℕ) : Type 0 where
  pub abides : AbidesFrom season prefix weeks (choice_tree choose weeks prefix stocks)
  pub least : (v prefix stocks *ℤ den season weeks) ≤ℤ (pos cent *ℤ earned season (length prefix) weeks (last_rung prefix) stocks (choice_tree choose weeks prefix stocks))

-- For any choices that keep each live prefix live, and any numbers that they reach, their policy does so after each live prefix.
abbrev pub JointFloorReached : Type 0
JointFloorReached =
    (season : Season) (choose : List ℕ → List ℕ → ℕ) (v : List ℕ → List ℕ → ℤ) → IsSeason season → IsJointFloor season choose v →
    (prefix : List ℕ) (weeks : ℕ) (stocks : List ℕ) → length prefix + weeks ≡ season.rules.weeks → AreStocks season stocks → IsTrue (is_live season.rules prefix) →
    FloorReached season choose v prefix weeks stocks

-- ---- the values of all stores together

-- no policy that abides earns more over a season than the value rounded up
abbrev pub JointTops : Type 0
JointTops = (season : Season) → IsSeason season → Tops season (joint_top season)

-- the table policy abides, and what it earns lies between the two values
pub record TableEnclosed (season : Season) : Type 0 where
  pub abides : Abides season (joint_table season)
  pub encloses : Encloses season (joint_low season) (joint_top season) (joint_table season)

-- so it is where some path obeys
abbrev pub JointTableEnclosed : Type 0
JointTableEnclosed = (season : Season) → IsSeason season → IsTrue (is_live season.rules []) → TableEnclosed season

-- After a live prefix the two values lie at most a unit apart for each week to come. So the table policy is so close to the best one.
abbrev pub JointValuesClose : Type 0
JointValuesClose =
    (season : Season) (prefix stocks : List ℕ) → IsSeason season → IsTrue (is_live season.rules prefix) →
    joint_top_at season prefix stocks ≤ℤ (joint_low_at season prefix stocks +ℤ pos (season.rules.weeks - length prefix))
