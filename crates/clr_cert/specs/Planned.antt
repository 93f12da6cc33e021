-- The entries of a plan: what its certificate is written from.
use Rattle.std.specs.Prelude.{◌≡◌, ℕ, ◌≤◌, nat_lt, if◌then◌else◌, ℤ, List, length, Contains, IsTrue}
use Rattle.clr_num.specs.Rounding.{ceil, floor}
use Rattle.clr_rules.specs.Rules.{is_live, rung_at, summary}
use Rattle.clr_season.specs.Season.{IsPlace, Season}
use Rattle.clr_model.specs.Fits.{fits}
use Rattle.clr_model.specs.JointValue.{joint_low_at, joint_rung_at, joint_top_at}
use Rattle.clr_model.specs.PathValue.{path_value_at}
use Rattle.clr_model.specs.StoreValue.{Multipliers, store_value_at}
use Rattle.clr_cert.specs.Entries.{CertEntries, IsCell}
use Rattle.clr_cert.specs.Places.{all_stocks}

-- after a prefix, with the stocks of all stores: the rung that they choose together, 0 where no week is to come, and their value rounded down and up
abbrev pub joint_answer : Season → List ℕ → List ℕ → ℕ × ℤ × ℤ
joint_answer season prefix stocks =
    ((if nat_lt (length prefix) season.rules.weeks then joint_rung_at season prefix stocks else 0), joint_low_at season prefix stocks, joint_top_at season prefix stocks)

-- The rungs of a path, and its values rounded down and up; multipliers; and, at the summary of each live prefix, the stores' values under
-- them, rounded up, and, in a season that fits, the values of all stores together.
pub record AreEntriesOf (season : Season) (path : List ℕ) (m : Multipliers) (entries : CertEntries) : Type 0 where
  pub rungs : (week : ℕ) → 1 ≤ week → week ≤ season.rules.weeks → entries.rung week ≡ rung_at path week
  pub mults : (store week rung : ℕ) → IsPlace season store week rung → entries.mult store week rung ≡ m store week rung
  pub lows : (done store stock : ℕ) → IsCell season done store stock → entries.low done store stock ≡ path_value_at floor season store path done stock
  pub highs : (done store stock : ℕ) → IsCell season done store stock → entries.high done store stock ≡ path_value_at ceil season store path done stock
  pub values :
      (prefix : List ℕ) (store stock : ℕ) → IsTrue (is_live season.rules prefix) → IsCell season (length prefix) store stock →
      entries.value (length prefix) store (summary season.rules prefix) stock ≡ store_value_at ceil m season store prefix stock
  pub joints :
      (prefix stocks : List ℕ) → IsTrue (fits season) → IsTrue (is_live season.rules prefix) → Contains (all_stocks season.stores) stocks →
      entries.joint (length prefix) (summary season.rules prefix) stocks ≡ joint_answer season prefix stocks
