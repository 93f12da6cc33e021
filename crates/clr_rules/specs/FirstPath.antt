-- Whether some path obeys, and which obeying path is the first in the order of lists.
use Rattle.std.specs.Prelude.{◌≡◌, ◌↔◌, ◌⊎◌, IsTrue, ℕ, ◌<◌, ◌≤◌, false, List, [], length}
use Rattle.clr_rules.specs.declared.season_rules.Summary.{Summary}
use Rattle.clr_rules.specs.LiveSummaries.{leads_at}
use Rattle.clr_rules.specs.Rules.{Rulebook, is_live, next_summary, obeys, rung_at}

-- ---- whether some path obeys

-- some list among all lists of rungs of a season's length obeys
abbrev pub SomePathObeys : Rulebook → Type 0
SomePathObeys rules = IsTrue (is_live rules [])

-- no list of rungs obeys
abbrev pub NoPathObeys : Rulebook → Type 0
NoPathObeys rules = (path : List ℕ) → IsTrue (obeys rules path) → ⊥

-- it is true exactly where there is an obeying path, and false exactly where no list of rungs obeys
pub record IsWhetherSomeObeys (rules : Rulebook) : Type 0 where
  pub some : SomePathObeys rules ↔ ((path : List ℕ) × IsTrue (obeys rules path))
  pub none : (is_live rules [] ≡ false) ↔ NoPathObeys rules

abbrev pub SomeOrNoneObeys : Type 0
SomeOrNoneObeys = (rules : Rulebook) → IsWhetherSomeObeys rules

-- ---- the first obeying path

-- of two lists of one length the first comes before the other: in the first week in which they differ it has the lesser rung
pub record ComesBefore (path other : List ℕ) : Type 0 where
  pub week : ℕ
  pub first : 1 ≤ week
  pub last : week ≤ length path
  pub same : (earlier : ℕ) → 1 ≤ earlier → earlier < week → rung_at path earlier ≡ rung_at other earlier
  pub less : rung_at path week < rung_at other week

-- a path that obeys, and comes before each other list of rungs that obeys
pub record IsFirstObeying (rules : Rulebook) (path : List ℕ) : Type 0 where
  pub obeying : IsTrue (obeys rules path)
  pub first : (other : List ℕ) → IsTrue (obeys rules other) → (other ≡ path) ⊎ ComesBefore path other

-- there is but one
abbrev pub OneFirstObeying : Type 0
OneFirstObeying = (rules : Rulebook) (path other : List ℕ) → IsFirstObeying rules path → IsFirstObeying rules other → path ≡ other

-- ---- one week of it

-- the least rung that leads from a summary to a live one, and where it leads
pub record IsLeastLead (rules : Rulebook) (done : ℕ) (s : Summary) (rung : ℕ) (next : Summary) : Type 0 where
  pub low : 1 ≤ rung
  pub high : rung ≤ length rules.prices
  pub leads : IsTrue (leads_at rules done s rung)
  pub next_is : next ≡ next_summary rules s rung
  pub least : (lesser : ℕ) → 1 ≤ lesser → lesser < rung → leads_at rules done s lesser ≡ false
