-- The summaries of live prefixes, as lists in their order.
use Rattle.std.specs.Prelude.{◌≡◌, ℕ, suc, ◌+◌, ◌-◌, ◌*◌, ◌<◌, ◌≤◌, ◌↔◌, IsTrue, Bool, ◌&&◌, ◌==◌, List, [], ◌∷◌, ◌++◌, length, map, get_or, slice_get, Option, Some, None, if◌then◌else◌}
use Rattle.std.specs.List.{list_any, filter, flat_map}
use Rattle.clr_rules.specs.declared.season_rules.Summary.{Summary}
use Rattle.clr_num.specs.Lists.{numbers, all_lists}
use Rattle.clr_rules.specs.Rules.{Rulebook, rungs, keeps_rules, is_live, summary, most_markdowns, IsRulebook, IsLiveSummary, may_follow, next_summary}

-- ---- all summaries in range

-- all triples: `last` from 1, `count` from 0, `age` from 1, so many of each
abbrev pub all_summaries : ℕ → ℕ → ℕ → List Summary
all_summaries rungs counts ages =
    flat_map (λ last. flat_map (λ count. map (λ age. record { last = last; count = count; age = age }) (numbers 1 ages)) (numbers 0 counts)) (numbers 1 rungs)

-- where a summary stands among them
abbrev pub place_in : ℕ → ℕ → Summary → ℕ
place_in counts ages s = ((s.last - 1) * counts + s.count) * ages + (s.age - 1)

-- a summary that is among them
pub record IsHeld (rungs counts ages : ℕ) (s : Summary) : Type 0 where
  pub low : 1 ≤ s.last
  pub high : s.last ≤ rungs
  pub count : s.count < counts
  pub young : 1 ≤ s.age
  pub old : s.age ≤ ages

-- all summaries of a season, in their order
abbrev pub summaries : Rulebook → List Summary
summaries rules = all_summaries (length rules.prices) (suc (most_markdowns rules)) rules.spacing

-- the grid of a season
pub record IsGridOf (rules : Rulebook) (rungs counts ages : ℕ) : Type 0 where
  pub rungs_are : rungs ≡ length rules.prices
  pub counts_are : counts ≡ suc (most_markdowns rules)
  pub ages_are : ages ≡ rules.spacing

-- ---- the live ones

abbrev pub same_summary : Summary → Summary → Bool
same_summary s t = (s.last == t.last) && ((s.count == t.count) && (s.age == t.age))

-- whether it is the summary of a live prefix of this length
abbrev pub is_live_summary : Rulebook → ℕ → Summary → Bool
is_live_summary rules done s = list_any (λ prefix. is_live rules prefix && same_summary s (summary rules prefix)) (all_lists (rungs rules) done)

abbrev pub live_summaries : Rulebook → ℕ → List Summary
live_summaries rules done = filter (is_live_summary rules done) (summaries rules)

-- whether it is the summary of a prefix of this length that keeps the rules
abbrev pub is_reached : Rulebook → ℕ → Summary → Bool
is_reached rules done s = list_any (λ prefix. keeps_rules rules prefix && same_summary s (summary rules prefix)) (all_lists (rungs rules) done)

abbrev pub reached_summaries : Rulebook → ℕ → List Summary
reached_summaries rules done = filter (is_reached rules done) (summaries rules)

-- ---- pairs of a length and a summary

-- the pairs of a list that has the summaries of each length, from this length on
abbrev pub pairs_from : ℕ → List (List Summary) → List (ℕ × Summary)
pairs_from done [] = []
pairs_from done (week ∷ weeks) = map (λ s. (done, s)) week ++ pairs_from (suc done) weeks

-- the pairs of length and live summary of a season, in their order
abbrev pub live_pairs : Rulebook → List (ℕ × Summary)
live_pairs rules = pairs_from 0 (map (live_summaries rules) (numbers 0 (suc rules.weeks)))

-- the summaries at one length
abbrev pub at_week : ℕ → List (ℕ × Summary) → List Summary
at_week done pairs = map (λ p. p.1) (filter (λ p. p.0 == done) pairs)

-- a summary stands in a list
abbrev pub IsIn : List Summary → Summary → Type 0
IsIn list s = (k : ℕ) × (slice_get list k ≡ Some s)

-- a summary stands among the pairs at this length
abbrev pub IsAmong : List (ℕ × Summary) → ℕ → Summary → Type 0
IsAmong pairs done s = IsIn (at_week done pairs) s

-- ---- what the sweeps make

-- the items whose flag is set
abbrev pub picked : List Bool → List Summary → List Summary
picked [] list = []
picked (flag ∷ flags) [] = []
picked (flag ∷ flags) (s ∷ list) = if flag then (s ∷ picked flags list) else picked flags list

-- a rung leads from one summary to another
abbrev pub leads_to : Rulebook → ℕ → Summary → Summary → Bool
leads_to rules done s t = may_follow rules done s t.last && same_summary t (next_summary rules s t.last)

-- this rung leads to a live summary
abbrev pub leads_at : Rulebook → ℕ → Summary → ℕ → Bool
leads_at rules done s rung = may_follow rules done s rung && is_live_summary rules (suc done) (next_summary rules s rung)

-- some rung does
abbrev pub leads_on : Rulebook → ℕ → Summary → Bool
leads_on rules done s = list_any (leads_at rules done s) (rungs rules)

-- the summaries of one length, and the place of each among them by its place among all
pub record IsIndexed (rungs counts ages : ℕ) (week : List Summary) (places : List (Option ℕ)) : Type 0 where
  pub size : length places ≡ (rungs * counts) * ages
  pub few : length week ≤ (rungs * counts) * ages
  pub found : (s : Summary) (k : ℕ) → IsHeld rungs counts ages s → get_or places (place_in counts ages s) None ≡ Some k → slice_get week k ≡ Some s
  pub listed : (s : Summary) (k : ℕ) → slice_get week k ≡ Some s → IsHeld rungs counts ages s × (get_or places (place_in counts ages s) None ≡ Some k)

-- ---- the laws

-- the pairs are those of the summaries of live prefixes, and there are some exactly where some path obeys
pub record AreLivePairs (rules : Rulebook) : Type 0 where
  pub pairs : (done : ℕ) (s : Summary) → IsIn (at_week done (live_pairs rules)) s ↔ ((done ≤ rules.weeks) × IsLiveSummary rules done s)
  pub some : (0 < length (live_pairs rules)) ↔ IsTrue (is_live rules [])

abbrev pub LivePairsAreLive : Type 0
LivePairsAreLive = (rules : Rulebook) → IsRulebook rules → AreLivePairs rules
