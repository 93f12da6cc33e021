-- The live summaries after so many weeks, and a prefix that has one.
use Rattle.std.specs.Prelude.{◌≡◌, ℕ, ◌≤◌, ◌&&◌, List, [], length, slice_get, Some, unwrap_or}
use Rattle.std.specs.List.{find}
use Rattle.clr_num.specs.Lists.{all_lists}
use Rattle.clr_rules.specs.declared.season_rules.Summary.{Summary}
use Rattle.clr_rules.specs.LiveSummaries.{at_week, live_pairs, same_summary}
use Rattle.clr_rules.specs.Rules.{Rulebook, is_live, rungs, summary}

-- the live summaries after so many weeks, in their order
abbrev pub live_week : Rulebook → ℕ → List Summary
live_week rules done = at_week done (live_pairs rules)

-- the first live prefix of so many weeks, in the order of lists, that has a summary
abbrev pub summary_prefix : Rulebook → ℕ → Summary → List ℕ
summary_prefix rules done s = unwrap_or (find (λ prefix. is_live rules prefix && same_summary s (summary rules prefix)) (all_lists (rungs rules) done)) []

-- each summary's last rung stands on the ladder
abbrev pub AreOnLadder : Rulebook → List Summary → Type 0
AreOnLadder rules list = (place : ℕ) (s : Summary) → slice_get list place ≡ Some s → (1 ≤ s.last) × (s.last ≤ length rules.prices)
