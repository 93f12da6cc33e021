use Rattle.std.proofs.Common.{ℕ, ◌<◌, List, length, subst}
use Rattle.clr_rules.specs.declared.season_rules.Summary.{Summary}
use Rattle.clr_rules.proofs.LiveLaw.{live_pairs_lem}
use Rattle.clr_trials_tables.proofs.reads.table.Goals as goal

pub build-requires-clause-any : goal.build-requires-clause-any
build-requires-clause-any c = (live_pairs_lem c.args.season.now.rules c.requires.facts.rules).some.0 (subst (λ (pairs : List (ℕ × Summary)). 0 < length pairs) c.requires.live (c.any.ensures.0 c.if-any.true))
