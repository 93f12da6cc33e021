use Rattle.std.proofs.Common.{ap, sym, subst, ◌<◌, ◌↔◌, length, ℕ, List}
use Rattle.clr_rules.specs.declared.season_rules.Summary.{Summary}
use Rattle.clr_rules.specs.FirstPath.{SomePathObeys}
use Rattle.clr_rules.specs.LiveSummaries.{pairs_from}
use Rattle.clr_rules.proofs.LiveLaw.{live_pairs_lem}
use Rattle.clr_rules.proofs.live_weeks.Live.build.Goals as goal

pub returns-clause-any : goal.returns-clause-any
returns-clause-any c =
    subst (λ (pairs : List (ℕ × Summary)). (0 < length pairs) ↔ SomePathObeys c.args.rules.now) (ap (pairs_from 0) (sym c.in_ok-keep_live.ensures)) (live_pairs_lem c.args.rules.now c.of-grid.ensures.facts).some
