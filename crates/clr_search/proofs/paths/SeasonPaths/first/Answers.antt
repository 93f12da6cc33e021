use Rattle.std.proofs.Common.{◌<◌, List, ℕ, length, [], true, ◌≡◌, sym, subst}
use Rattle.clr_rules.specs.declared.season_rules.Summary.{Summary}
use Rattle.clr_rules.specs.Rules.{is_live}
use Rattle.clr_rules.proofs.LiveLaw.{live_pairs_lem}
use Rattle.clr_search.specs.Settings.{Setting}
use Rattle.clr_search.proofs.paths.SeasonPaths.first.Goals as goal

pub first_path-requires-clause-some : goal.first_path-requires-clause-some
first_path-requires-clause-some c =
    let rules = c.self.inside.demands.rules in
    let live : is_live rules [] ≡ true = subst (λ (v : Setting). is_live v.season.rules [] ≡ true) (sym c.self.view_is) c.requires in
    subst (λ (pairs : List (ℕ × Summary)). 0 < length pairs) (sym c.self.invariant.summaries) ((live_pairs_lem rules c.self.invariant.holds.rules).some.1 live)
