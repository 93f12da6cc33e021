use Rattle.std.proofs.Common.{◌≤◌, length, rules}
use Rattle.clr_trials_season.proofs.Powers.{power-fits}
use Rattle.clr_trials_season.proofs.outcomes.worth.Goals as goal

pub expected_cents-requires-clause-small : goal.expected_cents-requires-clause-small
expected_cents-requires-clause-small c =
    let low : c.args.season.now.base ≤ 12 = search rules in
    let few : length c.args.season.now.stores ≤ 2 = search rules in
    let short : c.args.season.now.rules.weeks ≤ 8 = search rules in
    power-fits c.args.season.now.base (length c.args.season.now.stores) c.args.season.now.rules.weeks low few short
