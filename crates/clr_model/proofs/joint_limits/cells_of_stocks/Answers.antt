use Rattle.std.proofs.Common.{◌+◌, ◌≤◌, rules}
use Rattle.clr_model.proofs.FitsBounds.{cells_most}
use Rattle.clr_model.proofs.joint_limits.cells_of_stocks.Goals as goal

pub returns-clause-range : goal.returns-clause-range
returns-clause-range c =
    let weeks : c.from-weeks.result + 1 ≤ 53 = search rules in
    let rungs : c.from-rungs.result ≤ 12 = search rules in
    let counts : c.min-counts.result + 1 ≤ 13 = search rules in
    let spacing : c.from-2.result ≤ 12 = search rules in
    cells_most (c.from-weeks.result + 1) c.from-rungs.result (c.min-counts.result + 1) c.from-2.result weeks rungs counts spacing
