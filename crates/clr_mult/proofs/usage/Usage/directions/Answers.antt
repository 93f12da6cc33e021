use Rattle.std.proofs.Common.{subst}
use Rattle.clr_mult.specs.Steps.{IsUsage}
use Rattle.clr_mult.proofs.Directions.{directions_small, directions_vanish}
use Rattle.clr_mult.proofs.usage.Usage.directions.Goals as goal

pub returns-clause-zero : goal.returns-clause-zero
returns-clause-zero c =
    let is : IsUsage c.args.self.now = subst IsUsage c.self.view_is c.self.invariant in
    directions_vanish c.args.self.now is.0.sizes.stores_from

pub returns-clause-size : goal.returns-clause-size
returns-clause-size c =
    let is : IsUsage c.args.self.now = subst IsUsage c.self.view_is c.self.invariant in
    directions_small c.args.self.now is.0.sizes.stores_from is.1
