use Rattle.std.proofs.Common.{◌+◌, ap}
use Rattle.clr_policy.proofs.Tests.{chosen_is}
use Rattle.clr_policy.proofs.values.choose.Goals as goal

pub returns-clause-each : goal.returns-clause-each
returns-clause-each c stocks held =
    chosen_is c.args.season.now c.args.store c.args.limit c.width_of-width.result (c.stock.result + 1) c.args.below.now c.args.above.now c.take_above.new.below stocks c.requires.low c.requires.high c.width_of-width.ensures.value
    (ap (λ n. n + 1) c.stock.ensures.value) c.requires.size c.take_above.ensures held
