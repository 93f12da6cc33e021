use Rattle.clr_trials_tables.proofs.ReadPlaces.{has_values}
use Rattle.clr_trials_tables.proofs.reads.values_at.Goals as goal

pub at-requires-clause-stocks : goal.at-requires-clause-stocks
at-requires-clause-stocks c =
    has_values c.args.season.now c.args.live.now c.args.joint.now c.args.done c.args.s c.args.stocks.now c.requires.facts c.requires.live c.requires.table (c.has.ensures.0 c.if-has.true) (c.are_stocks.ensures c.if-are_stocks.true)
