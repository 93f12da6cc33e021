use Rattle.std.proofs.Common.{◌<◌, arith}
use Rattle.clr_trials_tables.proofs.ReadPlaces.{has_choices}
use Rattle.clr_trials_tables.proofs.reads.choice_at.Goals as goal

pub choice-requires-clause-stocks : goal.choice-requires-clause-stocks
choice-requires-clause-stocks c =
    has_choices c.args.season.now c.args.live.now c.args.joint.now c.args.done c.args.s c.args.stocks.now c.requires.facts c.requires.live c.requires.table (c.has.ensures.0 c.if-has.true) (omega (arith, c.if-done-weeks.true, c.weeks.ensures.value)) (c.are_stocks.ensures c.if-are_stocks.true)
