use Rattle.std.proofs.Common.{[], arith}
use Rattle.clr_rules.proofs.Pairs.{week_read}
use Rattle.clr_rules.proofs.live_weeks.Live.week.Goals as goal

pub returns : goal.returns
returns c = week_read c.args.self.now c.self.inside.weeks.items c.deref.result.now c.args.done c.get.result c.self.view_is c.deref.ensures.value (c.get.ensures.lookup.4 (omega arith) [])
