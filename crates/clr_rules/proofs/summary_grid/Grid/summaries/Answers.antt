use Rattle.std.proofs.Common.{arith}
use Rattle.std.specs.List.{flat_map}
use Rattle.clr_num.specs.Lists.{numbers}
use Rattle.clr_rules.proofs.GridLemmas.{grow_age, grow_count, grow_last, by_count}
use Rattle.clr_rules.proofs.summary_grid.Grid.summaries.Goals as goal

pub loop-age-preserved : goal.loop-age-preserved
loop-age-preserved c = grow_age c.loop-age.list.items _ _ c.loop-last.last c.loop-count.count c.loop-age.age c.loop-age.invariant c.in_ok-push.ensures.items

pub loop-count-preserved : goal.loop-count-preserved
loop-count-preserved c =
    grow_count c.loop-age.list.items (flat_map (λ last. by_count c.args.self.counts c.args.self.ages last) (numbers 1 c.loop-last.last)) c.args.self.ages c.loop-last.last c.loop-count.count c.loop-age.age
    c.loop-age.invariant (omega arith)

pub loop-last-preserved : goal.loop-last-preserved
loop-last-preserved c = grow_last c.loop-count.list.items c.args.self.counts c.args.self.ages c.loop-last.last c.loop-count.count c.loop-count.invariant (omega arith)
