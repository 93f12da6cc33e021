use Rattle.std.proofs.Common.{suc, ◌-◌, pos, ◌≤◌, min, length, ◌+◌, get_or, arith, rules, SFits}
use Rattle.std.proofs.lemmas.Int.{to_z-of_z}
use mir.Syntax.{w64}
use Rattle.clr_average.proofs.Lists.{near_step, near_within}
use Rattle.clr_average.proofs.row.plus_near.Goals as goal

pub plus-total-requires-clause-sum : goal.plus-total-requires-clause-sum
plus-total-requires-clause-sum g c =
    let fits : SFits w64 (get_or c.args.after.now (c.args.stock - c.loop-demand.demand) (pos 0)) = search rules in
    let count : suc c.loop-demand.demand ≤ min (length c.args.weights.now) (c.args.stock + 1) = omega (arith, c.loop-demand-test.true, c.min-count.ensures) in
    near_within g.A.Total.limit (g.A.Total.amount c.args.start) (g.A.Total.amount c.loop-demand.total) _ c.args.weights.now c.args.after.now c.args.stock c.loop-demand.demand
    c.loop-demand.invariant (to_z-of_z w64 (get_or c.args.after.now (c.args.stock - c.loop-demand.demand) (pos 0)) fits) (c.requires.sums (suc c.loop-demand.demand) count)

pub loop-demand-preserved : goal.loop-demand-preserved
loop-demand-preserved g c =
    let fits : SFits w64 (get_or c.args.after.now (c.args.stock - c.loop-demand.demand) (pos 0)) = search rules in
    near_step (g.A.Total.amount c.args.start) (g.A.Total.amount c.loop-demand.total) (g.A.Total.amount c.plus-total.result) _ c.args.weights.now c.args.after.now c.args.stock c.loop-demand.demand
    c.loop-demand.invariant (to_z-of_z w64 (get_or c.args.after.now (c.args.stock - c.loop-demand.demand) (pos 0)) fits) c.plus-total.ensures
