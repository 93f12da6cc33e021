use Rattle.std.proofs.Common.{◌≤◌, ◌+◌, ◌*◌, drop, get_or, arith}
use Rattle.clr_model.specs.Stocks.{lists_of}
use Rattle.clr_joint.proofs.Limits.{lists_some}
use Rattle.clr_joint.proofs.Places.{factor_most, lists_on}
use Rattle.clr_joint.proofs.joint.count_lists.Goals as goal

pub overflow_mul-lists : goal.overflow_mul-lists
overflow_mul-lists c =
    let most : c.loop-store.lists * (get_or c.args.units.now c.loop-store.store-index 0 + 1) ≤ lists_of c.args.units.now
    = factor_most (c.loop-store.lists * (get_or c.args.units.now c.loop-store.store-index 0 + 1)) (lists_of (drop (c.loop-store.store-index + 1) c.args.units.now)) (lists_of c.args.units.now) (lists_some (drop (c.loop-store.store-index + 1) c.args.units.now))
    (lists_on c.args.units.now c.loop-store.lists c.loop-store.store-index c.loop-store-test.true c.loop-store.invariant) in
    record { fits = omega (arith, most, c.requires) }

pub loop-store-preserved : goal.loop-store-preserved
loop-store-preserved c = lists_on c.args.units.now c.loop-store.lists c.loop-store.store-index c.loop-store-test.true c.loop-store.invariant
