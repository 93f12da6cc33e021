use Rattle.std.proofs.Common.{◌≤◌, ◌+◌, ◌*◌, drop, get_or, arith}
use Rattle.clr_model.specs.Stocks.{lists_of, place_in}
use Rattle.clr_joint.proofs.Limits.{lists_some}
use Rattle.clr_joint.proofs.Places.{place_most, place_on}
use Rattle.clr_joint.proofs.joint.place_of_stocks.Goals as goal

pub overflow_mul-place : goal.overflow_mul-place
overflow_mul-place c =
    let next = place_on c.args.units.now c.args.stocks.now c.loop-index.place c.loop-index.index c.loop-index-test.true (omega (arith, c.loop-index-test.true, c.requires.same)) c.loop-index.invariant in
    let most : c.loop-index.place * (get_or c.args.units.now c.loop-index.index 0 + 1) + get_or c.args.stocks.now c.loop-index.index 0 ≤ place_in c.args.units.now c.args.stocks.now
    = place_most (c.loop-index.place * (get_or c.args.units.now c.loop-index.index 0 + 1) + get_or c.args.stocks.now c.loop-index.index 0) (lists_of (drop (c.loop-index.index + 1) c.args.units.now)) (place_in (drop (c.loop-index.index + 1) c.args.units.now) (drop (c.loop-index.index + 1) c.args.stocks.now)) (place_in c.args.units.now c.args.stocks.now) (lists_some (drop (c.loop-index.index + 1) c.args.units.now)) next in
    record { fits = omega (arith, most, c.requires.inside) }

pub overflow_add-place-in-loop-index : goal.overflow_add-place-in-loop-index
overflow_add-place-in-loop-index c =
    let next = place_on c.args.units.now c.args.stocks.now c.loop-index.place c.loop-index.index c.loop-index-test.true (omega (arith, c.loop-index-test.true, c.requires.same)) c.loop-index.invariant in
    let most : c.loop-index.place * (get_or c.args.units.now c.loop-index.index 0 + 1) + get_or c.args.stocks.now c.loop-index.index 0 ≤ place_in c.args.units.now c.args.stocks.now
    = place_most (c.loop-index.place * (get_or c.args.units.now c.loop-index.index 0 + 1) + get_or c.args.stocks.now c.loop-index.index 0) (lists_of (drop (c.loop-index.index + 1) c.args.units.now)) (place_in (drop (c.loop-index.index + 1) c.args.units.now) (drop (c.loop-index.index + 1) c.args.stocks.now)) (place_in c.args.units.now c.args.stocks.now) (lists_some (drop (c.loop-index.index + 1) c.args.units.now)) next in
    record { fits = omega (arith, most, c.requires.inside) }

pub loop-index-preserved : goal.loop-index-preserved
loop-index-preserved c = place_on c.args.units.now c.args.stocks.now c.loop-index.place c.loop-index.index c.loop-index-test.true (omega (arith, c.loop-index-test.true, c.requires.same)) c.loop-index.invariant
