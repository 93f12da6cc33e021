use Rattle.std.proofs.lemmas.Int.{to_z-of_z}
use mir.Syntax.{w128}
use Rattle.clr_policy.proofs.Rows.{one_place_more, still_small}
use Rattle.clr_policy.proofs.stock_lists.weigh_stock.Goals as goal

pub sum_of_place-sum-requires-clause-small : goal.sum_of_place-sum-requires-clause-small
sum_of_place-sum-requires-clause-small c = (
  c.requires.small.0,
  c.requires.small.1,
  still_small c.args.weights.now c.args.unit c.args.cost c.args.width c.args.stock c.loop-place.place c.args.values.now c.loop-place.values c.loop-place.invariant c.loop-place-test.true
      c.requires.small.0 c.requires.small.1 (c.requires.small.2 c.loop-place.place c.loop-place-test.true),
)

pub loop-place-preserved : goal.loop-place-preserved
loop-place-preserved c =
    one_place_more c.args.weights.now c.args.unit c.args.cost c.args.width c.args.stock c.loop-place.place c.args.values.now c.loop-place.values c.loop-place.invariant c.loop-place-test.true
    c.sum_of_place-sum.result _ c.requires.inside c.sum_of_place-sum.ensures (to_z-of_z w128 c.sum_of_place-sum.result (record { sfits = c.sum_of_place-sum.type_inv }))
