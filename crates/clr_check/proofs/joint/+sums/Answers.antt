use Rattle.std.proofs.Common.{◌≡◌, ◌<◌, ◌≤◌, ◌+◌, ◌-◌, ◌*◌, ◌/◌, ◌%◌, ◌^◌, ◌*ℤ◌, ◌∙◌, ℕ, ℤ, List, ◌∷◌, suc, sym, ap, subst, arith, length, get_or, take, drop, pos, to_z, of_z}
use mir.Syntax.{w128}
use Rattle.clr_average.specs.Average.{IsWithin}
use Rattle.clr_season.specs.Season.{store_at}
use Rattle.clr_cert.specs.Entries.{most_entry}
use Rattle.clr_cert.proofs.StockLists.{NextStore}
use Rattle.clr_model.specs.Revenue.{left}
use Rattle.clr_check.specs.JointRows.{list_after, lists_after, part_after, reach_after}
use Rattle.clr_check.proofs.JointLists.{list_length, next_row, part_has, part_inside}
use Rattle.clr_check.proofs.JointSums.{all_within, base_most, folded_is, last_within, more_fits, more_is, more_size, part_is, sum_more, sum_most, weighed_fits, weighed_is, weighed_size, weight_light}
use Rattle.clr_check.proofs.Sides.{read_64, read_128}
use Rattle.clr_check.proofs.joint.+sums.Goals as goal

pub demand_sum-row_of-after-requires : goal.demand_sum-row_of-after-requires
demand_sum-row_of-after-requires t c =
    part_inside c.args.season.now c.args.past (c.args.stock - c.min.result) c.args.lists c.args.row.now c.requires.past (omega (arith, c.requires.stock)) c.requires.lists c.requires.row.size

pub demand_sum-scaled_gain-earned-requires-clause-scale : goal.demand_sum-scaled_gain-earned-requires-clause-scale
demand_sum-scaled_gain-earned-requires-clause-scale t c = subst (λ n. n ≤ 1000000000000000000) (sym c.requires.scale) (base_most c.args.season.now (c.args.past + 1) c.joint_sum_after-sum.ensures.facts c.requires.fits)

pub demand_sum-weighed-requires-clause-sum : goal.demand_sum-weighed-requires-clause-sum
demand_sum-weighed-requires-clause-sum t c =
    let most = sum_most c.args.season.now c.args.past c.args.weight c.args.scale c.joint_sum_after-sum.result c.scaled_gain-earned.result c.joint_sum_after-sum.ensures.facts c.requires.fits c.requires.past c.requires.weight c.requires.scale c.joint_sum_after-sum.ensures.size c.scaled_gain-earned.ensures.size in
    subst (IsWithin 2000000000000000000000000000000000000) (sym (read_128 c.joint_sum_after-sum.result 2000000000000000000000000000000000000 most (omega arith))) most

pub demand_sum-weighed-requires-clause-fits : goal.demand_sum-weighed-requires-clause-fits
demand_sum-weighed-requires-clause-fits t c =
    weighed_fits c.args.season.now c.args.past c.args.weight c.args.scale c.joint_sum_after-sum.result c.scaled_gain-earned.result c.joint_sum_after-sum.ensures.facts c.requires.fits c.requires.past c.requires.weight c.requires.scale c.joint_sum_after-sum.ensures.size c.scaled_gain-earned.ensures.size

pub demand_sum-returns-clause-value : goal.demand_sum-returns-clause-value
demand_sum-returns-clause-value t c f has =
    let season = c.args.season.now in
    let past : ℕ = c.args.past in
    let rest_less : c.args.rest < lists_after season (past + 1) = subst (λ n. c.args.rest < n) c.requires.lists c.requires.rest in
    let scale_is : c.args.scale ≡ season.base ^ length (list_after season (past + 1) c.args.rest)
    = c.requires.scale ∙ ap (λ n. season.base ^ n) (sym (list_length season (length season.stores - (past + 1)) (past + 1) c.args.rest (omega (arith, c.requires.past)) rest_less)) in
    let part : c.row_of-after.result.now ≡ take c.args.lists (drop (left c.args.stock c.args.demand * c.args.lists) c.args.row.now)
    = c.row_of-after.ensures.row ∙ ap (λ m. take c.args.lists (drop ((c.args.stock - m) * c.args.lists) c.args.row.now)) c.min.ensures in
    weighed_is season past c.args.weight c.args.scale c.joint_sum_after-sum.result c.scaled_gain-earned.result c.joint_sum_after-sum.ensures.facts c.requires.fits c.requires.past c.requires.weight c.requires.scale c.joint_sum_after-sum.ensures.size c.scaled_gain-earned.ensures.size
    c.weighed.result c.weighed.ensures
    ∙ ap (λ v. pos c.args.weight *ℤ v)
    (part_is season c.args.week past c.args.stock c.args.demand c.args.scale (list_after season (past + 1) c.args.rest) f c.joint_sum_after-sum.result c.scaled_gain-earned.result scale_is
    (c.joint_sum_after-sum.ensures.value (λ more. f (left c.args.stock c.args.demand ∷ more)) (part_has season past (left c.args.stock c.args.demand) c.args.lists c.args.row.now c.row_of-after.result.now f c.requires.past (omega (arith, c.requires.stock)) c.requires.lists part has))
    c.scaled_gain-earned.ensures.value)

pub demand_sum-returns-clause-size : goal.demand_sum-returns-clause-size
demand_sum-returns-clause-size t c =
    weighed_size c.args.season.now c.args.past c.args.weight c.args.scale c.joint_sum_after-sum.result c.scaled_gain-earned.result c.joint_sum_after-sum.ensures.facts c.requires.fits c.requires.past c.requires.weight c.requires.scale c.joint_sum_after-sum.ensures.size
    c.scaled_gain-earned.ensures.size c.weighed.result c.weighed.ensures

pub joint_sum_after-returns-then-past-stores-clause-size : goal.joint_sum_after-returns-then-past-stores-clause-size
joint_sum_after-returns-then-past-stores-clause-size t c =
    let season = c.args.season.now in
    let x : ℤ = get_or c.args.row.now c.args.index (pos 0) in
    let less : c.args.index < length c.args.row.now = subst (λ n. c.args.index < n) (sym c.requires.row.size) c.requires.index in
    let small : IsWithin most_entry x = c.requires.row.small c.args.index less in
    let is : c.from.result ≡ x = c.from.ensures ∙ read_64 x most_entry small (omega arith) in
    let read : to_z w128 (of_z w128 c.from.result) ≡ x = ap (λ z. to_z w128 (of_z w128 z)) is ∙ read_128 x most_entry small (omega arith) in
    subst (IsWithin (reach_after season c.args.past)) (sym read) (last_within season c.args.past x (c.if-past-stores.true ∙ c.stores.ensures.value) small)

pub joint_sum_after-nonzero_div-stock : goal.joint_sum_after-nonzero_div-stock
joint_sum_after-nonzero_div-stock t c =
    let low : c.args.past < length c.args.season.now.stores = omega (arith, c.requires.past, c.if-past-stores.false, c.stores.ensures.value) in
    (next_row c.args.season.now c.args.past c.args.index c.stock.result c.args.row.now low c.stock.ensures.value c.requires.row c.requires.index).some

pub joint_sum_after-nonzero_rem-rest : goal.joint_sum_after-nonzero_rem-rest
joint_sum_after-nonzero_rem-rest t c =
    let low : c.args.past < length c.args.season.now.stores = omega (arith, c.requires.past, c.if-past-stores.false, c.stores.ensures.value) in
    (next_row c.args.season.now c.args.past c.args.index c.stock.result c.args.row.now low c.stock.ensures.value c.requires.row c.requires.index).some

pub joint_sum_after-demand_sum-total-requires : goal.joint_sum_after-demand_sum-total-requires
joint_sum_after-demand_sum-total-requires t c =
    let low : c.args.past < length c.args.season.now.stores = omega (arith, c.requires.past, c.if-past-stores.false, c.stores.ensures.value) in
    let next : NextStore c.args.season.now.stores c.args.past (length c.args.row.now) c.args.index c.stock.result = next_row c.args.season.now c.args.past c.args.index c.stock.result c.args.row.now low c.stock.ensures.value c.requires.row c.requires.index in
    let held : c.args.index / (length c.args.row.now / (c.stock.result + 1)) ≤ (store_at c.args.season.now (c.args.past + 1)).units = subst (λ n. c.args.index / (length c.args.row.now / (c.stock.result + 1)) ≤ n) c.stock.ensures.value next.held in
    let demand : c.loop-demand.demand ≤ c.args.season.now.top = omega (arith, c.loop-demand-test.true, c.weights-weights.ensures.count) in
    let weight : get_or c.weights-weights.result.now c.loop-demand.demand 0 ≤ c.args.season.now.base = weight_light c.weights-weights.result.now c.args.season.now.base c.loop-demand.demand c.weights-weights.ensures.whole c.loop-demand-test.true in
    (omega (arith, c.decreases, low), (c.requires.fits, (c.requires.week, (low, (held, (next.within, (demand, (weight, (next.width, (c.base_after-scale.ensures.value, c.requires.row))))))))))

pub joint_sum_after-overflow_add-total : goal.joint_sum_after-overflow_add-total
joint_sum_after-overflow_add-total t c =
    let low : c.args.past < length c.args.season.now.stores = omega (arith, c.requires.past, c.if-past-stores.false, c.stores.ensures.value) in
    more_fits c.args.season.now c.args.past c.loop-demand.demand c.weights-weights.result.now (to_z w128 c.loop-demand.total-bits) c.demand_sum-total.result c.stores.ensures.facts c.requires.fits low c.weights-weights.ensures.whole c.loop-demand-test.true
    c.loop-demand.invariant.size c.demand_sum-total.ensures.size

pub joint_sum_after-loop-demand-preserved : goal.joint_sum_after-loop-demand-preserved
joint_sum_after-loop-demand-preserved t c =
    let season = c.args.season.now in
    let low : c.args.past < length season.stores = omega (arith, c.requires.past, c.if-past-stores.false, c.stores.ensures.value) in
    let lists : ℕ = length c.args.row.now / (c.stock.result + 1) in
    let rest : List ℕ = list_after season (c.args.past + 1) (c.args.index % lists) in
    record {
      sum = λ f has.
          more_is season c.args.past c.loop-demand.demand c.weights-weights.result.now (to_z w128 c.loop-demand.total-bits) c.demand_sum-total.result c.stores.ensures.facts c.requires.fits low c.weights-weights.ensures.whole c.loop-demand-test.true
          c.loop-demand.invariant.size c.demand_sum-total.ensures.size
          ∙ sum_more (λ demand. pos (get_or c.weights-weights.result.now demand 0) *ℤ part_after season c.args.week c.args.past (c.args.index / lists) rest f demand) c.loop-demand.demand (to_z w128 c.loop-demand.total-bits) c.demand_sum-total.result
          (c.loop-demand.invariant.sum f has) (c.demand_sum-total.ensures.value f has);
      size =
          more_size season c.args.past c.loop-demand.demand c.weights-weights.result.now (to_z w128 c.loop-demand.total-bits) c.demand_sum-total.result c.stores.ensures.facts c.requires.fits low c.weights-weights.ensures.whole c.loop-demand-test.true
          c.loop-demand.invariant.size c.demand_sum-total.ensures.size;
    }

pub joint_sum_after-returns-clause-value : goal.joint_sum_after-returns-clause-value
joint_sum_after-returns-clause-value t c f has =
    let season = c.args.season.now in
    let low : c.args.past < length season.stores = omega (arith, c.requires.past, c.if-past-stores.false, c.stores.ensures.value) in
    let lists : ℕ = length c.args.row.now / (c.stock.result + 1) in
    let next : NextStore season.stores c.args.past (length c.args.row.now) c.args.index c.stock.result = next_row season c.args.past c.args.index c.stock.result c.args.row.now low c.stock.ensures.value c.requires.row c.requires.index in
    let at : c.loop-demand.demand ≡ suc season.top = omega (arith, c.weights-weights.ensures.count, c.loop-demand.auto.demand-end, c.loop-demand-test.false) in
    folded_is season c.args.week c.args.past (c.args.index / lists) c.loop-demand.demand (list_after season (c.args.past + 1) (c.args.index % lists)) (list_after season c.args.past c.args.index) c.weights-weights.result.now f (to_z w128 c.loop-demand.total-bits)
    next.read c.weights-weights.ensures.value at (c.loop-demand.invariant.sum f has)

pub joint_sum_after-returns-clause-size : goal.joint_sum_after-returns-clause-size
joint_sum_after-returns-clause-size t c =
    let low : c.args.past < length c.args.season.now.stores = omega (arith, c.requires.past, c.if-past-stores.false, c.stores.ensures.value) in
    all_within c.args.season.now c.args.past c.loop-demand.demand c.weights-weights.result.now (to_z w128 c.loop-demand.total-bits) low c.weights-weights.ensures.whole (omega (arith, c.loop-demand.auto.demand-end)) c.loop-demand.invariant.size
