use Rattle.std.proofs.Common.{◌≡◌, ◌≤◌, ◌<◌, ◌+◌, ◌-◌, ◌*◌, ◌/◌, get_or, length, sum, take, ap, ◌∙◌, subst, arith}
use Rattle.std.proofs.lemmas.List.Sums.{sum_by-take-le}
use Rattle.clr_model.specs.Revenue.{left}
use Rattle.clr_subgrad.proofs.Spreads.{spread_fits, spread_more, spread_none, within_mass}
use Rattle.clr_subgrad.proofs.spread.spread.Goals as goal
use Rattle.clr_subgrad.proofs.spread.spread.Goals.{then-weight-gt0, else-weight-gt0}

pub overflow_add-after-then-weight-gt0 : goal.overflow_add-after-then-weight-gt0
overflow_add-after-then-weight-gt0 c =
    let lt : c.loop-demand.demand < length c.args.weights.now = omega (arith, c.loop-demand-test.true, c.loop-demand.auto.demand-end) in
    let at : c.args.start + (c.args.stock - c.min.result) ≡ c.args.start + left c.args.stock c.loop-demand.demand = ap (λ n. c.args.start + (c.args.stock - n)) c.min.ensures in
    let share : c.from.result * c.from-then-weight-gt0.result / c.from-then-weight-gt0-2.result ≡ c.args.mass * get_or c.args.weights.now c.loop-demand.demand 0 / c.args.base
    = ap (λ n. n * c.from-then-weight-gt0.result / c.from-then-weight-gt0-2.result) c.from.ensures ∙ (ap (λ n. c.args.mass * n / c.from-then-weight-gt0-2.result) c.from-then-weight-gt0.ensures ∙ ap (λ n. c.args.mass * get_or c.args.weights.now c.loop-demand.demand 0 / n) c.from-then-weight-gt0-2.ensures) in
    let fits = spread_fits c.args.mass c.args.weights.now c.args.base c.args.stock c.args.start c.loop-demand.demand c.args.after.now c.loop-demand.after c.loop-demand.invariant c.requires.base c.requires.whole c.requires.inside lt _ _ at share c.requires.room in
    omega (arith, fits)

pub loop-demand-preserved : goal.loop-demand-preserved
loop-demand-preserved c =
    let lt : c.loop-demand.demand < length c.args.weights.now = omega (arith, c.loop-demand-test.true, c.loop-demand.auto.demand-end) in
    elim c.if-weight-gt0.branch [
      | then-weight-gt0 w ↦ rw w.after-is
          (let at : c.args.start + (c.args.stock - w.min.result) ≡ c.args.start + left c.args.stock c.loop-demand.demand = ap (λ n. c.args.start + (c.args.stock - n)) w.min.ensures in
          let share : w.from.result * w.from-then-weight-gt0.result / w.from-then-weight-gt0-2.result ≡ c.args.mass * get_or c.args.weights.now c.loop-demand.demand 0 / c.args.base
          = ap (λ n. n * w.from-then-weight-gt0.result / w.from-then-weight-gt0-2.result) w.from.ensures ∙ (ap (λ n. c.args.mass * n / w.from-then-weight-gt0-2.result) w.from-then-weight-gt0.ensures ∙ ap (λ n. c.args.mass * get_or c.args.weights.now c.loop-demand.demand 0 / n) w.from-then-weight-gt0-2.ensures) in
          spread_more c.args.mass c.args.weights.now c.args.base c.args.stock c.args.start c.loop-demand.demand c.args.after.now c.loop-demand.after c.loop-demand.invariant c.requires.base c.requires.whole c.requires.inside lt _ _ at share)
      | else-weight-gt0 w ↦ rw w.after-is
          (spread_none c.args.mass c.args.weights.now c.args.base c.args.stock c.args.start c.loop-demand.demand c.args.after.now c.loop-demand.after c.loop-demand.invariant lt (omega (arith, w.if-weight-gt0.false)))
    ]

pub returns-clause-total : goal.returns-clause-total
returns-clause-total c =
    within_mass c.args.base c.args.mass (sum c.loop-demand.after) (sum c.args.after.now) (sum (take c.loop-demand.demand c.args.weights.now)) c.requires.base c.loop-demand.invariant.total
    (subst (λ n. sum (take c.loop-demand.demand c.args.weights.now) ≤ n) c.requires.whole (sum_by-take-le (λ x. x) c.args.weights.now c.loop-demand.demand))
