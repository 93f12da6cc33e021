use Rattle.std.proofs.Common.{◌+◌, ◌∙◌, ap, sym, length}
use Rattle.std.specs.Prelude.{sum}
use Rattle.clr_demand.proofs.WeightLemmas.{nested-row}
use Rattle.clr_demand.proofs.demand.Demand.weights.Goals as goal

pub returns-clause-weights : goal.returns-clause-weights
returns-clause-weights c =
    let s = c.self.inside in
    let stores = rw (← c.self.view_is) at c.requires.store in
    let weeks = rw (← c.self.view_is) at c.requires.week in
    let rungs = rw (← c.self.view_is) at c.requires.rung in
    rw (c.row_of.ensures, c.deref.ensures.value, ← c.self.view_is)
    (sym (nested-row s.shape.stores s.shape.weeks s.shape.rungs (s.shape.top + 1) s.weights.items c.args.store c.args.week c.args.rung stores.0 stores.1 weeks.0 weeks.1 rungs.0 rungs.1))

pub returns-clause-len : goal.returns-clause-len
returns-clause-len c =
    let s = c.self.inside in
    let stores = rw (← c.self.view_is) at c.requires.store in
    let weeks = rw (← c.self.view_is) at c.requires.week in
    let rungs = rw (← c.self.view_is) at c.requires.rung in
    let row = nested-row s.shape.stores s.shape.weeks s.shape.rungs (s.shape.top + 1) s.weights.items c.args.store c.args.week c.args.rung stores.0 stores.1 weeks.0 weeks.1 rungs.0 rungs.1 in
    rw (c.row_of.ensures, c.deref.ensures.value, ← c.self.view_is)
    (sym (ap length row) ∙ c.self.invariant.facts.unit_count c.args.store c.args.week c.args.rung stores.0 stores.1 weeks.0 weeks.1 rungs.0 rungs.1)

pub returns-clause-sum : goal.returns-clause-sum
returns-clause-sum c =
    let s = c.self.inside in
    let stores = rw (← c.self.view_is) at c.requires.store in
    let weeks = rw (← c.self.view_is) at c.requires.week in
    let rungs = rw (← c.self.view_is) at c.requires.rung in
    let row = nested-row s.shape.stores s.shape.weeks s.shape.rungs (s.shape.top + 1) s.weights.items c.args.store c.args.week c.args.rung stores.0 stores.1 weeks.0 weeks.1 rungs.0 rungs.1 in
    rw (c.row_of.ensures, c.deref.ensures.value, ← c.self.view_is)
    (sym (ap sum row) ∙ c.self.invariant.facts.sums c.args.store c.args.week c.args.rung stores.0 stores.1 weeks.0 weeks.1 rungs.0 rungs.1)
