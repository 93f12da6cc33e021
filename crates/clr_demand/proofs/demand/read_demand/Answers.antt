use Rattle.std.proofs.Common.{◌≡◌, Err, length, rules}
use Rattle.clr_demand.proofs.FlatLemmas.{is-read, refused-early}
use Rattle.clr_demand.specs.Demand.{Listed, Sizes, demand_of, rows_of, weights_of}
use Rattle.std.specs.Prelude.{List, Ok}
use Rattle.clr_demand.proofs.demand.read_demand.Goals as goal

pub invariant_of-result : goal.invariant_of-result
invariant_of-result c =
    let shape = c.in_ok-cells.ensures.shape in
    let sizes : Sizes = record { weeks = c.args.weeks; rungs = c.args.rungs; base = c.args.base } in
    (is-read c.args.names.now sizes c.args.scaled c.args.bytes.now c.in_ok-cells.cells c.scaled.result.items
    c.requires.names.1 c.requires.weeks.1 c.requires.rungs.1 c.requires.base.1 c.in_ok-cells.ensures.gives shape.0 shape.1 shape.2 shape.3 c.scaled.ensures.len c.scaled.ensures.rows).balanced

pub returns-in_err-cells-clause-gives : goal.returns-in_err-cells-clause-gives
unfolding demand_of
returns-in_err-cells-clause-gives c =
    let sizes : Sizes = record { weeks = c.args.weeks; rungs = c.args.rungs; base = c.args.base } in
    let exit : c.from_residual.result ≡ Err c.in_err-cells.field-0.0 = search rules in
    rw exit (refused-early (λ (rows : List Listed). Ok (weights_of (length c.args.names.now) sizes rows)) c.in_err-cells.field-0.0 (rows_of c.args.names.now sizes c.args.scaled c.args.bytes.now) c.in_err-cells.ensures.gives)

pub returns-clause-gives : goal.returns-clause-gives
returns-clause-gives c =
    let shape = c.in_ok-cells.ensures.shape in
    let sizes : Sizes = record { weeks = c.args.weeks; rungs = c.args.rungs; base = c.args.base } in
    (is-read c.args.names.now sizes c.args.scaled c.args.bytes.now c.in_ok-cells.cells c.scaled.result.items
    c.requires.names.1 c.requires.weeks.1 c.requires.rungs.1 c.requires.base.1 c.in_ok-cells.ensures.gives shape.0 shape.1 shape.2 shape.3 c.scaled.ensures.len c.scaled.ensures.rows).gives

pub returns-clause-facts : goal.returns-clause-facts
returns-clause-facts c =
    let shape = c.in_ok-cells.ensures.shape in
    let sizes : Sizes = record { weeks = c.args.weeks; rungs = c.args.rungs; base = c.args.base } in
    (is-read c.args.names.now sizes c.args.scaled c.args.bytes.now c.in_ok-cells.cells c.scaled.result.items
    c.requires.names.1 c.requires.weeks.1 c.requires.rungs.1 c.requires.base.1 c.in_ok-cells.ensures.gives shape.0 shape.1 shape.2 shape.3 c.scaled.ensures.len c.scaled.ensures.rows).facts
