use Rattle.std.proofs.Common.{◌∙◌, ap, sym, subst, arith, get_or, [], suc, add-one}
use Rattle.clr_check.specs.Faults.{AreMults, AreRows}
use Rattle.clr_check.specs.Standing.{mult_row, row_number}
use Rattle.clr_check.proofs.ConditionsLemmas.{last_value_is, live_is_live, mults_are, value_is, value_rows}
use Rattle.clr_check.proofs.conditions.value_line_fault.Goals as goal

pub returns-then-done-weeks : goal.returns-then-done-weeks
returns-then-done-weeks c lines row kept =
    last_value_is c.args.season.now lines row c.args.tables.now c.args.numbers.now c.last_value_fault.result c.weeks.ensures.facts c.args.done c.args.store c.args.s (c.if-done-weeks.true ∙ c.weeks.ensures.value) kept c.last_value_fault.ensures

pub value_fault-requires-clause-mults : goal.value_fault-requires-clause-mults
value_fault-requires-clause-mults c = subst (AreMults c.args.season.now) (sym c.row-mults.ensures) (mults_are c.args.season.now c.mult_row.result c.args.tables.now c.mult_row.ensures.range c.requires.tables)

pub value_fault-requires-clause-here : goal.value_fault-requires-clause-here
value_fault-requires-clause-here c = live_is_live c.args.season.now c.args.done c.args.s c.requires.place.1

pub value_fault-requires-clause-rows : goal.value_fault-requires-clause-rows
value_fault-requires-clause-rows c =
    subst (AreRows c.args.season.now c.args.store (suc c.args.done)) (sym (c.row-rows.ensures ∙ ap (λ n. get_or c.args.tables.now.values n []) (c.row_number.ensures ∙ ap (row_number c.args.store) (add-one c.args.done))))
    (value_rows c.args.season.now c.args.store (suc c.args.done) c.args.tables.now c.requires.place.0.first c.requires.place.0.last (omega (arith, c.if-done-weeks.false, c.weeks.ensures.value, c.requires.place.0.early)) c.requires.tables)

pub returns : goal.returns
returns c lines row kept =
    value_is c.args.season.now lines row c.args.tables.now c.args.numbers.now c.value_fault.result c.weeks.ensures.facts c.args.done c.args.store c.args.s c.row-mults.result.now c.row-rows.result.now c.requires.place.0
    (omega (arith, c.if-done-weeks.false, c.weeks.ensures.value, c.requires.place.0.early))
    (c.row-mults.ensures ∙ ap (λ n. get_or c.args.tables.now.mults n []) (c.mult_row.ensures.value ∙ ap (mult_row c.args.season.now c.args.store) (add-one c.args.done)))
    (c.row-rows.ensures ∙ ap (λ n. get_or c.args.tables.now.values n []) (c.row_number.ensures ∙ ap (row_number c.args.store) (add-one c.args.done)))
    kept c.value_fault.ensures
