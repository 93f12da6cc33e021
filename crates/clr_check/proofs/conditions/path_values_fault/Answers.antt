use Rattle.std.proofs.Common.{◌∙◌, ap, sym, subst, get_or, [], ◌+◌, add-one}
use Rattle.clr_check.specs.Standing.{row_number}
use Rattle.clr_check.specs.Sides.{path_rows}
use Rattle.clr_check.specs.Weeks.{AreEntries}
use Rattle.clr_check.proofs.BothSides.{path_row, side_is}
use Rattle.clr_check.proofs.conditions.path_values_fault.Goals as goal

pub entry_fault-requires-clause-after : goal.entry_fault-requires-clause-after
entry_fault-requires-clause-after c =
    subst (AreEntries c.args.season.now c.args.store) (sym (c.row-after.ensures ∙ (ap (λ rows. get_or rows c.row_number.result []) c.path_rows.ensures ∙ ap (λ n. get_or (path_rows c.args.bound c.args.tables.now) n []) c.row_number.ensures)))
    (path_row c.args.season.now c.args.bound c.args.store (c.args.done + 1) c.args.tables.now c.requires.place.first c.requires.place.last c.requires.tables)

pub returns : goal.returns
returns c lines row kept =
    side_is c.args.season.now lines row c.args.tables.now c.args.numbers.now c.entry_fault.result c.weeks.ensures.facts c.args.bound c.args.done c.args.store c.row-after.result.now c.requires.place c.requires.tables.path
    (c.row-after.ensures ∙ (ap (λ rows. get_or rows c.row_number.result []) c.path_rows.ensures ∙ ap (λ n. get_or (path_rows c.args.bound c.args.tables.now) n []) (c.row_number.ensures ∙ ap (row_number c.args.store) (add-one c.args.done)))) kept c.entry_fault.ensures
