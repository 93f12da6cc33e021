use Rattle.std.proofs.Common.{◌<◌, ◌-◌, arith}
use Rattle.csv.specs.Records.{fields_of}
use Rattle.clr_text.proofs.FlatRows.{length-rows_of, rows-inside}
use Rattle.clr_text.proofs.table.Table.field.Goals as goal

pub field_of-requires : goal.field_of-requires
field_of-requires c =
    let inside = c.self.inside in
    let within = rw (← c.self.view_is) at c.requires.within in
    let size = length-rows_of inside.width inside.rows (fields_of inside.fields) in
    let row : c.args.row - 1 < inside.rows = omega (arith, within, size, c.requires.row) in
    rw c.self.invariant (rows-inside (c.args.row - 1) inside.rows inside.width row)

pub returns : goal.returns
returns c =
    let inside = c.self.inside in
    let within = rw (← c.self.view_is) at c.requires.within in
    let size = length-rows_of inside.width inside.rows (fields_of inside.fields) in
    let row : c.args.row - 1 < inside.rows = omega (arith, within, size, c.requires.row) in
    rw (← c.self.view_is) (c.field_of.ensures inside.rows row)
