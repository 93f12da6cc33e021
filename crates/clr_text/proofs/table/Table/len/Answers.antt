use Rattle.std.proofs.Common.{sym}
use Rattle.csv.specs.Records.{fields_of}
use Rattle.clr_text.proofs.FlatRows.{length-rows_of}
use Rattle.clr_text.proofs.table.Table.len.Goals as goal

pub returns : goal.returns
returns c = rw (← c.self.view_is) (sym (length-rows_of c.self.inside.width c.self.inside.rows (fields_of c.self.inside.fields)))
