use Rattle.clr_check.specs.Rows.{IsRowPut}
use Rattle.clr_check.proofs.number_rows.put_numbers.Given as goal

abbrev pub invariant-loop-index : goal.invariant-loop-index
invariant-loop-index l = IsRowPut l.fn.row l.from l.numbers l.index l.row
