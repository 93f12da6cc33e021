use Rattle.std.proofs.Common.{◌≡◌, ◌+◌, [], length, drop}
use Rattle.clr_text.specs.Judged.{judged}
use Rattle.clr_rules.specs.Calendar.{calendar_row}
use Rattle.clr_rules.proofs.calendar_file.listed_rows.Given as goal

abbrev pub invariant-loop-index : goal.invariant-loop-index
invariant-loop-index l = record {
  count : length l.listed.items ≡ l.index;
  rest : judged (calendar_row l.weeks) 1 [] l.table ≡ judged (calendar_row l.weeks) (l.index + 1) l.listed.items (drop l.index l.table);
}
