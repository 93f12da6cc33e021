use Rattle.std.proofs.Common.{◌≡◌, ◌≤◌, ◌++◌, [], length, map, take}
use Rattle.csv.specs.Records.{fields_of, partial_of}
use Rattle.clr_text.specs.Fields.{cut_of}
use Rattle.clr_text.proofs.table.add_fields.Given as goal

abbrev pub invariant-loop-field : goal.invariant-loop-field
invariant-loop-field l = record {
  row : l.field-iterator.row.now ≡ l.row;
  within : l.field-iterator.at ≤ length (fields_of l.row);
  fields : fields_of l.fields ≡ fields_of l.fn.fields ++ map cut_of (take l.field-iterator.at (fields_of l.row));
  partial : partial_of l.fields ≡ [];
}
