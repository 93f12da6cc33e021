use Rattle.std.proofs.Common.{◌≡◌, length, map}
use Rattle.clr_num.specs.Lists.{numbers}
use Rattle.clr_rules.specs.Calendar.{listed_window}
use Rattle.clr_rules.proofs.calendar_file.windows.Given as goal

abbrev pub invariant-loop-index : goal.invariant-loop-index
invariant-loop-index l = record {
  items : l.windows.items ≡ map (listed_window l.listed) (numbers 1 l.index);
  count : length l.windows.items ≡ l.index;
}
