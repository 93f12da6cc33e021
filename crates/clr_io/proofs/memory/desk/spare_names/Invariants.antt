use Rattle.std.proofs.Common.{◌≡◌, length}
use Rattle.clr_io.proofs.memory.desk.spare_names.Given as goal

abbrev pub invariant-loop : goal.invariant-loop
invariant-loop l = length l.spare.items ≡ l.counter
