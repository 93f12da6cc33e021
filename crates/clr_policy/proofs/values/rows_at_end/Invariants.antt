use Rattle.std.proofs.Common.{◌≡◌}
use Rattle.clr_policy.specs.StockLists.{rows_of}
use Rattle.clr_policy.proofs.values.rows_at_end.Given as goal

abbrev pub invariant-loop-units : goal.invariant-loop-units
invariant-loop-units l = l.values.items ≡ rows_of l.unit l.after l.units
