use Rattle.std.proofs.Common.{◌≡◌}
use Rattle.clr_trials.proofs.multipliers.usage_of.Given as goal

abbrev pub invariant-loop-store : goal.invariant-loop-store
invariant-loop-store l = record { stores_is : l.usage.stores ≡ l.stores; weeks_is : l.usage.weeks ≡ 2; rungs_is : l.usage.rungs ≡ 3 }
