use Rattle.std.proofs.Common.{◌<◌}
use Rattle.clr_trials_season.proofs.made.sum.Given as goal

abbrev pub invariant-loop-byte : goal.invariant-loop-byte
invariant-loop-byte l = l.sum < 1000000007
