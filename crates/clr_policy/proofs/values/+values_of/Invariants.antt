use Rattle.clr_policy.specs.Written.{object_count, written}
use Rattle.clr_policy.proofs.values.+values_of.Given as goal

abbrev pub decreases-values_of : goal.decreases-values_of
decreases-values_of g l = object_count (written l.policy.now)
