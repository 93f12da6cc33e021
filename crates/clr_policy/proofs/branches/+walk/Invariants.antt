use Rattle.clr_policy.specs.Written.{object_count, written}
use Rattle.clr_policy.proofs.branches.+walk.Given as goal

abbrev pub decreases-walk : goal.decreases-walk
decreases-walk l = object_count (written l.policy.now)
