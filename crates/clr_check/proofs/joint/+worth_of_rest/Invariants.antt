use Rattle.std.proofs.Common.{◌-◌, length}
use Rattle.clr_check.proofs.joint.+worth_of_rest.Given as goal

abbrev pub decreases-worth_of_rest : goal.decreases-worth_of_rest
decreases-worth_of_rest l = length l.season.now.stores - l.past
