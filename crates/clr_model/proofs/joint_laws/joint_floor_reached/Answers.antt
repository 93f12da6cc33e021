use Rattle.clr_model.proofs.JointNumbers.{joint_floor_reached_lem}
use Rattle.clr_model.proofs.joint_laws.joint_floor_reached.Goals as goal

pub returns : goal.returns
returns c = joint_floor_reached_lem
