use Rattle.clr_model.proofs.JointBounds.{joint_tops_lem}
use Rattle.clr_model.proofs.joint_laws.joint_tops.Goals as goal

pub returns : goal.returns
returns c = joint_tops_lem
