use Rattle.clr_model.proofs.JointBounds.{joint_values_close_lem}
use Rattle.clr_model.proofs.joint_laws.joint_values_close.Goals as goal

pub returns : goal.returns
returns c = joint_values_close_lem
