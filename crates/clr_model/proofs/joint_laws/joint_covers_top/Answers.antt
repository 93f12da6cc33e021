use Rattle.clr_model.proofs.JointNumbers.{joint_covers_top_lem}
use Rattle.clr_model.proofs.joint_laws.joint_covers_top.Goals as goal

pub returns : goal.returns
returns c = joint_covers_top_lem
