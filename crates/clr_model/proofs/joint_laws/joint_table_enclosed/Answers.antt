use Rattle.clr_model.proofs.JointBounds.{joint_table_enclosed_lem}
use Rattle.clr_model.proofs.joint_laws.joint_table_enclosed.Goals as goal

pub returns : goal.returns
returns c = joint_table_enclosed_lem
