use Rattle.clr_model.proofs.JointFold.{joint_sum_by_stores_lem}
use Rattle.clr_model.proofs.joint_laws.joint_sum_by_stores.Goals as goal

pub returns : goal.returns
returns c = joint_sum_by_stores_lem
