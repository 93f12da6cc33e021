use Rattle.clr_model.proofs.JointBySummary.{joint_value_by_summary_lem}
use Rattle.clr_model.proofs.joint_laws.joint_value_by_summary.Goals as goal

pub returns : goal.returns
returns c = joint_value_by_summary_lem
