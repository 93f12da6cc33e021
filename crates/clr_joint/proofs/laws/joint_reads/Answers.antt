use Rattle.clr_joint.proofs.ReadAt.{joint_reads_lem}
use Rattle.clr_joint.proofs.laws.joint_reads.Goals as goal

pub returns : goal.returns
returns c = joint_reads_lem
