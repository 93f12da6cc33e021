use Rattle.std.proofs.Common.{◌∙◌, sym, subst, arith, length}
use Rattle.clr_average.specs.Average.{IsWithin}
use Rattle.clr_average.proofs.Within.{within_more}
use Rattle.clr_cert.specs.Lines.{stocks_at}
use Rattle.clr_model.proofs.JointFold.{joint_sum_by_stores_lem}
use Rattle.clr_check.specs.JointRows.{most_joint_sum, reach_after}
use Rattle.clr_check.proofs.JointLists.{list_length}
use Rattle.clr_check.proofs.JointSums.{reach_most}
use Rattle.clr_check.proofs.Sides.{read_128}
use Rattle.clr_check.proofs.joint.joint_sum.Goals as goal

pub returns-clause-value : goal.returns-clause-value
returns-clause-value c f has =
    let season = c.args.season.now in
    let most : IsWithin most_joint_sum c.joint_sum_after.result = within_more (reach_after season 0) most_joint_sum c.joint_sum_after.result c.joint_sum_after.ensures.size (reach_most season 0 c.joint_sum_after.ensures.facts c.requires.fits) in
    read_128 c.joint_sum_after.result most_joint_sum most (omega arith)
    ∙ (c.joint_sum_after.ensures.value f has
    ∙ sym (joint_sum_by_stores_lem season c.args.week.done c.args.week.before c.args.week.rung (stocks_at season c.args.index) f c.joint_sum_after.ensures.facts (list_length season (length season.stores) 0 c.args.index (omega arith) c.requires.index) c.requires.week.early c.requires.week.low c.requires.week.high))

pub returns-clause-size : goal.returns-clause-size
returns-clause-size c =
    let season = c.args.season.now in
    let most : IsWithin most_joint_sum c.joint_sum_after.result = within_more (reach_after season 0) most_joint_sum c.joint_sum_after.result c.joint_sum_after.ensures.size (reach_most season 0 c.joint_sum_after.ensures.facts c.requires.fits) in
    subst (IsWithin most_joint_sum) (sym (read_128 c.joint_sum_after.result most_joint_sum most (omega arith))) most
