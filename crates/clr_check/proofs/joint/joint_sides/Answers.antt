use Rattle.std.proofs.Common.{◌∙◌, arith, suc}
use Rattle.clr_check.specs.JointRows.{most_joint_sum}
use Rattle.clr_check.proofs.JointLists.{summary_row_has}
use Rattle.clr_check.proofs.Sides.{read_128}
use Rattle.clr_check.proofs.joint.joint_sides.Goals as goal

pub returns-clause-right : goal.returns-clause-right
returns-clause-right c f s there has =
    read_128 c.joint_sum.result most_joint_sum c.joint_sum.ensures.size (omega arith)
    ∙ c.joint_sum.ensures.value (f s) (summary_row_has c.args.season.now (suc c.args.week.done) c.args.place c.lists_of_stocks.result c.args.rows.now c.row_of-row.result.now f s c.lists_of_stocks.ensures.value c.row_of-row.ensures.row there has)
