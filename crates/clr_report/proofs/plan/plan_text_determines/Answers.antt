use Rattle.clr_report.proofs.PlanTexts.{plan_determines}
use Rattle.clr_report.proofs.plan.plan_text_determines.Goals as goal

pub returns : goal.returns
returns c = plan_determines
