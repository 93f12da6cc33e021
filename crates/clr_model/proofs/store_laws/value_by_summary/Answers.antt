use Rattle.clr_model.proofs.BySummary.{value_by_summary_lem}
use Rattle.clr_model.proofs.store_laws.value_by_summary.Goals as goal

pub returns : goal.returns
returns c = value_by_summary_lem
