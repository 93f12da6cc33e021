use Rattle.clr_written.proofs.Accepted.{planned_is_accepted_lem}
use Rattle.clr_written.proofs.laws.planned_is_accepted.Goals as goal

pub returns : goal.returns
returns c = planned_is_accepted_lem
