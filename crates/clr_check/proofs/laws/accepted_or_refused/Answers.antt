use Rattle.clr_check.proofs.Refused.{accepted_or_refused_lem}
use Rattle.clr_check.proofs.laws.accepted_or_refused.Goals as goal

pub returns : goal.returns
returns c = accepted_or_refused_lem
