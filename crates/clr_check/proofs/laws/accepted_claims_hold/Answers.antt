use Rattle.clr_check.proofs.Proved.{accepted_claims_hold_lem}
use Rattle.clr_check.proofs.laws.accepted_claims_hold.Goals as goal

pub returns : goal.returns
returns c = accepted_claims_hold_lem
