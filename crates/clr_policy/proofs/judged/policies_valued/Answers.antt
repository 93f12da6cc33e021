use Rattle.clr_policy.proofs.Enclosures.{policies_valued_lem}
use Rattle.clr_policy.proofs.judged.policies_valued.Goals as goal

pub returns : goal.returns
returns c = policies_valued_lem
