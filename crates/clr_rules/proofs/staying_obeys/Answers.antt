use Rattle.clr_rules.proofs.Staying.{staying}
use Rattle.clr_rules.proofs.staying_obeys.Goals as goal

pub returns : goal.returns
returns c = staying
