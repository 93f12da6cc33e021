use Rattle.clr_rules.proofs.FirstPaths.{one_first_obeying_lem}
use Rattle.clr_rules.proofs.one_first_obeying.Goals as goal

pub returns : goal.returns
returns c = one_first_obeying_lem
