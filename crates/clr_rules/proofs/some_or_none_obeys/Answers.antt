use Rattle.clr_rules.proofs.FirstPaths.{some_or_none_obeys_lem}
use Rattle.clr_rules.proofs.some_or_none_obeys.Goals as goal

pub returns : goal.returns
returns c = some_or_none_obeys_lem
