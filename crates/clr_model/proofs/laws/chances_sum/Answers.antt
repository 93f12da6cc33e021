use Rattle.clr_model.proofs.Weeks.{chances_sum_lem}
use Rattle.clr_model.proofs.laws.chances_sum.Goals as goal

pub returns : goal.returns
returns c = chances_sum_lem
