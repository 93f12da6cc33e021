use Rattle.clr_model.proofs.Weeks.{sold_in_a_week_lem}
use Rattle.clr_model.proofs.laws.sold_in_a_week.Goals as goal

pub returns : goal.returns
returns c = sold_in_a_week_lem
