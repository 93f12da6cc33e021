use Rattle.clr_model.proofs.Weeks.{one_store_split_off_lem}
use Rattle.clr_model.proofs.laws.one_store_split_off.Goals as goal

pub returns : goal.returns
returns c = one_store_split_off_lem
