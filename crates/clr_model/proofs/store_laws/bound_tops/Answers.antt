use Rattle.clr_model.proofs.StoreBounds.{bound_tops_lem}
use Rattle.clr_model.proofs.store_laws.bound_tops.Goals as goal

pub returns : goal.returns
returns c = bound_tops_lem
