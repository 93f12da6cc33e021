use Rattle.clr_model.proofs.PrefixBound.{prefix_bounds_lem}
use Rattle.clr_model.proofs.store_laws.prefix_bounds.Goals as goal

pub returns : goal.returns
returns c = prefix_bounds_lem
