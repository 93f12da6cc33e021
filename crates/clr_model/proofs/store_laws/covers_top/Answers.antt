use Rattle.clr_model.proofs.StoreBounds.{covers_top_lem}
use Rattle.clr_model.proofs.store_laws.covers_top.Goals as goal

pub returns : goal.returns
returns c = covers_top_lem
