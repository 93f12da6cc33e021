use Rattle.clr_model.proofs.Abiding.{abiding_nodes_live_lem}
use Rattle.clr_model.proofs.store_laws.abiding_nodes_live.Goals as goal

pub returns : goal.returns
returns c = abiding_nodes_live_lem
