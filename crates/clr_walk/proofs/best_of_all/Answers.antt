use Rattle.clr_walk.proofs.BestPath.{best_of_all_lem}
use Rattle.clr_walk.proofs.best_of_all.Goals as goal

pub returns : goal.returns
returns c = best_of_all_lem
