use Rattle.clr_model.proofs.PathBounds.{path_enclosed_lem}
use Rattle.clr_model.proofs.laws.path_enclosed.Goals as goal

pub returns : goal.returns
returns c = path_enclosed_lem
