use Rattle.clr_model.proofs.PathNumbers.{path_numbers_enclose_lem}
use Rattle.clr_model.proofs.laws.path_numbers_enclose.Goals as goal

pub returns : goal.returns
returns c = path_numbers_enclose_lem
