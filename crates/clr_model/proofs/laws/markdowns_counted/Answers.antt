use Rattle.clr_model.proofs.Markdowns.{markdowns_counted_lem}
use Rattle.clr_model.proofs.laws.markdowns_counted.Goals as goal

pub returns : goal.returns
returns c = markdowns_counted_lem
