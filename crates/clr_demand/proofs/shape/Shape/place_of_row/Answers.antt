use Rattle.clr_demand.proofs.BalanceLemmas.{has-place}
use Rattle.clr_demand.proofs.shape.Shape.place_of_row.Goals as goal

pub returns-clause-row : goal.returns-clause-row
returns-clause-row c = (has-place c.args.self.stores c.args.self.weeks c.args.self.rungs c.args.row c.requires.within).row_is
