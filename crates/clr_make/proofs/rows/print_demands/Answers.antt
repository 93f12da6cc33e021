use Rattle.clr_make.specs.Made.{demand_rows_from}
use Rattle.clr_make.proofs.LineLemmas.{three-lines}
use Rattle.clr_make.proofs.rows.print_demands.Goals as goal

pub returns : goal.returns
unfolding demand_rows_from
returns c = three-lines _ _ _ _ _ _ _ c.in_ok-print_demand.ensures c.in_ok-print_demand-2.ensures c.in_ok-print_demand-3.ensures
