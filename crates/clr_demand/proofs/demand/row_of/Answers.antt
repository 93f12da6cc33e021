use Rattle.std.proofs.Common.{arith}
use Rattle.clr_demand.proofs.WeightLemmas.{row-fits}
use Rattle.clr_demand.proofs.demand.row_of.Goals as goal

pub slice_bounds-result-end : goal.slice_bounds-result-end
slice_bounds-result-end c =
    let fits = row-fits c.args.shape c.args.store c.args.week c.args.rung c.requires.store.0 c.requires.store.1 c.requires.week.0 c.requires.week.1 c.requires.rung.0 c.requires.rung.1 in
    omega (arith, fits, c.requires.size)
