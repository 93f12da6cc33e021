use Rattle.clr_average.proofs.Cells.{wide_row}
use Rattle.clr_average.proofs.row.average_values.Goals as goal

pub average_row-requires-else-fits_narrow-clause-row : goal.average_row-requires-else-fits_narrow-clause-row
average_row-requires-else-fits_narrow-clause-row g c =
    (c.args.reach, wide_row c.args.base c.args.gain c.args.reach c.args.weights.now c.args.after.now c.requires.base c.requires.top_base c.requires.gain c.requires.size c.requires.reach c.requires.weights c.requires.values)
