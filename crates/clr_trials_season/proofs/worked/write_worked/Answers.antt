use Rattle.clr_trials_season.proofs.Ranges.{worked_in_range}
use Rattle.clr_trials_season.proofs.worked.write_worked.Goals as goal

pub write_cert-requires-clause-ranges : goal.write_cert-requires-clause-ranges
write_cert-requires-clause-ranges c = worked_in_range c.args.season.now c.requires.weeks c.requires.rungs
