use Rattle.clr_check.proofs.Sides.{scaled_fits, scaled_is, scaled_within}
use Rattle.clr_check.proofs.faults.scaled.Goals as goal

pub overflow_mul-result : goal.overflow_mul-result
overflow_mul-result c = scaled_fits c.args.value c.from.result c.args.base c.requires.value c.requires.base c.from.ensures

pub returns-clause-value : goal.returns-clause-value
returns-clause-value c = scaled_is c.args.value c.from.result c.args.base c.requires.value c.requires.base c.from.ensures

pub returns-clause-size : goal.returns-clause-size
returns-clause-size c = scaled_within c.args.value c.from.result c.args.base c.requires.value c.requires.base c.from.ensures
