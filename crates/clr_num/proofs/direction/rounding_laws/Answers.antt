use Rattle.clr_num.specs.DirectionLaws.{rounds_down, rounds_up}
use Rattle.clr_num.proofs.direction.rounding_laws.Goals as goal

pub returns-clause-down : goal.returns-clause-down
returns-clause-down c = rounds_down

pub returns-clause-up : goal.returns-clause-up
returns-clause-up c = rounds_up
