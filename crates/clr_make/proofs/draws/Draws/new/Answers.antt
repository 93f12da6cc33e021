use Rattle.std.proofs.Common.{rules}
use Rattle.clr_make.specs.Draws.{state_after}
use Rattle.clr_make.proofs.draws.Draws.new.Goals as goal

pub returns : goal.returns
unfolding state_after
returns c = search rules
