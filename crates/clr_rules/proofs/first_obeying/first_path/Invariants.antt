use Rattle.clr_rules.proofs.FirstPaths.{IsFirstLive}
use Rattle.clr_rules.proofs.first_obeying.first_path.Given as goal

abbrev pub invariant-loop-done : goal.invariant-loop-done
invariant-loop-done l = IsFirstLive l.rules l.done l.summary l.path.items
