use Rattle.clr_rules.proofs.Sweeps.{NoneBelow}
use Rattle.clr_rules.proofs.first_obeying.least_lead.Given as goal

abbrev pub invariant-loop-rung : goal.invariant-loop-rung
invariant-loop-rung l = NoneBelow l.rules l.done l.s l.rung
