use Rattle.clr_subgrad.proofs.RunLemmas.{IsWalked}
use Rattle.clr_subgrad.proofs.descent.descend.Given as goal

abbrev pub invariant-loop-done : goal.invariant-loop-done
invariant-loop-done l = IsWalked l.season l.a l.done l.own l.best
