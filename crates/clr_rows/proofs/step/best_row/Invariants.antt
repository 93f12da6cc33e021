use Rattle.std.proofs.Common.{◌-◌, length}
use Rattle.clr_rows.specs.Leads.{IsBestSoFar}
use Rattle.clr_rows.proofs.step.best_row.Given as goal

abbrev pub invariant-loop-rung : goal.invariant-loop-rung
invariant-loop-rung g l = IsBestSoFar l.rules l.done (length l.values) l.averages (g.A.Added.more l.added) l.s (l.rung - 1) l.values l.choices
