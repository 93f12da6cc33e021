use Rattle.clr_check.proofs.Few.{few_rows}
use Rattle.clr_check.proofs.checker.Checker.refuse.Goals as goal

pub overflow_add-no : goal.overflow_add-no
overflow_add-no c = record { fits = few_rows c.self.inside.season.now c.self.inside.row c.self.inside.place c.self.invariant.facts c.self.invariant.next }
