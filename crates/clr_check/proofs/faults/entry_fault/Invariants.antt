use Rattle.std.proofs.Common.{◌≡◌, ℕ, ◌<◌, None, get_or, pos, [], ◌∷◌}
use Rattle.clr_check.specs.Faults.{compare_by, entry_left, entry_right, first_fault}
use Rattle.clr_check.proofs.faults.entry_fault.Given as goal

abbrev pub invariant-loop-stock : goal.invariant-loop-stock
invariant-loop-stock l = (k : ℕ) → k < l.stock → first_fault (compare_by l.bound (entry_left l.season l.done (get_or l.entries k (pos 0))) (entry_right l.season l.store l.done l.before l.rung k l.after) ∷ []) ≡ None
