use Rattle.std.proofs.Common.{◌≡◌, ℕ, ◌<◌, None, get_or, pos, [], ◌∷◌}
use Rattle.clr_cert.specs.Conditions.{at_least, end_worth}
use Rattle.clr_cert.specs.declared.no.NoKind.TheVariants as kind
use Rattle.clr_check.specs.Faults.{first_fault}
use Rattle.clr_check.proofs.values.last_value_fault.Given as goal

abbrev pub invariant-loop-stock : goal.invariant-loop-stock
invariant-loop-stock l = (k : ℕ) → k < l.stock → first_fault (at_least kind.Value (get_or l.entries k (pos 0)) (end_worth l.season l.store k) ∷ []) ≡ None
