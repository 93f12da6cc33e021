use Rattle.std.proofs.Common.{◌≡◌, ℕ, ◌<◌, ◌≤◌, None}
use Rattle.clr_cert.specs.Entries.{CertEntries}
use Rattle.clr_check.specs.Faults.{IsValueOf, first_fault, rung_conditions}
use Rattle.clr_check.proofs.values.stock_fault.Given as goal

abbrev pub invariant-loop-rung : goal.invariant-loop-rung
invariant-loop-rung l = (entries : CertEntries) → IsValueOf l.season entries l.done l.store l.mults l.rows → entries.value l.done l.store l.s l.stock ≡ l.entry → (k : ℕ) → 1 ≤ k → k < l.rung → first_fault (rung_conditions l.season entries l.done l.store l.s l.stock k) ≡ None
