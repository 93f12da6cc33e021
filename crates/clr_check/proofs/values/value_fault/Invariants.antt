use Rattle.std.proofs.Common.{◌≡◌, ℕ, ◌<◌, None}
use Rattle.clr_cert.specs.Conditions.{value_conditions}
use Rattle.clr_cert.specs.Entries.{CertEntries}
use Rattle.clr_check.specs.Faults.{HasRow, IsValueOf, first_fault}
use Rattle.clr_check.proofs.values.value_fault.Given as goal

abbrev pub invariant-loop-stock : goal.invariant-loop-stock
invariant-loop-stock l = (all : CertEntries) → IsValueOf l.season all l.done l.store l.mults l.rows → HasRow l.season l.store l.entries (all.value l.done l.store l.s) → (k : ℕ) → k < l.stock → first_fault (value_conditions l.season all l.done l.store l.s k) ≡ None
