use Rattle.std.proofs.Common.{◌≡◌, ℕ, ◌<◌, ◌≤◌, None, suc}
use Rattle.clr_cert.specs.Entries.{CertEntries}
use Rattle.clr_cert.specs.Lines.{stocks_at}
use Rattle.clr_check.specs.Faults.{first_fault}
use Rattle.clr_check.specs.JointRows.{HasTops, top_conditions}
use Rattle.clr_check.proofs.joint.top_fault.Given as goal

abbrev pub invariant-loop-rung : goal.invariant-loop-rung
invariant-loop-rung l = (entries : CertEntries) → HasTops l.season entries (suc l.done) l.tops → (k : ℕ) → 1 ≤ k → k < l.rung → first_fault (top_conditions l.season entries l.done l.s (stocks_at l.season l.index) l.top k) ≡ None
