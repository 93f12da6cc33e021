use Rattle.std.proofs.Common.{◌≡◌, ℕ, ◌<◌, ◌≤◌, pos, get_or}
use Rattle.clr_mult.specs.Rows.{moved}
use Rattle.clr_mult.proofs.rows.step_row.Given as goal

abbrev pub invariant-loop-index : goal.invariant-loop-index
invariant-loop-index l = record {
  done : (i : ℕ) → i < l.index → get_or l.row i (pos 0) ≡ moved l.q l.usage l.initial.row i;
  ahead : (i : ℕ) → l.index ≤ i → get_or l.row i (pos 0) ≡ get_or l.initial.row i (pos 0);
}
