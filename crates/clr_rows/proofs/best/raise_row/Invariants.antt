use Rattle.std.proofs.Common.{◌≡◌, ℕ, ◌≤◌, ◌<◌, pos, ◌+ℤ◌, int_lt, if◌then◌else◌, get_or}
use Rattle.clr_rows.proofs.best.raise_row.Given as goal

abbrev pub invariant-loop-stock : goal.invariant-loop-stock
invariant-loop-stock l = record {
  values : (k : ℕ) → k < l.stock → get_or l.values k (pos 0) ≡ (if int_lt (get_or l.initial.values k (pos 0)) (get_or l.averages k (pos 0) +ℤ l.more) then get_or l.averages k (pos 0) +ℤ l.more else get_or l.initial.values k (pos 0));
  choices : (k : ℕ) → k < l.stock → get_or l.choices k 0 ≡ (if int_lt (get_or l.initial.values k (pos 0)) (get_or l.averages k (pos 0) +ℤ l.more) then l.rung else get_or l.initial.choices k 0);
  ahead_values : (k : ℕ) → l.stock ≤ k → get_or l.values k (pos 0) ≡ get_or l.initial.values k (pos 0);
  ahead_choices : (k : ℕ) → l.stock ≤ k → get_or l.choices k 0 ≡ get_or l.initial.choices k 0;
}
