use Rattle.std.proofs.Common.{◌≡◌, length}
use Rattle.clr_rows.specs.Leads.{AreBestRows}
use Rattle.clr_rows.proofs.step.best_rows.Given as goal

abbrev pub invariant-loop-s : goal.invariant-loop-s
invariant-loop-s g l = record {
  row : length l.row.items ≡ l.width;
  chosen : length l.chosen.items ≡ l.width;
  rows : AreBestRows l.rules l.done l.width l.averages (g.A.Added.more l.added) l.s-index l.values.items l.choices.items;
}
