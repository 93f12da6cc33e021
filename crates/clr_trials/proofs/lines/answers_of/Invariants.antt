use Rattle.std.proofs.Common.{◌≡◌, false}
use Rattle.clr_trials.proofs.lines.answers_of.Given as goal

abbrev pub invariant-loop : goal.invariant-loop
invariant-loop g l = record {
  taken : g.H.Shelf.taken l.shelf ≡ l.lines.taken;
  goes_on : l.lines.ended ≡ false;
}
