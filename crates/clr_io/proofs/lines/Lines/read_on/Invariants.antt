use Rattle.std.proofs.Common.{◌≡◌, ◌≤◌, ◌+◌, ◌-◌, false}
use Rattle.clr_io.proofs.LineReading.{ReadOn}
use Rattle.clr_io.proofs.lines.Lines.read_on.Given as goal

abbrev pub invariant-loop-count : goal.invariant-loop-count
invariant-loop-count g l = record {
  goes_on : l.self.ended ≡ false;
  longest : l.self.longest ≡ l.initial.self.longest;
  max : l.self.max ≡ l.initial.self.max;
  taken : g.H.Shelf.taken l.shelf ≡ l.self.taken;
  on : ReadOn l.initial.self.longest l.initial.self.held (g.H.Shelf.rest l.initial.shelf) l.initial.self.taken l.self.held l.self.held (g.H.Shelf.rest l.shelf) l.self.taken l.long;
  files : g.H.Shelf.files l.shelf ≡ g.H.Shelf.files l.initial.shelf;
  later : g.H.Shelf.faults l.initial.shelf ≤ g.H.Shelf.faults l.shelf;
}

abbrev pub decreases-loop-count : goal.decreases-loop-count
decreases-loop-count g l = l.self.max + 1 - l.self.taken
