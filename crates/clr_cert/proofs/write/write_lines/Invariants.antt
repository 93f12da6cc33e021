use Rattle.std.proofs.Common.{◌≡◌, ◌≤◌, [], length, take, slice_get, Some}
use Rattle.clr_cert.specs.Lines.{lines_text}
use Rattle.clr_cert.specs.Places.{places, walk}
use Rattle.clr_cert.specs.Writing.{IsSent}
use Rattle.clr_cert.proofs.write.write_lines.Given as goal

abbrev pub invariant-loop-row : goal.invariant-loop-row
invariant-loop-row g l = record {
  at : slice_get (walk l.season) l._row ≡ Some l.place;
  text : IsSent (g.K.Sink.written l.initial.sink) (g.K.Sink.written l.sink) [] (lines_text l.season (g.E.Entries.entries l.entries) (take l._row (places l.season))) l.lines;
  room : length l.lines ≤ 65536;
  around : g.K.Sink.around l.sink ≡ g.K.Sink.around l.initial.sink;
  later : g.K.Sink.faults l.initial.sink ≤ g.K.Sink.faults l.sink;
}
