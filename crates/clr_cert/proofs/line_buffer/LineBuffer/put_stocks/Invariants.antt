use Rattle.std.proofs.Common.{◌≡◌, ◌≤◌, ◌+◌, ◌*◌, ◌++◌, length, take}
use Rattle.clr_cert.specs.Lines.{key_fields}
use Rattle.clr_cert.proofs.line_buffer.LineBuffer.put_stocks.Given as goal

abbrev pub invariant-loop-stock : goal.invariant-loop-stock
invariant-loop-stock l = record {
  text : l.self ≡ l.initial.self ++ key_fields (take l.stock-index l.stocks);
  size : length l.self ≤ length l.initial.self + 41 * l.stock-index;
}
