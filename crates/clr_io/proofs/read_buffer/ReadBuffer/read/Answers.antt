use Rattle.std.proofs.Common.{◌≡◌, ◌≤◌, ◌+◌, ◌-◌, ◌++◌, ◌∙◌, ap, sym, arith, drop, length, rules, slice_range, take, List, ℕ}
use Rattle.std.proofs.lemmas.Grind.{common_steps}
use Rattle.std.proofs.lemmas.List.Edits.{length-between}
use Rattle.clr_io.specs.ReadBuffer.{Buffered}
use Rattle.clr_io.proofs.Pieces.{laid_over, piece_taken}
use Rattle.clr_io.proofs.read_buffer.ReadBuffer.read.Goals as goal

pub returns-clause-piece : goal.returns-clause-piece
returns-clause-piece g c =
    let b = c.self.inside in
    let held = c.args.self.now.held in
    let read = c.read_after-read.new.bytes in
    let rest = g.H.Shelf.rest c.args.shelf.now in
    let rest' = g.H.Shelf.rest c.read_after-read.new.shelf in
    let k = b.end - b.start in
    let n = c.in_ok-count.count in
    let is : slice_range b.bytes.items b.start b.end ≡ held = ap (λ (v : Buffered). v.held) c.self.view_is in
    let same : length read ≡ length b.bytes.items = search (rules, common_steps) in
    let whole : b.bytes.len ≡ length b.bytes.items = search (rules, common_steps) in
    let over : take b.bytes.len (read ++ drop (length read) b.bytes.items) ≡ read = laid_over b.bytes.items read b.bytes.len same whole in
    let front : take k read ≡ held = c.in_ok-count.ensures.front ∙ ap (λ (bs : List ℕ). slice_range bs b.start b.end) c.deref_mut.ensures.value ∙ is in
    let size : length held ≡ k = sym (ap length is) ∙ length-between b.bytes.items b.start b.end (omega arith) in
    let room : length b.bytes.items ≡ c.args.self.now.room = ap (λ (v : Buffered). v.room) c.self.view_is in
    let most : n ≤ 65536 = c.in_ok-count.ensures.piece.0 in
    let within : k + n ≤ length read = omega arith in
    rw over (piece_taken held read k n rest rest' front within c.in_ok-count.ensures.piece.1)
