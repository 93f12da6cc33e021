use Rattle.std.proofs.Common.{◌≡◌, ◌+◌, ◌∙◌, ℕ, ap, arith, slice_range}
use Rattle.clr_io.specs.ReadBuffer.{Buffered}
use Rattle.clr_io.proofs.Pieces.{held_after}
use Rattle.clr_io.proofs.read_buffer.ReadBuffer.skip.Goals as goal

pub returns-clause-held : goal.returns-clause-held
returns-clause-held c =
    let b = c.self.inside in
    let is : slice_range b.bytes.items b.start b.end ≡ c.args.self.now.held = ap (λ (v : Buffered). v.held) c.self.view_is in
    let one : b.start + (c.args.count + 1) ≡ b.start + (c.args.count + 1) = omega arith in
    ap (λ (n : ℕ). slice_range b.bytes.items n b.end) one ∙ held_after b.bytes.items c.args.self.now.held b.start b.end (c.args.count + 1) is (omega arith) (omega arith)
