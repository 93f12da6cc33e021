use Rattle.std.proofs.Common.{◌∷◌, arith, ap, pos}
use Rattle.std.specs.Fmt.{signed_decimal}
use Rattle.clr_cert.proofs.Texts.{more_from_1}
use Rattle.clr_cert.proofs.line_buffer.LineBuffer.put_rungs.Goals as goal

pub loop-index-preserved : goal.loop-index-preserved
loop-index-preserved g c = record {
  text = more_from_1 (λ number. 44 ∷ signed_decimal number) (λ week. pos ((g.E.Entries.entries c.args.entries.now).rung week)) c.loop-index.index c.args.self.now c.loop-index.self c.put_field.new.self (pos c.rung.result) c.loop-index.invariant.text c.put_field.ensures.text (ap pos c.rung.ensures);
  size = omega (arith, c.loop-index.invariant.size, c.put_field.ensures.size);
}
