use Rattle.std.proofs.Common.{◌∷◌, arith, ◌∙◌, rules, SFits, to_z, of_z}
use Rattle.std.proofs.lemmas.Int.{to_z-of_z}
use mir.Syntax.{w64}
use Rattle.std.specs.Fmt.{signed_decimal}
use Rattle.clr_cert.proofs.Texts.{more_from_1}
use Rattle.clr_cert.proofs.line_buffer.LineBuffer.put_mults.Goals as goal

pub loop-index-preserved : goal.loop-index-preserved
loop-index-preserved g c =
    let fits : SFits w64 c.mult.result = search rules in
    record {
      text = more_from_1 (λ number. 44 ∷ signed_decimal number) (λ store. (g.E.Entries.entries c.args.entries.now).mult store c.args.week c.args.rung) c.loop-index.index c.args.self.now c.loop-index.self c.put_field.new.self (to_z w64 (of_z w64 c.mult.result)) c.loop-index.invariant.text c.put_field.ensures.text (to_z-of_z w64 c.mult.result fits ∙ c.mult.ensures);
      size = omega (arith, c.loop-index.invariant.size, c.put_field.ensures.size);
    }
