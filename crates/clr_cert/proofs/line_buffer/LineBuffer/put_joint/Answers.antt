use Rattle.std.proofs.Common.{◌∙◌, rules, SFits, to_z, of_z}
use Rattle.std.proofs.lemmas.Int.{to_z-of_z}
use mir.Syntax.{w64}
use Rattle.clr_cert.proofs.Texts.{joint_text}
use Rattle.clr_cert.proofs.line_buffer.LineBuffer.put_joint.Goals as goal

pub returns-clause-text : goal.returns-clause-text
returns-clause-text g c =
    let answer = (g.E.Entries.entries c.args.entries.now).joint c.args.done c.args.s c.args.stocks.now in
    let low : SFits w64 c.joint-rung.result.1 = search rules in
    let top : SFits w64 c.joint-rung.result.2 = search rules in
    joint_text c.args.self.now c.put_field.new.self c.put_field-2.new.self c.put_field-3.new.self c.joint-rung.result.0 (to_z w64 (of_z w64 c.joint-rung.result.1)) (to_z w64 (of_z w64 c.joint-rung.result.2)) answer
    c.put_field.ensures.text c.put_field-2.ensures.text c.put_field-3.ensures.text (λ i. (c.joint-rung.ensures i).0) (to_z-of_z w64 c.joint-rung.result.1 low ∙ (λ i. (c.joint-rung.ensures i).1)) (to_z-of_z w64 c.joint-rung.result.2 top ∙ (λ i. (c.joint-rung.ensures i).2))
