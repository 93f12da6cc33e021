use Rattle.std.proofs.Common.{◌≡◌, ◌++◌, ◌∷◌, length, map, suc, decimal, arith, ap, ◌∙◌}
use Rattle.clr_num.specs.Lists.{numbers}
use Rattle.clr_rules.specs.LiveSummaries.{live_summaries}
use Rattle.clr_cert.specs.Lines.{key_fields}
use Rattle.clr_cert.proofs.Texts.{more_from_0}
use Rattle.clr_cert.proofs.Walking.{live_at}
use Rattle.clr_cert.proofs.line_buffer.LineBuffer.put_counts.Goals as goal

pub loop-done-preserved : goal.loop-done-preserved
loop-done-preserved c = record {
  text = more_from_0 (λ key. 44 ∷ decimal key) (λ done. length (live_summaries c.args.season.now.rules done)) c.loop-done.done c.args.self.now c.loop-done.self c.put_field.new.self c.count.result c.loop-done.invariant.text c.put_field.ensures.text
      (c.count.ensures ∙ ap length (live_at c.args.season.now c.args.live.now c.loop-done.done c.requires.live (omega (arith, c.weeks-done-end.ensures.value))));
  size = omega (arith, c.loop-done.invariant.size, c.put_field.ensures.size);
}

pub returns-clause-text : goal.returns-clause-text
returns-clause-text c =
    let all : c.loop-done.done ≡ suc c.args.season.now.rules.weeks = omega (arith, c.weeks-done-end.ensures.value, c.loop-done.auto.done-end) in
    c.loop-done.invariant.text ∙ ap (λ n. c.args.self.now ++ key_fields (map (λ done. length (live_summaries c.args.season.now.rules done)) (numbers 0 n))) all
