use Rattle.std.proofs.Common.{◌≡◌, ◌∷◌, ◌++◌, length, map, suc, decimal, ap, ◌∙◌, codes}
use Rattle.clr_num.specs.Lists.{numbers}
use Rattle.clr_rules.specs.LiveSummaries.{live_summaries}
use Rattle.clr_cert.specs.Lines.{key_fields, key_text, length_keys}
use Rattle.clr_cert.specs.Places.{places}
use Rattle.clr_cert.proofs.Texts.{three}
use Rattle.clr_cert.proofs.line_buffer.LineBuffer.put_lengths.Goals as goal

pub returns-clause-text : goal.returns-clause-text
unfolding key_text length_keys
returns-clause-text c =
    let rows : c.put_field.new.self ≡ c.put.new.self ++ 44 ∷ decimal (length (places c.args.season.now)) = c.put_field.ensures.text ∙ ap (λ n. c.put.new.self ++ 44 ∷ decimal n) c.line_count.ensures.value in
    three c.args.self.now (codes "lengths") (44 ∷ decimal (length (places c.args.season.now))) (key_fields (map (λ done. length (live_summaries c.args.season.now.rules done)) (numbers 0 (suc c.args.season.now.rules.weeks))))
    c.put.new.self c.put_field.new.self c.put_counts.new.self c.put.ensures rows c.put_counts.ensures.text
