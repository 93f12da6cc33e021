use Rattle.std.proofs.Common.{◌≡◌, ◌∙◌, ap₂, codes}
use Rattle.std.proofs.lemmas.Result.{IfOk-weaker}
use Rattle.clap.specs.Words.{App, app_of, new_app, with_rule}
use Rattle.clr_words.specs.Line.{clearance, number_option, place, text_option}
use Rattle.clr_words.proofs.line.make_command.Goals as goal

abbrev a1 : App
a1 = with_rule (new_app (codes "clearance")) (place (codes "job"))

abbrev a2 : App
a2 = with_rule a1 (place (codes "folder"))

abbrev a3 : App
a3 = with_rule a2 (number_option (codes "steps") 0 100 (codes "20"))

abbrev a4 : App
a4 = with_rule a3 (number_option (codes "step") 1 10 (codes "1"))

abbrev a5 : App
a5 = with_rule a4 (number_option (codes "nodes") 0 10000000 (codes "100000"))

abbrev a6 : App
a6 = with_rule a5 (text_option (codes "cert") (codes "-"))

pub returns : goal.returns
unfolding clearance
returns c =
    let e1 : app_of c.in_ok-command.command ≡ a1 = c.in_ok-command.ensures ∙ ap₂ with_rule c.new-command.ensures.app c.place_word.ensures.rule in
    let e2 : app_of c.in_ok-command-2.command ≡ a2 = c.in_ok-command-2.ensures ∙ ap₂ with_rule e1 c.place_word-2.ensures.rule in
    let e3 : app_of c.in_ok-command-3.command ≡ a3 = c.in_ok-command-3.ensures ∙ ap₂ with_rule e2 c.number_word.ensures.rule in
    let e4 : app_of c.in_ok-command-4.command ≡ a4 = c.in_ok-command-4.ensures ∙ ap₂ with_rule e3 c.number_word-2.ensures.rule in
    let e5 : app_of c.in_ok-command-5.command ≡ a5 = c.in_ok-command-5.ensures ∙ ap₂ with_rule e4 c.number_word-3.ensures.rule in
    let e6 : app_of c.in_ok-command-6.command ≡ a6 = c.in_ok-command-6.ensures ∙ ap₂ with_rule e5 c.text_word.ensures.rule in
    IfOk-weaker c.with_word-7.result _ _ (λ m h. h ∙ ap₂ with_rule e6 c.number_word-4.ensures.rule) c.with_word-7.ensures
