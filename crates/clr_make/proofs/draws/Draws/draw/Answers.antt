use Rattle.std.proofs.Common.{◌∙◌, ◌/◌, ◌^◌, sym, ap}
use Rattle.clr_make.specs.Draws.{next_state}
use Rattle.clr_make.proofs.DrawLemmas.{state-next}
use Rattle.clr_make.proofs.draws.Draws.draw.Goals as goal

pub returns-clause-follows : goal.returns-clause-follows
returns-clause-follows c = λ seed number at. c.next_state-self.ensures ∙ (ap next_state at ∙ sym (state-next seed number))

pub returns-clause-value : goal.returns-clause-value
returns-clause-value c = λ seed number at. ap (λ s. s / 2 ^ 33) (c.next_state-self.ensures ∙ (ap next_state at ∙ sym (state-next seed number)))
