use Rattle.std.proofs.Common.{get_or, ap, ◌∙◌, arith}
use Rattle.clr_model.proofs.Rows.{sum_same}
use Rattle.clr_model.proofs.week.listed_weights.Goals as goal

pub returns : goal.returns
returns c = record {
  size = omega (arith, c.listed.ensures.size, c.weights.ensures.count);
  each = λ demand. c.listed.ensures.each demand ∙ ap (λ l. get_or l demand 0) c.weights.ensures.value;
  whole = sum_same c.listed.result.now c.weights.result.now c.listed.ensures.size c.listed.ensures.each ∙ c.weights.ensures.whole;
}
