use Rattle.clr_check.proofs.FieldLemmas.{AreReadTo}
use Rattle.clr_check.proofs.fields.read_numbers.Given as goal

abbrev pub invariant-loop-at : goal.invariant-loop-at
invariant-loop-at l = AreReadTo l.text l.rest l.at l.told l.numbers
