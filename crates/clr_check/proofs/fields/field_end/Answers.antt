use Rattle.std.proofs.Common.{◌==◌, length, sym, arith, eq-eqb}
use Rattle.std.proofs.lemmas.List.Sums.{position_or_len_is}
use Rattle.clr_check.proofs.fields.field_end.Goals as goal

pub returns-then-byte-eq44-clause-value : goal.returns-then-byte-eq44-clause-value
returns-then-byte-eq44-clause-value c = sym (position_or_len_is (λ byte. byte == 44) c.args.bytes.now c.loop-at.at 0 (omega arith) c.loop-at.invariant (λ _. eq-eqb _ _ c.if-byte-eq44.true))

pub returns-clause-value : goal.returns-clause-value
returns-clause-value c = sym (position_or_len_is (λ byte. byte == 44) c.args.bytes.now (length c.args.bytes.now) 0 (omega arith) (λ k less. c.loop-at.invariant k (omega arith)) (λ l. absurd (omega arith)))
