use Rattle.std.proofs.Common.{sym}
use Rattle.clr_check.proofs.Answered.{fault_answer, no_clash, range_answer}
use Rattle.clr_check.proofs.taking.take_numbers.Goals as goal

pub returns-then-not-in_range-clause-answer : goal.returns-then-not-in_range-clause-answer
returns-then-not-in_range-clause-answer c = rw c.plain.ensures (λ lines row here told before. range_answer c.args.season.now lines row c.args.place c.args.numbers.now (sym c.if-not-in_range.ensures))

pub returns-then-not-in_range-clause-keeps : goal.returns-then-not-in_range-clause-keeps
returns-then-not-in_range-clause-keeps c lines row here told before none = absurd (no_clash _ none)

pub returns-clause-answer : goal.returns-clause-answer
returns-clause-answer c lines row here told before = fault_answer c.args.season.now lines row c.args.place c.args.numbers.now c.numbers_fault.result (sym c.if-not-in_range.ensures) (c.numbers_fault.ensures lines row (c.keep_numbers.ensures.keeps lines row here told before))

pub returns-clause-keeps : goal.returns-clause-keeps
returns-clause-keeps c lines row here told before none = (c.keep_numbers.ensures.keeps lines row here told before).keeps
