use Rattle.std.proofs.Common.{◌∙◌, ap, refl, subst, true, false}
use Rattle.clr_cert.specs.Accepts.{numbers_no}
use Rattle.clr_check.specs.Fields.{IsLineRead}
use Rattle.clr_check.proofs.Answered.{form_answer, large_answer, line_counted, no_clash, read_form, told_of}
use Rattle.clr_check.proofs.taking.take_line.Goals as goal

pub returns-in-None-clause-answer : goal.returns-in-None-clause-answer
returns-in-None-clause-answer c = rw c.plain.ensures (λ lines row of before. form_answer c.args.season.now lines row c.args.place c.args.line.now c.in-None.ensures)

pub returns-in-None-clause-keeps : goal.returns-in-None-clause-keeps
returns-in-None-clause-keeps c lines row of before none = absurd (no_clash _ none)

pub returns-in-Some-false-clause-answer : goal.returns-in-Some-false-clause-answer
returns-in-Some-false-clause-answer c =
    let read : IsLineRead c.args.season.now c.args.place c.args.line.now false c.read_line.new.numbers = subst (λ b. IsLineRead c.args.season.now c.args.place c.args.line.now b c.read_line.new.numbers) c.in-Some-false.field-0-test c.in-Some-false.ensures in
    rw c.plain-in-Some-false.ensures (λ lines row of before. large_answer c.args.season.now lines row c.args.place c.args.line.now read.numbers c.stores.ensures.facts read.form (read.large refl))

pub returns-in-Some-false-clause-keeps : goal.returns-in-Some-false-clause-keeps
returns-in-Some-false-clause-keeps c lines row of before none = absurd (no_clash _ none)

pub take_numbers-requires-clause-count : goal.take_numbers-requires-clause-count
take_numbers-requires-clause-count c =
    let read : IsLineRead c.args.season.now c.args.place c.args.line.now true c.read_line.new.numbers = subst (λ b. IsLineRead c.args.season.now c.args.place c.args.line.now b c.read_line.new.numbers) c.in-Some-true.field-0-test c.in-Some-true.ensures in
    line_counted c.args.season.now c.args.place c.args.line.now c.read_line.new.numbers (read_form c.args.season.now c.args.place c.args.line.now c.read_line.new.numbers read)

pub returns-in-Some-true-clause-answer : goal.returns-in-Some-true-clause-answer
returns-in-Some-true-clause-answer c lines row of before =
    let read : IsLineRead c.args.season.now c.args.place c.args.line.now true c.read_line.new.numbers = subst (λ b. IsLineRead c.args.season.now c.args.place c.args.line.now b c.read_line.new.numbers) c.in-Some-true.field-0-test c.in-Some-true.ensures in
    let form = read_form c.args.season.now c.args.place c.args.line.now c.read_line.new.numbers read in
    ap (numbers_no c.args.season.now lines row c.args.place) form
    ∙ c.take_numbers.ensures.answer lines row of.here (told_of c.args.season.now lines row c.args.place c.args.line.now c.read_line.new.numbers c.stores.ensures.facts of form) before

pub returns-in-Some-true-clause-keeps : goal.returns-in-Some-true-clause-keeps
returns-in-Some-true-clause-keeps c lines row of before none =
    let read : IsLineRead c.args.season.now c.args.place c.args.line.now true c.read_line.new.numbers = subst (λ b. IsLineRead c.args.season.now c.args.place c.args.line.now b c.read_line.new.numbers) c.in-Some-true.field-0-test c.in-Some-true.ensures in
    c.take_numbers.ensures.keeps lines row of.here (told_of c.args.season.now lines row c.args.place c.args.line.now c.read_line.new.numbers c.stores.ensures.facts of (read_form c.args.season.now c.args.place c.args.line.now c.read_line.new.numbers read)) before none
