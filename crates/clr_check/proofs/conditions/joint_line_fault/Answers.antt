use Rattle.std.proofs.Common.{◌≡◌, ◌∙◌, ◌%◌, ap, sym, subst, arith, get_or, pos, suc, [], drop, add-one, to_z, of_z, nat_abs}
use Rattle.std.specs.List.{list_all}
use Rattle.std.proofs.lemmas.Bool.{and_parts}
use mir.Syntax.{w128}
use Rattle.clr_average.specs.Average.{IsWithin}
use Rattle.clr_cert.specs.Entries.{most_entry}
use Rattle.clr_cert.specs.Reading.{is_joint_rung, is_within}
use Rattle.clr_check.specs.JointRows.{AreJointRows}
use Rattle.clr_check.proofs.ConditionsLemmas.{joint_entries, joint_is, joint_none_read, joint_rows_are, joint_rung_read, last_joint_is, live_is_live}
use Rattle.clr_check.proofs.Sides.{read_128}
use Rattle.clr_check.proofs.conditions.joint_line_fault.Goals as goal

pub returns-then-done-weeks : goal.returns-then-done-weeks
returns-then-done-weeks c lines row kept =
    let parts = and_parts (is_joint_rung c.args.season.now c.args.done (get_or c.args.numbers.now 0 (pos 0))) (list_all (is_within most_entry) (drop 1 c.args.numbers.now)) c.requires.range in
    let small = joint_entries most_entry c.args.numbers.now c.requires.count parts.1 in
    let last : c.args.done ≡ c.args.season.now.rules.weeks = c.if-done-weeks.true ∙ c.weeks.ensures.value in
    last_joint_is c.args.season.now lines row c.args.tables.now c.args.numbers.now c.last_joint_fault.result c.weeks.ensures.facts c.args.done c.args.s c.args.index
    (to_z w128 (of_z w128 (get_or c.args.numbers.now 1 (pos 0)))) (to_z w128 (of_z w128 (get_or c.args.numbers.now 2 (pos 0)))) c.requires.place last
    (joint_none_read c.args.season.now c.args.done (get_or c.args.numbers.now 0 (pos 0)) last parts.0) (read_128 (get_or c.args.numbers.now 1 (pos 0)) most_entry small.0 (omega arith)) (read_128 (get_or c.args.numbers.now 2 (pos 0)) most_entry small.1 (omega arith)) kept c.last_joint_fault.ensures

pub joint_fault-requires-clause-here : goal.joint_fault-requires-clause-here
joint_fault-requires-clause-here c = live_is_live c.args.season.now c.args.done c.args.s c.requires.place.live

pub joint_fault-requires-clause-low : goal.joint_fault-requires-clause-low
joint_fault-requires-clause-low c =
    let parts = and_parts (is_joint_rung c.args.season.now c.args.done (get_or c.args.numbers.now 0 (pos 0))) (list_all (is_within most_entry) (drop 1 c.args.numbers.now)) c.requires.range in
    let small = joint_entries most_entry c.args.numbers.now c.requires.count parts.1 in
    subst (IsWithin most_entry) (sym (read_128 (get_or c.args.numbers.now 1 (pos 0)) most_entry small.0 (omega arith))) small.0

pub joint_fault-requires-clause-top : goal.joint_fault-requires-clause-top
joint_fault-requires-clause-top c =
    let parts = and_parts (is_joint_rung c.args.season.now c.args.done (get_or c.args.numbers.now 0 (pos 0))) (list_all (is_within most_entry) (drop 1 c.args.numbers.now)) c.requires.range in
    let small = joint_entries most_entry c.args.numbers.now c.requires.count parts.1 in
    subst (IsWithin most_entry) (sym (read_128 (get_or c.args.numbers.now 2 (pos 0)) most_entry small.1 (omega arith))) small.1

pub joint_fault-requires-clause-lows : goal.joint_fault-requires-clause-lows
joint_fault-requires-clause-lows c =
    subst (AreJointRows c.args.season.now (suc c.args.done)) (sym (c.row-lows.ensures ∙ ap (λ n. get_or c.args.tables.now.joint_lows (n % 2) []) (add-one c.args.done)))
    (joint_rows_are c.args.season.now (suc c.args.done) c.requires.tables.most c.args.tables.now.joint_lows (c.requires.tables.room (suc c.args.done) (omega (arith, c.if-done-weeks.false, c.weeks.ensures.value, c.requires.place.early))) (c.requires.tables.joint_lows c.requires.place.fit))

pub joint_fault-requires-clause-tops : goal.joint_fault-requires-clause-tops
joint_fault-requires-clause-tops c =
    subst (AreJointRows c.args.season.now (suc c.args.done)) (sym (c.row-tops.ensures ∙ ap (λ n. get_or c.args.tables.now.joint_tops (n % 2) []) (add-one c.args.done)))
    (joint_rows_are c.args.season.now (suc c.args.done) c.requires.tables.most c.args.tables.now.joint_tops (c.requires.tables.room (suc c.args.done) (omega (arith, c.if-done-weeks.false, c.weeks.ensures.value, c.requires.place.early))) (c.requires.tables.joint_tops c.requires.place.fit))

pub returns : goal.returns
returns c lines row kept =
    let parts = and_parts (is_joint_rung c.args.season.now c.args.done (get_or c.args.numbers.now 0 (pos 0))) (list_all (is_within most_entry) (drop 1 c.args.numbers.now)) c.requires.range in
    let small = joint_entries most_entry c.args.numbers.now c.requires.count parts.1 in
    joint_is c.args.season.now lines row c.args.tables.now c.args.numbers.now c.joint_fault.result c.weeks.ensures.facts c.args.done c.args.s c.args.index (nat_abs (to_z w128 (of_z w128 (get_or c.args.numbers.now 0 (pos 0)))))
    (to_z w128 (of_z w128 (get_or c.args.numbers.now 1 (pos 0)))) (to_z w128 (of_z w128 (get_or c.args.numbers.now 2 (pos 0)))) c.row-lows.result.now c.row-tops.result.now c.requires.place (omega (arith, c.if-done-weeks.false, c.weeks.ensures.value, c.requires.place.early))
    (joint_rung_read c.args.season.now c.args.done (get_or c.args.numbers.now 0 (pos 0)) c.weeks.ensures.facts (omega (arith, c.if-done-weeks.false, c.weeks.ensures.value, c.requires.place.early)) parts.0)
    (read_128 (get_or c.args.numbers.now 1 (pos 0)) most_entry small.0 (omega arith)) (read_128 (get_or c.args.numbers.now 2 (pos 0)) most_entry small.1 (omega arith))
    (c.row-lows.ensures ∙ ap (λ n. get_or c.args.tables.now.joint_lows (n % 2) []) (add-one c.args.done)) (c.row-tops.ensures ∙ ap (λ n. get_or c.args.tables.now.joint_tops (n % 2) []) (add-one c.args.done)) kept c.joint_fault.ensures
