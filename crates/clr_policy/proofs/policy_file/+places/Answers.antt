use Rattle.std.proofs.Common.{◌≡◌, sym, rules, ◌+◌, min, length, codes, true, false, ◌≤◌}
use Rattle.std.specs.Option.{is_some}
use Rattle.serde_json.specs.Find.{as_object}
use Rattle.serde_json.specs.View.{view}
use Rattle.clr_policy.specs.Written.{branches, written}
use Rattle.clr_policy.specs.PolicyFile.{field_at, has, most_branches}
use Rattle.clr_policy.proofs.Places.{null_ends, rung_stands, test_stands, both_stand, second_breaks, field_deep}
use Rattle.clr_policy.proofs.Parts.{rung_is}
use Rattle.clr_policy.proofs.policy_file.+places.Goals as goal

pub choice_of-returns-in_err-above-clause-gives : goal.choice_of-returns-in_err-above-clause-gives
choice_of-returns-in_err-above-clause-gives t c count held =
    let next : min (count + length (branches (written c.in_ok-below.below))) most_branches ≡ c.field_of.new.ended = sym (c.in_ok-below.ensures.ended count held) in
    let told = second_breaks c.args.season.now (view c.args.node.now) (field_at c.args.season.now (codes "yes") (view c.args.node.now)) (field_at c.args.season.now (codes "no") (view c.args.node.now)) c.args.weeks count
    (c.in_ok-store.store, c.in_ok-store.limit) (written c.in_ok-below.below) c.in_err-above.field-0.0
    (c.in_ok-store.ensures.gives count held) (c.in_ok-below.ensures.gives count held) (c.in_err-above.ensures.gives _ next) in
    search (rules, told)

pub choice_of-returns-clause-gives : goal.choice_of-returns-clause-gives
choice_of-returns-clause-gives t c count held =
    let next : min (count + length (branches (written c.in_ok-below.below))) most_branches ≡ c.field_of.new.ended = sym (c.in_ok-below.ensures.ended count held) in
    rw (c.in_ok-yes.ensures.boxed, c.in_ok-no.ensures.boxed)
    (both_stand c.args.season.now (view c.args.node.now) (field_at c.args.season.now (codes "yes") (view c.args.node.now)) (field_at c.args.season.now (codes "no") (view c.args.node.now)) c.args.weeks count
    (c.in_ok-store.store, c.in_ok-store.limit) (written c.in_ok-below.below) (written c.in_ok-above.above)
    (c.in_ok-store.ensures.gives count held) (c.in_ok-below.ensures.gives count held) (c.in_ok-above.ensures.gives _ next))

pub field_of-place_of-requires : goal.field_of-place_of-requires
field_of-place_of-requires t c = let deep = field_deep c.args.name.now (view c.args.node.now) (view c.in-Some.value.now) c.in-Some.ensures in search (rules, deep)

pub place_of-returns-then-is_null-clause-gives : goal.place_of-returns-then-is_null-clause-gives
place_of-returns-then-is_null-clause-gives t c count held =
    rw (null_ends c.args.season.now (view c.args.node.now) c.args.weeks count (sym c.if-is_null.ensures)) (c.end_of.ensures.gives count held)

pub place_of-returns-then-has_rung-clause-gives : goal.place_of-returns-then-has_rung-clause-gives
place_of-returns-then-has_rung-clause-gives t c count held =
    let object : is_some (as_object (view c.args.node.now)) ≡ true = search rules in
    let some : 1 ≤ c.args.weeks = search rules in
    let rung : has (codes "rung") (view c.args.node.now) ≡ true = search rules in
    rw (rung_stands c.args.season.now (view c.args.node.now) c.args.weeks count object some rung) (c.week_of.ensures.gives count held)

pub place_of-returns-else-has_rung-clause-gives : goal.place_of-returns-else-has_rung-clause-gives
place_of-returns-else-has_rung-clause-gives t c count held =
    let object : is_some (as_object (view c.args.node.now)) ≡ true = search rules in
    let some : 1 ≤ c.args.weeks = search rules in
    let rung : has (codes "rung") (view c.args.node.now) ≡ false = search rules in
    rw (test_stands c.args.season.now (view c.args.node.now) c.args.weeks count object some rung) (c.choice_of.ensures.gives count held)

pub week_of-returns-clause-policy : goal.week_of-returns-clause-policy
week_of-returns-clause-policy t c =
    rw c.in_ok-then.ensures.boxed (rung_is c.args.season.now c.args.weeks c.in_ok-rung.rung (written c.in_ok-next.next) c.in_ok-rung.ensures.range.0 c.in_ok-rung.ensures.range.1 c.in_ok-next.ensures.policy)
