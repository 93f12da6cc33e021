use Rattle.std.proofs.Common.{ap, sym, ◌∙◌, arith}
use Rattle.clr_cert.specs.Steps.{after_value, joint_or_after}
use Rattle.clr_cert.proofs.Walking.{among_live, after_is, first_is, value_more, value_end}
use Rattle.clr_cert.proofs.place.next_of_value.Goals as goal

pub after-requires : goal.after-requires
after-requires c = among_live c.args.season.now c.args.live.now c.args.done c.args.s c.requires.live c.requires.done c.requires.among

pub returns-in-Some : goal.returns-in-Some
returns-in-Some c k here =
    let next = after_is c.args.season.now c.args.live.now c.args.done k c.args.s c.after.result c.requires.live c.requires.done here c.after.ensures in
    ap (after_value c.args.season.now c.args.done c.args.store) (sym c.in-Some.is ∙ next)

pub returns-in-None : goal.returns-in-None
returns-in-None c k here =
    let next = after_is c.args.season.now c.args.live.now c.args.done k c.args.s c.after.result c.requires.live c.requires.done here c.after.ensures in
    c.first_value.ensures ∙ (sym (value_more c.args.season.now c.args.done c.args.store (omega arith)) ∙ ap (after_value c.args.season.now c.args.done c.args.store) (sym c.in-None.is ∙ next))

pub returns-in-None-2 : goal.returns-in-None-2
returns-in-None-2 c k here =
    let next = after_is c.args.season.now c.args.live.now c.args.done k c.args.s c.after.result c.requires.live c.requires.done here c.after.ensures in
    let first = first_is c.args.season.now c.args.live.now c.args.done c.first.result c.requires.live c.requires.done c.first.ensures in
    c.joint_from.ensures
    ∙ (ap (joint_or_after c.args.season.now c.args.done) first
    ∙ (sym (value_end c.args.season.now c.args.done c.args.store (omega arith)) ∙ ap (after_value c.args.season.now c.args.done c.args.store) (sym c.in-None.is ∙ next)))
