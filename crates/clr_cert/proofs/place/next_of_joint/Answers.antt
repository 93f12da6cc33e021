use Rattle.std.proofs.Common.{ap, sym, ◌∙◌, arith}
use Rattle.clr_cert.specs.Steps.{joint_or_after}
use Rattle.clr_cert.proofs.Walking.{among_live, after_is, joint_past}
use Rattle.clr_cert.proofs.place.next_of_joint.Goals as goal

pub overflow_add-index : goal.overflow_add-index
overflow_add-index c = record { fits = omega (arith, c.requires.index, c.lists_of_stocks-lists.ensures.value, c.lists_of_stocks-lists.ensures.range) }

pub after-requires : goal.after-requires
after-requires c = among_live c.args.season.now c.args.live.now c.args.done c.args.s c.requires.live c.requires.done c.requires.among

pub returns-else-index-lists : goal.returns-else-index-lists
returns-else-index-lists c k here =
    let next = after_is c.args.season.now c.args.live.now c.args.done k c.args.s c.after.result c.requires.live c.requires.done here c.after.ensures in
    c.joint_from.ensures ∙ (ap (joint_or_after c.args.season.now c.args.done) next ∙ sym (joint_past c.args.season.now c.args.done c.args.s c.args.index _ (omega (arith, c.lists_of_stocks-lists.ensures.value))))
