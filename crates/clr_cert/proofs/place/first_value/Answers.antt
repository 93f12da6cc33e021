use Rattle.std.proofs.Common.{ap, sym, ◌∙◌}
use Rattle.clr_cert.specs.Steps.{value_or_after, joint_or_after}
use Rattle.clr_cert.proofs.Walking.{first_is}
use Rattle.clr_cert.proofs.place.first_value.Goals as goal

pub returns-in-Some : goal.returns-in-Some
returns-in-Some c =
    let first = first_is c.args.season.now c.args.live.now c.args.done c.first.result c.requires.live c.requires.done c.first.ensures in
    ap (value_or_after c.args.season.now c.args.done c.args.store) (sym c.in-Some.is ∙ first)

pub returns-in-None : goal.returns-in-None
returns-in-None c =
    let first = first_is c.args.season.now c.args.live.now c.args.done c.first.result c.requires.live c.requires.done c.first.ensures in
    let none = sym c.in-None.is ∙ first in
    c.joint_from.ensures ∙ (ap (joint_or_after c.args.season.now c.args.done) none ∙ ap (value_or_after c.args.season.now c.args.done c.args.store) none)
