use Rattle.std.proofs.Common.{◌∙◌, sym, ap, arith, map, [], ◌∷◌}
use Rattle.clr_cert.specs.Conditions.{joint_low_condition, joint_top_condition, leading_rungs, rung_condition}
use Rattle.clr_cert.specs.Entries.{most_entry}
use Rattle.clr_cert.specs.Lines.{stocks_at}
use Rattle.clr_check.specs.Faults.{first_fault}
use Rattle.clr_check.proofs.JointFaults.{week_first, week_later}
use Rattle.clr_check.proofs.Sides.{read_128}
use Rattle.clr_check.proofs.joint.joint_fault.Goals as goal

pub returns-then-is_some : goal.returns-then-is_some
returns-then-is_some c entries lows tops =
    let season = c.args.season.now in
    week_first season entries c.args.done c.args.s (stocks_at season c.args.index) c.args.low c.args.top c.args.rung c.rung_low_fault-fault.result c.requires.early
    (c.rung_low_fault-fault.ensures entries c.args.top lows
    ∙ ap (λ v. first_fault (rung_condition season c.args.done c.args.s c.args.rung ∷ joint_low_condition season entries c.args.done c.args.s (stocks_at season c.args.index) (c.args.rung, v, c.args.top) ∷ [])) (read_128 c.args.low most_entry c.requires.low (omega arith)))
    (sym c.if-is_some.ensures)

pub returns : goal.returns
returns c entries lows tops =
    let season = c.args.season.now in
    week_later season entries c.args.done c.args.s (stocks_at season c.args.index) c.args.low c.args.top c.args.rung c.rung_low_fault-fault.result c.top_fault.result c.requires.early
    (c.rung_low_fault-fault.ensures entries c.args.top lows
    ∙ ap (λ v. first_fault (rung_condition season c.args.done c.args.s c.args.rung ∷ joint_low_condition season entries c.args.done c.args.s (stocks_at season c.args.index) (c.args.rung, v, c.args.top) ∷ [])) (read_128 c.args.low most_entry c.requires.low (omega arith)))
    (sym c.if-is_some.ensures)
    (c.top_fault.ensures entries tops ∙ ap (λ v. first_fault (map (joint_top_condition season entries c.args.done c.args.s (stocks_at season c.args.index) v) (leading_rungs season c.args.done c.args.s))) (read_128 c.args.top most_entry c.requires.top (omega arith)))
