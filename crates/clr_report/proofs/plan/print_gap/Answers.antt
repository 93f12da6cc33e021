use Rattle.std.proofs.Common.{codes, ◌-ℤ◌, SFits}
use Rattle.std.proofs.lemmas.Int.{to_z-of_z}
use mir.Syntax.{w128}
use Rattle.clr_num.specs.Money.{money_text}
use Rattle.clr_report.proofs.Gaps.{gap_fits}
use Rattle.clr_report.proofs.Joins.{two_words}
use Rattle.clr_report.proofs.plan.print_gap.Goals as goal

pub returns : goal.returns
returns c =
    let fits : SFits w128 (c.args.bound -ℤ c.args.low) = gap_fits c.args.bound c.args.low c.requires.bound c.requires.low in
    let gap = rw (to_z-of_z w128 c.args.bound c.ranges.bound, to_z-of_z w128 c.args.low c.ranges.low, to_z-of_z w128 (c.args.bound -ℤ c.args.low) fits) at c.in_ok-print_amount.ensures in
    two_words (codes "gap") (money_text (c.args.bound -ℤ c.args.low)) _ _ _ gap c.in_ok-extend_from_slice.ensures.items
