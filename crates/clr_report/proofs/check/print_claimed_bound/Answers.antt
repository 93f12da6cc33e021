use Rattle.std.proofs.Common.{codes}
use Rattle.std.proofs.lemmas.Int.{to_z-of_z}
use mir.Syntax.{w128}
use Rattle.clr_num.specs.Money.{money_text}
use Rattle.clr_report.proofs.Joins.{two_words}
use Rattle.clr_report.proofs.check.print_claimed_bound.Goals as goal

pub returns : goal.returns
returns c =
    let bound = rw (to_z-of_z w128 c.args.bound c.ranges.bound) at c.in_ok-print_amount.ensures in
    two_words (codes "bound") (money_text c.args.bound) _ _ _ bound c.in_ok-extend_from_slice.ensures.items
