use Rattle.std.proofs.Common.{codes}
use Rattle.std.proofs.lemmas.Int.{to_z-of_z}
use mir.Syntax.{w128}
use Rattle.clr_num.specs.Money.{money_text}
use Rattle.clr_report.proofs.Joins.{three_words}
use Rattle.clr_report.proofs.check.print_both.Goals as goal

pub returns : goal.returns
returns c =
    let low = rw (to_z-of_z w128 c.args.low c.ranges.low) at c.in_ok-print_amount.ensures in
    let top = rw (to_z-of_z w128 c.args.top c.ranges.top) at c.in_ok-print_amount-2.ensures in
    three_words (codes "exact") (money_text c.args.low) (money_text c.args.top) _ _ _ _ low top c.in_ok-extend_from_slice.ensures.items
