use Rattle.std.proofs.Common.{codes}
use Rattle.clr_num.specs.Money.{cents_text}
use Rattle.clr_report.proofs.Joins.{listed}
use Rattle.clr_report.proofs.plan.print_prices.Goals as goal

pub returns : goal.returns
returns c = listed cents_text (codes "prices") c.args.prices.now _ _ _ _ c.in_ok-extend_from_slice.ensures.items c.in_ok-print_cents_of.ensures c.in_ok-extend_from_slice-2.ensures.items
