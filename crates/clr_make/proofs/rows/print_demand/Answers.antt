use Rattle.std.proofs.Common.{decimal}
use Rattle.clr_make.specs.Made.{store_name}
use Rattle.clr_make.proofs.LineLemmas.{joined-line}
use Rattle.clr_make.proofs.rows.print_demand.Goals as goal

pub returns : goal.returns
returns c = joined-line decimal (store_name c.args.store) c.args.numbers _ _ _ _ c.in_ok-print_name.ensures c.in_ok-print_numbers.ensures c.in_ok-push.ensures.items
