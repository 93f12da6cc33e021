use Rattle.std.proofs.Common.{codes, decimal}
use Rattle.clr_report.proofs.Joins.{listed}
use Rattle.clr_report.proofs.plan.print_path.Goals as goal

pub returns : goal.returns
returns c = listed decimal (codes "path") c.args.rungs.now _ _ _ _ c.in_ok-extend_from_slice.ensures.items c.in_ok-print_rungs.ensures c.in_ok-extend_from_slice-2.ensures.items
