use Rattle.std.proofs.Common.{◌≡◌, pos, ◌*◌, map}
use Rattle.clr_num.specs.Lists.{numbers}
use Rattle.clr_path.proofs.rows.end_row.Given as goal

abbrev pub invariant-loop-stock : goal.invariant-loop-stock
invariant-loop-stock l = l.row.items ≡ map (λ stock. pos (l.unit * stock)) (numbers 0 l.stock)
