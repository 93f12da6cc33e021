use Rattle.std.proofs.Common.{◌≡◌, ◌/◌, ◌%◌, arith}
use Rattle.clr_num.specs.Money.{padded}
use Rattle.clr_make.proofs.rows.print_name.Goals as goal

pub returns : goal.returns
unfolding padded
returns c =
    let tens : c.args.store / 10 % 10 ≡ c.args.store / 10 = omega arith in
    rw tens c.in_ok-extend_from_slice.ensures.items
