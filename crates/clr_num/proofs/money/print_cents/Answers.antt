use Rattle.std.proofs.Common.{◌≡◌, ◌+◌, ◌%◌, drop, decimal}
use Rattle.clr_num.specs.Money.{padded}
use Rattle.clr_num.proofs.Digits.{marked_cents}
use Rattle.clr_num.proofs.money.print_cents.Goals as goal

pub returns-clause-ok : goal.returns-clause-ok
returns-clause-ok c = let e : drop 1 (decimal (100 + c.args.cents % 100)) ≡ padded 2 (c.args.cents % 100) = marked_cents c.args.cents in rw e at c.print_parts.ensures.ok
