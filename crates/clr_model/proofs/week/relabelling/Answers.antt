use Rattle.std.proofs.Common.{◌≡◌, nat_eq, false, rules}
use Rattle.clr_model.proofs.Rows.{fee_other}
use Rattle.clr_model.proofs.week.relabelling.Goals as goal

pub returns-else-rung-before-clause-value : goal.returns-else-rung-before-clause-value
returns-else-rung-before-clause-value c =
    let other : nat_eq c.args.rung c.args.before ≡ false = search (rules, c.if-rung-before.false) in
    fee_other c.args.season.now c.args.store c.args.before c.args.rung c.relabel.result other c.relabel.ensures.value
