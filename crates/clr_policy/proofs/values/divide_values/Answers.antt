use Rattle.std.proofs.Common.{◌<◌, sym, subst, length, rules}
use Rattle.clr_average.specs.Average.{IsWithin}
use Rattle.clr_average.proofs.Within.{within_quotient}
use Rattle.clr_policy.specs.StockLists.{at_place}
use Rattle.clr_policy.proofs.values.divide_values.Goals as goal

pub returns-clause-within : goal.returns-clause-within
returns-clause-within g c reach all k lt =
    let inside : k < length c.args.values.now = subst (λ n. k < n) c.loop-value.auto.values lt in
    let done : k < c.loop-value.value-index = search rules in
    subst (IsWithin reach) (sym (c.loop-value.invariant.done k done))
    (within_quotient g.R.Direction.leans g.R.Direction.quotient g.met.R.Direction.laws (at_place c.args.values.now k) c.args.base reach c.requires.some (all k inside))
