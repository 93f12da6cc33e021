use Rattle.std.proofs.Common.{◌≤◌, get_or, subst, sym}
use Rattle.clr_mult.proofs.usage.Usage.entries.Goals as goal

pub returns-clause-part : goal.returns-clause-part
returns-clause-part c = λ k. subst (λ xs. get_or xs k 0 ≤ 1000000) (sym c.deref.ensures.value) (c.self.invariant.1 k)
