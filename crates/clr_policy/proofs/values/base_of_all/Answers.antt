use Rattle.std.proofs.Common.{◌≤◌, subst, sym, ◌∙◌, ap₂, ◌^◌, length}
use Rattle.std.proofs.Math.Nat.{one-le-pow}
use Rattle.clr_policy.proofs.values.base_of_all.Goals as goal

pub returns-clause-some : goal.returns-clause-some
returns-clause-some c =
    subst (λ n. 1 ≤ n) (sym (c.pow.ensures ∙ ap₂ (λ b n. b ^ n) (c.from.ensures ∙ c.base.ensures.value) c.stores.ensures.value)) (one-le-pow (length c.args.season.now.stores) c.args.season.now.base c.base.ensures.facts.least_base)
