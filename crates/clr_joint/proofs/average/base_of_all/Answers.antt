use Rattle.std.proofs.Common.{◌≤◌, subst, sym, ◌∙◌, ap₂, ◌^◌}
use Rattle.clr_joint.proofs.Limits.{base_some}
use Rattle.clr_joint.proofs.average.base_of_all.Goals as goal

pub new-requires-clause-low : goal.new-requires-clause-low
new-requires-clause-low c =
    subst (λ n. 1 ≤ n) (sym (c.pow.ensures ∙ ap₂ (λ b n. b ^ n) (c.from.ensures ∙ c.base.ensures.value) c.stores.ensures.value)) (base_some c.args.season.now c.base.ensures.facts c.requires)
