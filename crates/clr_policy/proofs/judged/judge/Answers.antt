use Rattle.std.proofs.Common.{◌≡◌, ◌∙◌, sym, pos, ◌*ℤ◌, subst, rules, arith, None}
use Rattle.clr_model.specs.Expected.{den, season_earned}
use Rattle.clr_model.specs.Revenue.{cent, full_stocks}
use Rattle.clr_policy.specs.Breaches.{first_breach}
use Rattle.clr_policy.specs.Unrolled.{policy_tree}
use Rattle.clr_policy.specs.Written.{branches, written}
use Rattle.clr_policy.proofs.Enclosures.{policies_valued_lem, value_leans}
use Rattle.clr_policy.proofs.PolicyWeeks.{reads_back}
use Rattle.clr_policy.proofs.judged.judge.Goals as goal

pub returns-in-Ok-clause-valued : goal.returns-in-Ok-clause-valued
returns-in-Ok-clause-valued g c =
    let none : first_breach c.args.season.now.rules 0 (branches (written c.args.policy.now)) ≡ None = search rules in
    policies_valued_lem c.args.season.now (written c.args.policy.now) c.value_of.ensures.facts c.requires none

pub returns-in-Ok-clause-leans : goal.returns-in-Ok-clause-leans
returns-in-Ok-clause-leans g c =
    subst (λ value. g.R.Direction.leans (value *ℤ den c.args.season.now c.args.season.now.rules.weeks) (pos cent *ℤ season_earned c.args.season.now (policy_tree c.args.season.now (written c.args.policy.now)))) (sym (reads_back 100000000000000000000 c.in-Ok.value (omega arith) c.in-Ok.ensures.money ∙ c.in-Ok.ensures.value))
    (value_leans g.R.Direction.leans g.R.Direction.quotient g.met.R.Direction.laws c.args.season.now (written c.args.policy.now) c.args.season.now.rules.weeks 0 1 (full_stocks c.args.season.now) c.value_of.ensures.facts c.requires (omega arith))
