use Rattle.std.proofs.Common.{◌≡◌, ◌-◌, ◌*◌, [], length, ap, ap₂, ◌∙◌, arith, rules, SFits}
use Rattle.std.proofs.lemmas.Int.{to_z-of_z}
use mir.Syntax.{w128}
use Rattle.clr_plain.specs.Plain.{flat_part, sum_after}
use Rattle.clr_plain.proofs.Outcomes.{earned_is, mass_small_whole}
use Rattle.clr_plain.proofs.expected.expected_cents.Goals as goal

pub sum_from-requires-clause-mass : goal.sum_from-requires-clause-mass
sum_from-requires-clause-mass c =
    let long : length c.deref_mut.result.now ≡ length c.args.path.now * length c.args.season.now.stores = c.deref_mut.ensures.len ∙ (c.in_ok-asked.ensures.len ∙ ap₂ ◌*◌ c.len.ensures c.stores.ensures.value) in
    mass_small_whole c.args.season.now c.args.path.now (length c.deref_mut.result.now - 0) c.stores.ensures.facts c.requires.path (omega (arith, long)) c.requires.small

pub returns : goal.returns
returns c =
    let long : length c.deref_mut.result.now ≡ length c.args.path.now * length c.args.season.now.stores = c.deref_mut.ensures.len ∙ (c.in_ok-asked.ensures.len ∙ ap₂ ◌*◌ c.len.ensures c.stores.ensures.value) in
    let all : length c.deref_mut.result.now - 0 ≡ length c.args.path.now * length c.args.season.now.stores = omega (arith, long) in
    let wide : SFits w128 c.sum_from.result = search rules in
    to_z-of_z w128 c.sum_from.result wide ∙ (c.sum_from.ensures.value ∙ (ap (λ n. sum_after c.args.season.now (flat_part c.args.season.now c.args.path.now) n []) all ∙ earned_is c.args.season.now c.args.path.now c.requires.path.weeks))
