use Rattle.std.proofs.Common.{◌≡◌, ◌-◌, ◌^◌, ◌∙◌, ap₂, arith, length}
use Rattle.clr_check.proofs.JointSums.{base_most}
use Rattle.clr_check.proofs.joint.base_after.Goals as goal

pub pow-requires : goal.pow-requires
pow-requires c =
    let most = base_most c.args.season.now c.args.past c.base.ensures.facts c.requires.fits in
    let same : c.from.result ^ (c.stores.result - c.args.past) ≡ c.args.season.now.base ^ (length c.args.season.now.stores - c.args.past) = ap₂ (λ b n. b ^ (n - c.args.past)) (c.from.ensures ∙ c.base.ensures.value) c.stores.ensures.value in
    omega (arith, most, same)

pub returns-clause-size : goal.returns-clause-size
returns-clause-size c =
    let most = base_most c.args.season.now c.args.past c.base.ensures.facts c.requires.fits in
    let same : c.from.result ^ (c.stores.result - c.args.past) ≡ c.args.season.now.base ^ (length c.args.season.now.stores - c.args.past) = ap₂ (λ b n. b ^ (n - c.args.past)) (c.from.ensures ∙ c.base.ensures.value) c.stores.ensures.value in
    omega (arith, most, same, c.pow.ensures)
