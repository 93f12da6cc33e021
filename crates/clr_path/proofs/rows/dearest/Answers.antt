use Rattle.std.proofs.Common.{ℕ, ◌≤◌, ◌*◌, arith, mul-le-mul_left}
use Rattle.clr_rules.specs.Rules.{price}
use Rattle.clr_model.specs.Revenue.{cent}
use Rattle.clr_model.proofs.Ladders.{first_price}
use Rattle.clr_path.proofs.rows.dearest.Goals as goal

scaled : (cents most : ℕ) → cents ≤ most → cent * cents ≤ 1000000 * most
unfolding cent
scaled cents most le = mul-le-mul_left 1000000 le

pub price-requires-clause-high : goal.price-requires-clause-high
price-requires-clause-high c = c.requires.season.rules.ladder.some

pub returns-clause-prices : goal.returns-clause-prices
returns-clause-prices c = λ rung low high.
    let most : price c.args.season.now.rules rung ≤ price c.args.season.now.rules 1 = first_price c.args.season.now.rules rung c.requires.season.rules.ladder low high in
    scaled (price c.args.season.now.rules rung) c.max.result (omega (arith, most, c.price.ensures.value, c.max.ensures))

pub returns-clause-salvage : goal.returns-clause-salvage
returns-clause-salvage c = scaled _ c.max.result (omega (arith, c.salvage.ensures.value, c.max.ensures))
