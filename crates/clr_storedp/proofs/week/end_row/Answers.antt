use Rattle.std.proofs.Common.{◌≡◌, ℕ, ◌*◌, pos, ap, ◌∙◌, arith, mul_assoc}
use Rattle.clr_season.specs.Season.{Season, store_at}
use Rattle.clr_model.specs.Revenue.{cent}
use Rattle.clr_storedp.proofs.week.end_row.Goals as goal

worth : (season : Season) (store paid stock : ℕ) → paid ≡ (store_at season store).salvage → 1000000 * paid * stock ≡ cent * ((store_at season store).salvage * stock)
unfolding cent
worth season store paid stock is = mul_assoc 1000000 paid stock ∙ ap (λ p. 1000000 * (p * stock)) is

pub returns-clause-values : goal.returns-clause-values
returns-clause-values c = λ stock lt.
    c.loop-stock.invariant.values stock (omega (arith, lt, c.loop-stock-test.false)) ∙ ap pos (worth c.args.season.now c.args.store c.salvage-unit.result stock c.salvage-unit.ensures.value)
