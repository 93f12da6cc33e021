use Rattle.std.proofs.Common.{◌≡◌, ℕ, ◌+◌, ◌∙◌, ap, arith, add-one, get_or}
use Rattle.clr_stock.specs.Stock.{no_store}
use Rattle.clr_season.specs.Season.{Season, store_at}
use Rattle.clr_joint.proofs.Places.{units_on}
use Rattle.clr_jobs.proofs.exact.opening_stocks.Goals as goal

at_one : (season : Season) (index : ℕ) → (store_at season (index + 1)).units ≡ (get_or season.stores index no_store).units
at_one season index = ap (λ n. (store_at season n).units) (add-one index)

pub loop-index-preserved : goal.loop-index-preserved
loop-index-preserved c =
    c.in_ok-push.ensures.items
    ∙ units_on c.args.season.now.stores c.loop-index.stocks.items c.loop-index.index c.stock.result (omega (arith, c.loop-index-test.true, c.loop-index.auto.index-end, c.stores-stores.ensures.value)) c.loop-index.invariant (c.stock.ensures.value ∙ at_one c.args.season.now c.loop-index.index)
