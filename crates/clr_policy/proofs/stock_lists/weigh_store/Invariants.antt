use Rattle.clr_season.specs.Season.{store_at}
use Rattle.clr_policy.proofs.StoreSums.{IsWeighed}
use Rattle.clr_policy.proofs.stock_lists.weigh_store.Given as goal

abbrev pub invariant-loop-stock : goal.invariant-loop-stock
invariant-loop-stock l = IsWeighed l.season l.week.done l.week.before l.week.rung l.store l.scale l.width (store_at l.season l.store).units l.stock l.initial.values l.values
