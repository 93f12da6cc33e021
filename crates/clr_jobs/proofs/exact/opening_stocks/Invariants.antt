use Rattle.std.proofs.Common.{◌≡◌, take}
use Rattle.clr_model.specs.Revenue.{full_stocks}
use Rattle.clr_jobs.proofs.exact.opening_stocks.Given as goal

abbrev pub invariant-loop-index : goal.invariant-loop-index
invariant-loop-index l = l.stocks.items ≡ take l.index (full_stocks l.season)
