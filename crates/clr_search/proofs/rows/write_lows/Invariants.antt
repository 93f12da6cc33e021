use Rattle.clr_search.specs.Along.{AreLows}
use Rattle.clr_search.proofs.rows.write_lows.Given as goal

abbrev pub invariant-loop-done : goal.invariant-loop-done
invariant-loop-done l = AreLows l.demands l.store l.prefix l.units l.done l.lows
