use Rattle.clr_search.specs.Listed.{AreCounted}
use Rattle.clr_search.proofs.demands.Demands.build.Given as goal

abbrev pub invariant-loop-place : goal.invariant-loop-place
invariant-loop-place l = AreCounted l.season l.place l.counts.items
