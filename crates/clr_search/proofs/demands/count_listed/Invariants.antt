use Rattle.clr_search.specs.Listed.{IsListed}
use Rattle.clr_search.proofs.demands.count_listed.Given as goal

abbrev pub invariant-loop-count : goal.invariant-loop-count
invariant-loop-count l = IsListed l.weights l.count

abbrev pub decreases-loop-count : goal.decreases-loop-count
decreases-loop-count l = l.count
