use Rattle.std.proofs.Common.{◌≡◌, ◌-◌, ◌+◌, ◌++◌, ◌∷◌, [], length, take}
use Rattle.std.specs.List.{flat_map}
use Rattle.clr_num.specs.Lists.{numbers}
use Rattle.clr_walk.specs.Walks.{Takes, entered, under}
use Rattle.clr_walk.proofs.walk.+explore.Given as goal

abbrev pub decreases-explore : goal.decreases-explore
decreases-explore g l = length l.walk.now.path.items - l.done

abbrev pub invariant-loop-below : goal.invariant-loop-below
invariant-loop-below g l = record {
  before : take l.done l.walk.path.items ≡ take l.done l.initial.walk.path.items;
  path : length l.walk.path.items ≡ length l.initial.walk.path.items;
  best : length l.walk.best.items ≡ length l.initial.walk.best.items;
  walked : Takes (g.P.Problem.terms l.problem)
      (flat_map (λ rung. entered (g.P.Problem.terms l.problem) l.seed (take l.done l.initial.walk.path.items ++ rung ∷ [])
      (under (g.P.Problem.terms l.problem) l.seed (take l.done l.initial.walk.path.items ++ rung ∷ []) (length l.initial.walk.path.items - (l.done + 1)))) (numbers 1 l.below))
      l.initial.walk l.walk;
}
