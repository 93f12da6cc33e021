use Rattle.std.proofs.Common.{◌≡◌, ◌∷◌, ◌++◌, take, decimal}
use Rattle.std.specs.List.{flat_map}
use Rattle.clr_report.proofs.plan.print_rungs.Given as goal

abbrev pub invariant-loop-rung : goal.invariant-loop-rung
invariant-loop-rung l = l.out.items ≡ l.fn.out.items ++ flat_map (λ rung. 32 ∷ decimal rung) (take l.rung-index l.rungs)
