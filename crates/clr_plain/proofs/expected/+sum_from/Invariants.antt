use Rattle.std.proofs.Common.{◌≡◌, ◌+◌, ◌-◌, [], ◌∷◌, ◌++◌, length, take}
use Rattle.clr_num.specs.Lists.{numbers}
use Rattle.clr_num.specs.Sums.{sum_over}
use Rattle.clr_plain.specs.Plain.{IsBounded, flat_chance, flat_part, sum_after}
use Rattle.clr_plain.proofs.expected.+sum_from.Given as goal

abbrev pub decreases-sum_from : goal.decreases-sum_from
decreases-sum_from l = length l.asked.now - l.place

abbrev pub invariant-loop-demand : goal.invariant-loop-demand
invariant-loop-demand l = record {
  begun : take l.place l.asked ≡ take l.place l.fn.asked;
  size : length l.asked ≡ length l.fn.asked;
  value : l.total ≡ sum_over (numbers 0 l.demand) (λ d. sum_after l.season (flat_part l.season l.path) (length l.fn.asked - (l.place + 1)) (take l.place l.fn.asked ++ d ∷ []));
  range : IsBounded (sum_over (numbers 0 l.demand) (λ d. sum_after l.season (flat_chance l.season l.path) (length l.fn.asked - (l.place + 1)) (take l.place l.fn.asked ++ d ∷ []))) l.total;
}
