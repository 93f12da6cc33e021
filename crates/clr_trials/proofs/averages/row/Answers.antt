use Rattle.std.proofs.Common.{ℕ, ◌-◌, ◌≤◌, ◌^◌, ℤ, pos, negsuc, List, [], ◌∷◌, EachIndex, get_or, refl, rules, arith}
use Rattle.clr_average.specs.Average.{IsRow, IsWithin}
use Rattle.clr_trials.proofs.averages.row.Goals as goal

abbrev weights : List ℕ
weights = 1 ∷ 2 ∷ 1 ∷ []

abbrev after : List ℤ
after = negsuc 2 ∷ negsuc 21 ∷ pos 5 ∷ pos 101 ∷ []

is_row : (limit : ℕ) → 564 ≤ limit → IsRow limit 4 10 101 weights after
is_row limit fits = let each : EachIndex after (λ k. IsWithin 101 (get_or after k (pos 0))) = search rules in record { some = omega arith; whole = refl; values = each; fits = fits; small = omega arith }

pub average_row-requires-clause-row : goal.average_row-requires-clause-row
average_row-requires-clause-row g c = (101, is_row g.A.Total.limit c.requires.room)
