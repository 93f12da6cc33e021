-- The names of columns.
use Rattle.std.proofs.Common.{◌≡◌, ℕ, ◌≤◌, ◌<◌, zero, suc, List, [], ◌∷◌, length, get_or, refl, arith}
use Rattle.std.proofs.lemmas.List.{get_or_past}

-- no name has the number 0, nor one past the last
pub unnamed : (names : List (List ℕ)) (number : ℕ) → (1 ≤ number → length names < number) → get_or ([] ∷ names) number [] ≡ []
unnamed names zero h = refl
unnamed names (suc i) h = get_or_past names i [] (let past : length names < suc i = h (omega arith) in omega arith)
