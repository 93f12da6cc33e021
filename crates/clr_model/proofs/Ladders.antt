-- The rungs of a path stand on the ladder, and its first price is the greatest.
use Rattle.std.proofs.Common.{◌≡◌, ℕ, zero, suc, ◌+◌, ◌-◌, ◌≤◌, ◌<◌, Bool, true, false, ◌&&◌, List, [], ◌∷◌, length, get_or, drop, refl, arith, length-drop}
use Rattle.std.proofs.lemmas.Bool.{leb-true}
use Rattle.std.proofs.lemmas.List.{get_or-drop}
use Rattle.std.specs.Prelude.{nat_le, slice_index}
use Rattle.std.specs.List.{list_all}
use Rattle.clr_num.specs.Prices.{IsLadder}
use Rattle.clr_rules.specs.Rules.{IsPath, Rulebook, price}

and_parts : (a b : Bool) → (a && b) ≡ true → (a ≡ true) × (b ≡ true)
and_parts true true h = (refl, refl)
and_parts true false h = cc
and_parts false true h = cc
and_parts false false h = cc

each_passes : (test : ℕ → Bool) (xs : List ℕ) (k d : ℕ) → list_all test xs ≡ true → k < length xs → test (get_or xs k d) ≡ true
each_passes test [] k d h lt = absurd (omega arith)
each_passes test (x ∷ xs) zero d h lt = (and_parts (test x) (list_all test xs) h).0
each_passes test (x ∷ xs) (suc k) d h lt = each_passes test xs k d (and_parts (test x) (list_all test xs) h).1 (omega arith)

-- a rung of the ladder stands in each place of a path's rest
abbrev pub OnLadder : Rulebook → List ℕ → Type 0
OnLadder rules path = (k : ℕ) → k < length path → (1 ≤ get_or path k 1) × (get_or path k 1 ≤ length rules.prices)

pub path_on_ladder : (rules : Rulebook) (path : List ℕ) → IsPath rules path → OnLadder rules path
path_on_ladder rules path is k lt =
    let passes : (nat_le 1 (get_or path k 1) && nat_le (get_or path k 1) (length rules.prices)) ≡ true = each_passes (λ rung. nat_le 1 rung && nat_le rung (length rules.prices)) path k 1 is.rungs lt in
    let both = and_parts (nat_le 1 (get_or path k 1)) (nat_le (get_or path k 1) (length rules.prices)) passes in
    (leb-true 1 (get_or path k 1) both.0, leb-true (get_or path k 1) (length rules.prices) both.1)

pub rest_on_ladder : (rules : Rulebook) (path : List ℕ) (done : ℕ) → OnLadder rules path → done ≤ length path → OnLadder rules (drop done path)
rest_on_ladder rules path done on le k lt =
    let size : length (drop done path) + done ≡ length path = let part : length (drop done path) ≡ length path - done = length-drop done path in omega arith in
    rw get_or-drop (on (done + k) (omega arith))

-- prices fall
pub first_is_greatest : (prices : List ℕ) → IsLadder prices → (i : ℕ) → i < length prices → get_or prices i 0 ≤ get_or prices 0 0
first_is_greatest prices is zero lt = omega arith
first_is_greatest prices is (suc i) lt =
    let before : get_or prices i 0 ≤ get_or prices 0 0 = first_is_greatest prices is i (omega arith) in
    let falls : slice_index prices (suc i) < slice_index prices i = is.falls i lt in
    omega arith

pub first_price : (rules : Rulebook) (rung : ℕ) → IsLadder rules.prices → 1 ≤ rung → rung ≤ length rules.prices → price rules rung ≤ price rules 1
first_price rules zero is low high = absurd (omega arith)
first_price rules (suc i) is low high = first_is_greatest rules.prices is i (omega arith)
