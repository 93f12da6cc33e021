use Rattle.std.proofs.Common.{◌≡◌, ◌<◌, ◌≤◌, ◌-◌, ℕ, zero, suc, List, [], ◌∷◌, ◌++◌, length, true, arith}
use Rattle.std.specs.Prelude.{slice_index, EachIndex}
use Rattle.std.proofs.lemmas.Bool.{ltb-true}
use Rattle.clr_stock.specs.Ladder.{falls}

-- prices in their range, each less than the one before
pub record AreFalling (prices : List ℕ) : Type 0 where
  pub least : EachIndex prices (λ i. 1 ≤ slice_index prices i)
  pub most : EachIndex prices (λ i. slice_index prices i ≤ 10000000)
  pub falls : (i : ℕ) → suc i < length prices → slice_index prices (suc i) < slice_index prices i

each-push : (P : ℕ → Type 0) (xs : List ℕ) (y : ℕ) → EachIndex xs (λ i. P (slice_index xs i)) → P y → EachIndex (xs ++ y ∷ []) (λ i. P (slice_index (xs ++ y ∷ []) i))
each-push P [] y all last zero less = last
each-push P [] y all last (suc i) less = absurd (omega arith)
each-push P (x ∷ xs) y all last zero less = all 0 (omega arith)
each-push P (x ∷ xs) y all last (suc i) less = let under : i < length (xs ++ y ∷ []) = omega arith in each-push P xs y (λ j le. all (suc j) (omega arith)) last i under

falls-push : (xs : List ℕ) (y : ℕ) → ((i : ℕ) → suc i < length xs → slice_index xs (suc i) < slice_index xs i) → falls xs y ≡ true → (i : ℕ) → suc i < length (xs ++ y ∷ []) → slice_index (xs ++ y ∷ []) (suc i) < slice_index (xs ++ y ∷ []) i
falls-push [] y all last i less = absurd (omega arith)
falls-push (x ∷ []) y all last zero less = ltb-true y x last
falls-push (x ∷ []) y all last (suc i) less = absurd (omega arith)
falls-push (x ∷ (z ∷ xs)) y all last zero less = all 0 (omega arith)
falls-push (x ∷ (z ∷ xs)) y all last (suc i) less =
    let back : suc (suc (length xs)) - 1 ≡ suc (suc (length xs) - 1) = omega arith in
    let rest : falls (z ∷ xs) y ≡ true = rw back at last in
    let under : suc i < length ((z ∷ xs) ++ y ∷ []) = omega arith in
    falls-push (z ∷ xs) y (λ j le. all (suc j) (omega arith)) rest i under

-- a price more
pub falling_push : (xs : List ℕ) (y : ℕ) → AreFalling xs → 1 ≤ y → y ≤ 10000000 → falls xs y ≡ true → AreFalling (xs ++ y ∷ [])
falling_push xs y all low high last = record {
  least = each-push (λ n. 1 ≤ n) xs y all.least low;
  most = each-push (λ n. n ≤ 10000000) xs y all.most high;
  falls = falls-push xs y all.falls last;
}
