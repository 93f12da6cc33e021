-- Rows of zeros, and a path of first rungs.
use Rattle.std.proofs.Common.{◌&&◌, Result, Ok, Err, IfOk, ◌≡◌, ℕ, ◌+◌, ◌<◌, ◌≤◌, true, refl, sym, ap, ◌∙◌, subst, arith, suc, zero, List, [], ◌∷◌, ◌++◌, length, get_or, replicate, ◌⊎◌, inl, inr, ℤ, pos, nat_le, length-append, IsTrue}
use Rattle.std.proofs.lemmas.Bool.{and_from}
use Rattle.std.proofs.lemmas.List.{get_or_append_left, get_or_past, length-replicate}
use Rattle.std.proofs.Math.Seq.{get_or-append_seam}
use Rattle.clr_average.specs.Average.{IsWithin}
use Rattle.clr_average.proofs.Within.{within_pos}
use Rattle.clr_rules.specs.Rules.{IsPath, Rulebook, are_rungs}
use Rattle.clr_check.specs.Rows.{AreRowsOf, kept_at}

none_within : (most : ℕ) → IsWithin most (pos 0)
none_within most = within_pos most 0 (omega arith)

zero_at : (len index : ℕ) → get_or (replicate len (pos 0)) index (pos 0) ≡ pos 0
zero_at zero index = refl
zero_at (suc len) zero = refl
zero_at (suc len) (suc index) = zero_at len index

pub no_rows : (size : ℕ → ℕ) (most : ℕ) → AreRowsOf 0 size most []
no_rows size most = record { count = refl; sizes = λ row less. absurd (omega arith); small = λ row index. none_within most }

-- one row of zeros more
pub rows_more : (many len : ℕ) (size : ℕ → ℕ) (most : ℕ) (rows : List (List ℤ)) → size many ≡ len → AreRowsOf many size most rows → AreRowsOf (many + 1) size most (rows ++ replicate len (pos 0) ∷ [])
rows_more many len size most rows is so = record {
  count = (let e : length (rows ++ replicate len (pos 0) ∷ []) ≡ length rows + 1 = length-append rows (replicate len (pos 0) ∷ []) in let c : length rows ≡ many = so.count in omega (arith, e, c));
  sizes = λ row less. elim (split row many less) [
    | inl l ↦ ap length (get_or_append_left rows (replicate len (pos 0) ∷ []) [] row (inside row l)) ∙ so.sizes row l
    | inr e ↦ ap (λ n. length (get_or (rows ++ replicate len (pos 0) ∷ []) n [])) (e ∙ sym so.count) ∙ (ap length (get_or-append_seam rows (replicate len (pos 0)) [] []) ∙ (length-replicate len (pos 0) ∙ (sym is ∙ ap size (sym e))))
  ];
  small = λ row index. elim (order row many) [
    | inl l ↦ subst (λ (r : List ℤ). IsWithin most (get_or r index (pos 0))) (sym (get_or_append_left rows (replicate len (pos 0) ∷ []) [] row (inside row l))) (so.small row index)
    | inr m ↦ elim m [
      | inl e ↦ subst (IsWithin most) (sym (ap (λ n. kept_at (rows ++ replicate len (pos 0) ∷ []) n index) (e ∙ sym so.count) ∙ (ap (λ (r : List ℤ). get_or r index (pos 0)) (get_or-append_seam rows (replicate len (pos 0)) [] []) ∙ zero_at len index))) (none_within most)
      | inr g ↦ subst (IsWithin most) (sym (ap (λ (r : List ℤ). get_or r index (pos 0)) (get_or_past (rows ++ replicate len (pos 0) ∷ []) row [] (past row g)))) (none_within most)
    ]
  ];
}
  where
    split : (a b : ℕ) → a < b + 1 → (a < b) ⊎ (a ≡ b)
    split a b h = grind arith

    order : (a b : ℕ) → (a < b) ⊎ ((a ≡ b) ⊎ (b < a))
    order a b = grind arith

    inside : (row : ℕ) → row < many → row < length rows
    inside row l = let c : length rows ≡ many = so.count in omega (arith, c, l)

    past : (row : ℕ) → many < row → length (rows ++ replicate len (pos 0) ∷ []) ≤ row
    past row g = let e : length (rows ++ replicate len (pos 0) ∷ []) ≡ length rows + 1 = length-append rows (replicate len (pos 0) ∷ []) in let c : length rows ≡ many = so.count in omega (arith, e, c, g)

first_rungs : (rules : Rulebook) (count : ℕ) → 1 ≤ length rules.prices → are_rungs rules (replicate count 1) ≡ true
first_rungs rules zero some = refl
first_rungs rules (suc count) some = and_from _ _ (rung (length rules.prices) some) (first_rungs rules count some)
  where
    rung : (n : ℕ) → 1 ≤ n → (nat_le 1 1 && nat_le 1 n) ≡ true
    rung n h = grind arith

pub first_path_is : (rules : Rulebook) (path : List ℕ) (count : ℕ) → path ≡ replicate count 1 → count ≡ rules.weeks → 1 ≤ length rules.prices → IsPath rules path
first_path_is rules path count is weeks some = record {
  weeks = ap length is ∙ (length-replicate count 1 ∙ weeks);
  rungs = subst (λ p. IsTrue (are_rungs rules p)) (sym is) (first_rungs rules count some);
}

-- what holds of an answer that is there
pub ok_more : {X E : Type 0} (P Q : X → Type 0) (r : Result X E) → ((x : X) → P x → Q x) → IfOk r P → IfOk r Q
ok_more P Q (Ok x) h p = h x p
ok_more P Q (Err e) h p = p
