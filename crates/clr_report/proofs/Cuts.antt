-- A text of lines tells their words.
use Rattle.std.proofs.Common.{◌≡◌, ℕ, ◌≤◌, List, [], ◌∷◌, ◌++◌, refl, sym, ap, ◌∙◌, arith, append_assoc}
use Rattle.std.specs.List.{AllByRecursion, flat_map}
use Rattle.clr_num.proofs.Fields.{Above}
use Rattle.clr_report.specs.Lines.{line, words_joined}

-- every word has only bytes above the space
abbrev pub AreWords : List (List ℕ) → Type 0
AreWords words = AllByRecursion (λ w. Above 32 w) words

-- a field ends at the first byte that is not above the bound
first_cut : (c s t : ℕ) (xs us ys vs : List ℕ) → s ≤ c → t ≤ c → Above c xs → Above c us → xs ++ s ∷ ys ≡ us ++ t ∷ vs → (xs ≡ us) × (s ≡ t) × (ys ≡ vs)
first_cut c s t [] [] ys vs h k p q e = (refl, cc, cc)
first_cut c s t [] (u ∷ us) ys vs h k p q e = let first : s ≡ u = cc in absurd (omega (arith, q.0))
first_cut c s t (x ∷ xs) [] ys vs h k p q e = let first : x ≡ t = cc in absurd (omega (arith, p.0))
first_cut c s t (x ∷ xs) (u ∷ us) ys vs h k p q e =
    let first : x ≡ u = cc in
    let rest : xs ++ s ∷ ys ≡ us ++ t ∷ vs = cc in
    let both = first_cut c s t xs us ys vs h k p.1 q.1 rest in
    (cc (first, both.0), both.1, both.2)

-- the line of one word, and of a word before others
one_word : (x ys : List ℕ) → line (x ∷ []) ++ ys ≡ x ++ 10 ∷ ys
one_word x ys = append_assoc x (10 ∷ []) ys

more_words : (x y : List ℕ) (xs : List (List ℕ)) (ys : List ℕ) → line (x ∷ y ∷ xs) ++ ys ≡ x ++ 32 ∷ (line (y ∷ xs) ++ ys)
more_words x y xs ys = ap (λ t. t ++ ys) (append_assoc x (32 ∷ words_joined (y ∷ xs)) (10 ∷ [])) ∙ append_assoc x (32 ∷ line (y ∷ xs)) ys

-- two texts that begin with a line have the same words there, and the same rest
cut_line : (x u : List ℕ) (xs us : List (List ℕ)) (ys vs : List ℕ) → AreWords (x ∷ xs) → AreWords (u ∷ us) → line (x ∷ xs) ++ ys ≡ line (u ∷ us) ++ vs → (x ∷ xs ≡ u ∷ us) × (ys ≡ vs)
cut_line x u [] [] ys vs p q e =
    let parts = first_cut 32 10 10 x u ys vs (omega arith) (omega arith) p.0 q.0 (sym (one_word x ys) ∙ (e ∙ one_word u vs)) in
    (ap (λ w. w ∷ []) parts.0, parts.2)
cut_line x u [] (w ∷ us) ys vs p q e =
    let parts = first_cut 32 10 32 x u ys (line (w ∷ us) ++ vs) (omega arith) (omega arith) p.0 q.0 (sym (one_word x ys) ∙ (e ∙ more_words u w us vs)) in
    absurd (omega (arith, parts.1))
cut_line x u (y ∷ xs) [] ys vs p q e =
    let parts = first_cut 32 32 10 x u (line (y ∷ xs) ++ ys) vs (omega arith) (omega arith) p.0 q.0 (sym (more_words x y xs ys) ∙ (e ∙ one_word u vs)) in
    absurd (omega (arith, parts.1))
cut_line x u (y ∷ xs) (w ∷ us) ys vs p q e =
    let parts = first_cut 32 32 32 x u (line (y ∷ xs) ++ ys) (line (w ∷ us) ++ vs) (omega arith) (omega arith) p.0 q.0 (sym (more_words x y xs ys) ∙ (e ∙ more_words u w us vs)) in
    let rest = cut_line y w xs us ys vs p.1 q.1 parts.2 in
    (cc (parts.0, rest.0), rest.1)

-- ---- texts of lines

-- a line has a word, and every word of it only bytes above the space
abbrev pub HasWords : List (List ℕ) → Type 0
HasWords [] = ⊥
HasWords (x ∷ xs) = AreWords (x ∷ xs)

abbrev pub AreLines : List (List (List ℕ)) → Type 0
AreLines lines = AllByRecursion HasWords lines

no_byte : (x ys : List ℕ) (c : ℕ) → [] ≡ x ++ c ∷ ys → ⊥
no_byte [] ys c e = cc
no_byte (b ∷ x) ys c e = cc

no_line : (x : List ℕ) (xs : List (List ℕ)) (ys : List ℕ) → [] ≡ line (x ∷ xs) ++ ys → ⊥
no_line x [] ys e = no_byte x ys 10 (e ∙ one_word x ys)
no_line x (y ∷ xs) ys e = no_byte x (line (y ∷ xs) ++ ys) 32 (e ∙ more_words x y xs ys)

-- a text of lines tells the words of each
pub lines_determine : (lines others : List (List (List ℕ))) → AreLines lines → AreLines others → flat_map line lines ≡ flat_map line others → lines ≡ others
lines_determine [] [] p q e = refl
lines_determine [] ([] ∷ others) p q e = absurd q.0
lines_determine [] ((x ∷ xs) ∷ others) p q e = absurd (no_line x xs (flat_map line others) e)
lines_determine ([] ∷ lines) others p q e = absurd p.0
lines_determine ((x ∷ xs) ∷ lines) [] p q e = absurd (no_line x xs (flat_map line lines) (sym e))
lines_determine ((x ∷ xs) ∷ lines) ([] ∷ others) p q e = absurd q.0
lines_determine ((x ∷ xs) ∷ lines) ((u ∷ us) ∷ others) p q e =
    let both = cut_line x u xs us (flat_map line lines) (flat_map line others) p.0 q.0 e in
    let rest : lines ≡ others = lines_determine lines others p.1 q.1 both.1 in
    let first : x ∷ xs ≡ u ∷ us = both.0 in
    cc
