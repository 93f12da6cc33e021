-- The lines of a text of lines, and what stands after the last line feed.
use Rattle.std.proofs.Common.{◌≡◌, ℕ, ◌-◌, Bool, true, false, cond, ◌==◌, ◌||◌, refl, ap, ◌∙◌, arith, suc, List, [], ◌∷◌, ◌++◌, length, get_or, take, append_assoc}
use Rattle.std.specs.List.{AllByRecursion}
use Rattle.std.proofs.Math.Seq.{get_or-append_seam}
use Rattle.clr_cert.specs.Reading.{ended_lines, onto_first, pieces_of, unended}
use Rattle.clr_check.specs.Standing.{IsLine, ended_text, has_feed}
use Rattle.clr_check.proofs.Coming.{length-more}

neither : (a b : Bool) → (a || b) ≡ false → (a ≡ false) × (b ≡ false)
neither true b h = cc
neither false b h = (refl, h)

piece_before : (line more : List ℕ) → IsLine line → pieces_of 10 (line ++ 10 ∷ more) ≡ line ∷ pieces_of 10 more
piece_before [] more h = refl
piece_before (byte ∷ line) more h =
    let parts = neither (byte == 10) (has_feed line) h in
    ap (λ b. cond b ([] ∷ pieces_of 10 (line ++ 10 ∷ more)) (onto_first byte (pieces_of 10 (line ++ 10 ∷ more)))) parts.0
    ∙ ap (onto_first byte) (piece_before line more parts.1)

last_piece : (bytes : List ℕ) → IsLine bytes → pieces_of 10 bytes ≡ bytes ∷ []
last_piece [] h = refl
last_piece (byte ∷ bytes) h =
    let parts = neither (byte == 10) (has_feed bytes) h in
    ap (λ b. cond b ([] ∷ pieces_of 10 bytes) (onto_first byte (pieces_of 10 bytes))) parts.0 ∙ ap (onto_first byte) (last_piece bytes parts.1)

all_pieces : (lines : List (List ℕ)) (bytes : List ℕ) → AllByRecursion IsLine lines → IsLine bytes → pieces_of 10 (ended_text lines ++ bytes) ≡ lines ++ bytes ∷ []
all_pieces [] bytes all rest = last_piece bytes rest
all_pieces (line ∷ lines) bytes all rest =
    ap (pieces_of 10) (append_assoc (line ++ 10 ∷ []) (ended_text lines) bytes ∙ append_assoc line (10 ∷ []) (ended_text lines ++ bytes))
    ∙ (piece_before line (ended_text lines ++ bytes) all.0 ∙ ap (λ ls. line ∷ ls) (all_pieces lines bytes all.1 rest))

take_front : {X : Type 0} (xs ys : List X) → take (length xs) (xs ++ ys) ≡ xs
take_front [] ys = refl
take_front (x ∷ xs) ys = ap (λ zs. x ∷ zs) (take_front xs ys)

one_less : (n m : ℕ) → n ≡ suc m → n - 1 ≡ m
one_less n m h = omega (arith, h)

module _ (lines : List (List ℕ)) (bytes : List ℕ) (all : AllByRecursion IsLine lines) (rest : IsLine bytes) where
  last_at : length (pieces_of 10 (ended_text lines ++ bytes)) - 1 ≡ length lines
  last_at = one_less _ (length lines) (ap length (all_pieces lines bytes all rest) ∙ length-more lines bytes)

  pub ended_are : ended_lines (ended_text lines ++ bytes) ≡ lines
  ended_are =
      ap (λ n. take n (pieces_of 10 (ended_text lines ++ bytes))) last_at
      ∙ (ap (take (length lines)) (all_pieces lines bytes all rest) ∙ take_front lines (bytes ∷ []))

  pub unended_is : unended (ended_text lines ++ bytes) ≡ bytes
  unended_is =
      ap (λ n. get_or (pieces_of 10 (ended_text lines ++ bytes)) n []) last_at
      ∙ (ap (λ (ls : List (List ℕ)). get_or ls (length lines) []) (all_pieces lines bytes all rest) ∙ get_or-append_seam lines bytes [] [])
