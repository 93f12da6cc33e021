use Rattle.std.proofs.Common.{◌≡◌, ◌≤◌, ℕ, ◌+◌, ◌-◌, List, ◌++◌, length, length-drop, take, drop, slice_range, arith, ap, sym, ◌∙◌, Option}
use Rattle.std.specs.Io.KnownBytes.{Consumes}
use Rattle.std.proofs.lemmas.List.{drop-drop, drop-take, length-take, take-append-le, take_all}
use Rattle.std.proofs.Math.Seq.{take-add}
use Rattle.clr_io.specs.ReadBuffer.{TakesPiece}

-- a part without its first bytes
pub range_after : (bytes : List ℕ) (start end count : ℕ) → start + count ≤ end → slice_range bytes (start + count) end ≡ drop count (slice_range bytes start end)
range_after bytes start end count within =
    let is : end - start ≡ count + (end - (start + count)) = omega arith in
    sym (ap (λ n. drop count (take n (drop start bytes))) is ∙ drop-take count (end - (start + count)) (drop start bytes) ∙ ap (take (end - (start + count))) (drop-drop count start bytes))

-- bytes of the same number are laid over all others
pub laid_over : (items new : List ℕ) (n : ℕ) → length new ≡ length items → n ≡ length items → take n (new ++ drop (length new) items) ≡ new
laid_over items new n same is = take-append-le n new (drop (length new) items) (omega arith) ∙ take_all n new (omega arith)

-- a front, and a piece behind it
pub piece_taken : (held bytes : List ℕ) (k n : ℕ) (rest rest' : Option (List ℕ)) → take k bytes ≡ held → k + n ≤ length bytes → Consumes rest rest' (slice_range bytes k (k + n)) → TakesPiece held (slice_range bytes 0 (k + n)) rest rest' n
piece_taken held bytes k n rest rest' front within consumes =
    let some : (k + n) - k ≡ n = omega arith in
    let all : (k + n) - 0 ≡ k + n = omega arith in
    let behind : slice_range bytes k (k + n) ≡ take n (drop k bytes) = ap (λ m. take m (drop k bytes)) some in
    record {
      piece = slice_range bytes k (k + n);
      size = ap length behind ∙ omega (arith, length-take n (drop k bytes), length-drop k bytes);
      grows = ap (λ m. take m bytes) all ∙ take-add k n bytes ∙ ap (λ l. l ++ take n (drop k bytes)) front ∙ ap (λ l. held ++ l) (sym behind);
      consumes = consumes;
    }

-- so many bytes lie within a part
pub fits_part : (bytes held : List ℕ) (start end count : ℕ) → slice_range bytes start end ≡ held → start ≤ end → count ≤ length held → start + count ≤ end
fits_part bytes held start end count is ordered within =
    let short : length held ≤ end - start = rw (← is) (omega (arith, length-take (end - start) (drop start bytes))) in
    omega arith

-- a part that is held, without its first bytes
pub held_after : (bytes held : List ℕ) (start end count : ℕ) → slice_range bytes start end ≡ held → start ≤ end → count ≤ length held → slice_range bytes (start + count) end ≡ drop count held
held_after bytes held start end count is ordered within =
    range_after bytes start end count (fits_part bytes held start end count is ordered within) ∙ ap (drop count) is
