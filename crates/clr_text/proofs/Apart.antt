-- Names that differ from one another.
use Rattle.std.proofs.Common.{◌≡◌, ◌≢◌, ◌<◌, ◌+◌, ◌∙◌, ℕ, zero, suc, List, [], ◌∷◌, ◌++◌, length, get_or, Bool, true, false, refl, sym, inl, inr, arith, length-append}
use Rattle.std.specs.Prelude.{◌||◌, if◌then◌else◌}
use Rattle.std.specs.List.{list_any}
use Rattle.std.proofs.lemmas.Bool.{cases_lt}
use Rattle.std.specs.Str.{bytes_eq}
use Rattle.std.proofs.Math.Seq.{get_or-append_seam}
use Rattle.std.proofs.lemmas.List.{get_or_append_left}
use Rattle.std.proofs.lemmas.Slice.Eq.{bytes_eq-Decides}
use Rattle.clr_text.specs.Names.{AreDistinct, is_held, with_name}
use Rattle.clr_text.proofs.Places.{held-any}

neither : (a b : Bool) → (a || b) ≡ false → (a ≡ false) × (b ≡ false)
neither true b e = cc e
neither false b e = (refl, e)

other-any : (names : List (List ℕ)) (name : List ℕ) (k : ℕ) (d : List ℕ) → list_any (λ n. bytes_eq name n) names ≡ false → k < length names → get_or names k d ≢ name
other-any [] name k d none less = absurd (omega arith)
other-any (x ∷ names) name zero d none less = λ same. let here = (neither (bytes_eq name x) (list_any (λ n. bytes_eq name n) names) none).0 in
    let equal : bytes_eq name x ≡ true = (bytes_eq-Decides name x).1 (sym same) in cc (here, equal)
other-any (x ∷ names) name (suc k) d none less =
    let under : k < length names = omega arith in
    other-any names name k d (neither (bytes_eq name x) (list_any (λ n. bytes_eq name n) names) none).1 under

-- a name that isn't held is none of them
pub other-held : (names : List (List ℕ)) (name : List ℕ) (k : ℕ) (d : List ℕ) → is_held names name ≡ false → k < length names → get_or names k d ≢ name
other-held names name k d free less = other-any names name k d (sym (held-any names name) ∙ free) less

-- a name more, which isn't held
pub distinct-more : (names : List (List ℕ)) (name : List ℕ) → AreDistinct names → is_held names name ≡ false → AreDistinct (names ++ name ∷ [])
distinct-more names name apart free i j d below less =
    let all : length (names ++ name ∷ []) ≡ length names + 1 = length-append names (name ∷ []) in
    let start : i < length names = omega (arith, all) in
    let first : get_or (names ++ name ∷ []) i d ≡ get_or names i d = get_or_append_left names (name ∷ []) d i start in
    elim (cases_lt j (length names)) [
      | inl within ↦ rw (first, get_or_append_left names (name ∷ []) d j within) (apart i j d below within)
      | inr past ↦
          let last : j ≡ length names = omega (arith, all) in
          rw (first, last, get_or-append_seam names name [] d) (other-held names name i d free start)
    ]

-- the names with one more, unless it is held
pub distinct-with_name : (names : List (List ℕ)) (name : List ℕ) → AreDistinct names → AreDistinct (with_name names name)
distinct-with_name names name apart =
    let cases : (b : Bool) → is_held names name ≡ b → AreDistinct (if b then names else names ++ name ∷ []) = elim [
      | true ↦ λ held. apart
      | false ↦ λ free. distinct-more names name apart free
    ] in
    cases (is_held names name) refl

-- no names
pub distinct-none : AreDistinct []
distinct-none i j d below less = absurd (omega arith)
