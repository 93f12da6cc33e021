-- Sums and products at a width, read back.
use Rattle.std.proofs.Common.{◌≡◌, ◌-◌, ◌^◌, ℤ, pos, negsuc, neg_ℤ, ◌+ℤ◌, ◌*ℤ◌, ◌≤ℤ◌, ap, ap₂, ◌∙◌, arith, to_z, of_z, SFits}
use Rattle.std.proofs.lemmas.Int.{ints, to_z-of_z}
use mir.Syntax.{Width, w128}
use Rattle.clr_average.specs.Average.{IsWithin}

abbrev pub read : Width → ℤ → ℤ
read w z = to_z w (of_z w z)

pub within_128 : (z : ℤ) → IsWithin (2 ^ 127 - 1) z → SFits w128 z
within_128 (pos a) h = let top : pos a ≤ℤ pos (2 ^ 127 - 1) = h.high in record { sfits = omega (arith, ints) }
within_128 (negsuc a) h = let low : neg_ℤ (pos (2 ^ 127 - 1)) ≤ℤ negsuc a = h.low in record { sfits = omega (arith, ints) }

pub plus_read : (s f v t u : ℤ) → f ≡ t → v ≡ u → SFits w128 s → SFits w128 f → SFits w128 v → SFits w128 (t *ℤ u) → SFits w128 (s +ℤ t *ℤ u) →
    read w128 (read w128 s +ℤ read w128 (read w128 f *ℤ read w128 v)) ≡ s +ℤ t *ℤ u
plus_read s f v t u e d fs ff fv fp ft =
    let product : read w128 (read w128 f *ℤ read w128 v) ≡ t *ℤ u = ap (read w128) (ap₂ ◌*ℤ◌ (to_z-of_z w128 f ff ∙ e) (to_z-of_z w128 v fv ∙ d)) ∙ to_z-of_z w128 (t *ℤ u) fp in
    ap (read w128) (ap₂ ◌+ℤ◌ (to_z-of_z w128 s fs) product) ∙ to_z-of_z w128 (s +ℤ t *ℤ u) ft
