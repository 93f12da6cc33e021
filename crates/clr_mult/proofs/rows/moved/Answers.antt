use Rattle.std.proofs.Common.{◌≡◌, ℕ, ◌≤◌, ◌<◌, ℤ, pos, ◌-ℤ◌, ◌*ℤ◌, SFits, to_z, of_z, ap, ◌∙◌, arith}
use Rattle.std.proofs.lemmas.Int.{ints, to_z-of_z, to_z_pos}
use mir.Syntax.{w64}
use Rattle.clr_mult.specs.Steps.{IsSmall}
use Rattle.clr_mult.proofs.Products.{small_product}
use Rattle.clr_mult.proofs.rows.moved.Goals as goal

-- the code's product is the product
product : (q : ℕ) (d : ℤ) → q ≤ 100000000 → SFits w64 d → to_z w64 q *ℤ to_z w64 (of_z w64 d) ≡ pos q *ℤ d
product q d p fits = let small : q < 9223372036854775808 = omega arith in ap (λ t. t *ℤ to_z w64 (of_z w64 d)) (to_z_pos w64 q small) ∙ ap (λ t. pos q *ℤ t) (to_z-of_z w64 d fits)

is_sub : (entry p : ℤ) → IsSmall 9000000000000000 entry → IsSmall 100000100000000 p → to_z w64 (of_z w64 (to_z w64 (of_z w64 entry) -ℤ to_z w64 (of_z w64 p))) ≡ entry -ℤ p
is_sub entry p a b = omega (arith, ints)

pub returns : goal.returns
returns c =
    ap (λ p. to_z w64 (of_z w64 (to_z w64 (of_z w64 c.args.entry) -ℤ to_z w64 (of_z w64 p)))) (product c.args.q c.args.direction c.requires.factor c.ranges.direction)
    ∙ is_sub c.args.entry (pos c.args.q *ℤ c.args.direction) c.requires.entry (small_product c.args.q c.args.direction 100000000 1000001 c.requires.factor c.requires.direction)
