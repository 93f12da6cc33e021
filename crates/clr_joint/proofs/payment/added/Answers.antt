use Rattle.std.proofs.Common.{◌≡◌, ℕ, ◌≤◌, pos, neg_ℤ, ◌-ℤ◌, ap, sym, ◌∙◌, subst, arith, to_z, of_z}
use Rattle.std.proofs.lemmas.Int.{ints}
use mir.Syntax.{w64}
use Rattle.clr_average.specs.Average.{IsWithin}
use Rattle.clr_joint.proofs.payment.added.Goals as goal

read : (cost : ℕ) → cost ≤ 1000000000000000 → to_z w64 (of_z w64 (pos 0 -ℤ to_z w64 cost)) ≡ neg_ℤ (pos cost)
read cost le = omega (arith, ints)

sized : (cost : ℕ) → cost ≤ 1000000000000000 → IsWithin 1000000000000000000 (neg_ℤ (pos cost))
sized cost le = record { low = omega (arith, ints); high = omega (arith, ints) }

pub returns-clause-value : goal.returns-clause-value
returns-clause-value c = read c.cost_of_all.result c.cost_of_all.ensures.range ∙ ap neg_ℤ c.cost_of_all.ensures.value

pub returns-clause-size : goal.returns-clause-size
returns-clause-size c = subst (IsWithin 1000000000000000000) (sym (read c.cost_of_all.result c.cost_of_all.ensures.range)) (sized c.cost_of_all.result c.cost_of_all.ensures.range)
