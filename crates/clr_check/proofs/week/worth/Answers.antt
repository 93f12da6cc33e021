use Rattle.std.proofs.Common.{arith, ◌∙◌, pos, ◌*◌, ◌≤◌, sym, ap₂, subst, refl}
use Rattle.clr_average.specs.Average.{IsWithin}
use Rattle.clr_model.specs.Revenue.{cent}
use Rattle.clr_average.proofs.Within.{within_more, within_pos}
use Rattle.clr_check.proofs.Sides.{read_128, worth_fits, worth_is}
use Rattle.clr_check.proofs.week.worth.Goals as goal

pub overflow_mul-unit-2 : goal.overflow_mul-unit-2
overflow_mul-unit-2 c =
    let p : 1000000 * c.salvage-unit.result * c.from.result ≤ 20000000000000000 = worth_fits c.salvage-unit.result c.from.result c.salvage-unit.ensures.range (omega (arith, c.from.ensures, c.requires.stock, c.if-prove.false, c.stock.ensures.range, c.stock.ensures.value)) in
    omega (arith, p)

pub returns-clause-value : goal.returns-clause-value
returns-clause-value c =
    let small : 1000000 * c.salvage-unit.result * c.from.result ≤ 20000000000000000 = worth_fits c.salvage-unit.result c.from.result c.salvage-unit.ensures.range (omega (arith, c.from.ensures, c.requires.stock, c.if-prove.false, c.stock.ensures.range, c.stock.ensures.value)) in
    read_128 c.from-2.result 20000000000000000 (subst (IsWithin 20000000000000000) (sym c.from-2.ensures) (within_pos 20000000000000000 (1000000 * c.salvage-unit.result * c.from.result) small)) (omega arith)
    ∙ (c.from-2.ensures ∙ (worth_is (1000000 * c.salvage-unit.result) c.salvage-unit.result c.from.result refl ∙ ap₂ (λ a b. pos (cent * (a * b))) c.salvage-unit.ensures.value c.from.ensures))

pub returns-clause-size : goal.returns-clause-size
returns-clause-size c =
    let small : 1000000 * c.salvage-unit.result * c.from.result ≤ 20000000000000000 = worth_fits c.salvage-unit.result c.from.result c.salvage-unit.ensures.range (omega (arith, c.from.ensures, c.requires.stock, c.if-prove.false, c.stock.ensures.range, c.stock.ensures.value)) in
    let within : IsWithin 20000000000000000 c.from-2.result = subst (IsWithin 20000000000000000) (sym c.from-2.ensures) (within_pos 20000000000000000 (1000000 * c.salvage-unit.result * c.from.result) small) in
    subst (IsWithin 1000000000000000000000000000) (sym (read_128 c.from-2.result 20000000000000000 within (omega arith))) (within_more 20000000000000000 1000000000000000000000000000 c.from-2.result within (omega arith))
