use Rattle.std.proofs.Common.{◌∙◌, sym, ap₂, [], ◌∷◌, arith}
use Rattle.std.proofs.lemmas.Int.{to_z-of_z}
use mir.Syntax.{w128}
use Rattle.clr_cert.specs.Conditions.{equal}
use Rattle.clr_cert.specs.declared.no.NoKind.TheVariants as kind
use Rattle.clr_check.specs.Faults.{first_fault}
use Rattle.clr_check.proofs.ConditionsLemmas.{first_total, second_total, total_read}
use Rattle.clr_check.proofs.conditions.totals_fault.Goals as goal

pub returns-then-is_some : goal.returns-then-is_some
returns-then-is_some c =
    first_total c.args.numbers.now c.args.low c.args.high c.total_fault-fault.result
    (c.total_fault-fault.ensures ∙ ap₂ (λ a b. first_fault (equal kind.Total a b ∷ [])) (total_read c.args.numbers.now 0 c.requires.range (omega (arith, c.requires.count))) (to_z-of_z w128 c.args.low c.ranges.low))
    (sym c.if-is_some.ensures)

pub returns : goal.returns
returns c =
    second_total c.args.numbers.now c.args.low c.args.high c.total_fault-fault.result c.total_fault.result
    (c.total_fault-fault.ensures ∙ ap₂ (λ a b. first_fault (equal kind.Total a b ∷ [])) (total_read c.args.numbers.now 0 c.requires.range (omega (arith, c.requires.count))) (to_z-of_z w128 c.args.low c.ranges.low))
    (sym c.is_some.ensures ∙ c.if-is_some.false)
    (c.total_fault.ensures ∙ ap₂ (λ a b. first_fault (equal kind.Total a b ∷ [])) (total_read c.args.numbers.now 1 c.requires.range (omega (arith, c.requires.count))) (to_z-of_z w128 c.args.high c.ranges.high))
