use Rattle.std.proofs.Common.{◌∙◌, ap₂, arith, [], ◌∷◌}
use Rattle.std.proofs.lemmas.Int.{to_z-of_z}
use mir.Syntax.{w128}
use Rattle.clr_cert.specs.Conditions.{equal}
use Rattle.clr_cert.specs.declared.no.NoKind.TheVariants as kind
use Rattle.clr_check.specs.Faults.{first_fault}
use Rattle.clr_check.proofs.ConditionsLemmas.{bound_is, bound_none, opening_at, opening_none, total_read, value_room}
use Rattle.clr_check.proofs.conditions.bound_fault.Goals.{in-Some, in-None}
use Rattle.clr_check.proofs.conditions.bound_fault.Goals as goal

pub value_total-sum-requires-clause-room : goal.value_total-sum-requires-clause-room
value_total-sum-requires-clause-room c store low high =
    value_room c.args.season.now c.args.live.now c.in-Some.place store c.start.result c.args.tables.now c.requires.live (c.find.ensures.found c.in-Some.place c.in-Some.is) low high c.requires.tables

pub returns : goal.returns
returns c lines row kept =
    elim c.match-find.branch [
      | in-Some w ↦
          bound_is c.args.season.now lines row c.args.tables.now c.args.numbers.now c.total_fault.result c.rules.ensures.facts w.in-Some.place w.value_total-sum.result
          (opening_at c.args.season.now c.args.live.now w.in-Some.place c.start.result c.rules.result.now c.requires.live c.rules.ensures.value c.start.ensures (c.find.ensures.found w.in-Some.place w.in-Some.is)) w.value_total-sum.ensures.value
          (c.total_fault.ensures ∙ ap₂ (λ a b. first_fault (equal kind.Total a b ∷ [])) (total_read c.args.numbers.now 0 c.requires.range (omega (arith, c.requires.count))) (w.sum-is ∙ to_z-of_z w128 w.value_total-sum.result (record { sfits = w.value_total-sum.type_inv }))) kept
      | in-None w ↦
          bound_none c.args.season.now lines row c.args.tables.now c.args.numbers.now c.total_fault.result c.rules.ensures.facts
          (opening_none c.args.season.now c.args.live.now c.start.result c.rules.result.now c.find.result c.requires.live c.rules.ensures.value c.start.ensures c.find.ensures.listed w.in-None.is)
          (c.total_fault.ensures ∙ ap₂ (λ a b. first_fault (equal kind.Total a b ∷ [])) (total_read c.args.numbers.now 0 c.requires.range (omega (arith, c.requires.count))) w.sum-is)
    ]
