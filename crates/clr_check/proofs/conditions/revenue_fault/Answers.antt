use Rattle.std.proofs.Common.{◌∙◌, ap₂, arith, [], ◌∷◌, ◌*◌}
use Rattle.clr_cert.specs.Conditions.{total}
use Rattle.clr_cert.specs.Entries.{most_entry}
use Rattle.clr_check.specs.Faults.{first_fault}
use Rattle.clr_check.proofs.ConditionsLemmas.{revenue_is}
use Rattle.clr_check.proofs.Sides.{read_128}
use Rattle.clr_check.proofs.conditions.revenue_fault.Goals as goal

pub returns : goal.returns
returns c lines row kept =
    revenue_is c.args.season.now lines row c.args.tables.now c.args.numbers.now c.totals_fault.result c.stores.ensures.facts c.opening_total-low.result c.opening_total-high.result c.opening_total-low.ensures.value c.opening_total-high.ensures.value
    (c.totals_fault.ensures ∙ ap₂ (λ a b. first_fault (total c.args.numbers.now 0 a ∷ total c.args.numbers.now 1 b ∷ [])) (read_128 c.opening_total-low.result (64 * most_entry) c.opening_total-low.ensures.size (omega arith)) (read_128 c.opening_total-high.result (64 * most_entry) c.opening_total-high.ensures.size (omega arith))) kept
