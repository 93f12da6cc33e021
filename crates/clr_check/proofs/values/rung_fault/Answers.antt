use Rattle.std.proofs.Common.{◌≡◌, ◌∙◌, ◌<◌, ◌+◌, ◌-◌, ◌*ℤ◌, ◌-ℤ◌, ℤ, sym, ap₂, subst, arith, refl, length, suc, pos, get_or, slice_get, Some, true, false, to_z, of_z}
use mir.Syntax.{w128}
use Rattle.clr_average.specs.Average.{IsWithin}
use Rattle.clr_rules.specs.LiveSummaries.{at_week, leads_at}
use Rattle.clr_rules.specs.Rules.{IsInRange, next_summary}
use Rattle.clr_cert.specs.Entries.{most_entry, most_mult}
use Rattle.clr_check.proofs.Sides.{read_64, read_128}
use Rattle.clr_check.proofs.ValueLemmas.{row_entries, row_inside, rung_is, rung_off, summary_range}
use Rattle.clr_check.proofs.values.rung_fault.Goals as goal

pub lead-requires-clause-range : goal.lead-requires-clause-range
lead-requires-clause-range c = subst (λ r. IsInRange r c.args.s) (sym c.rules.ensures.value) (summary_range c.args.season.now c.args.done c.args.s c.rules.ensures.facts (omega (arith, c.requires.early)) c.requires.here)

pub row_of-after-requires : goal.row_of-after-requires
row_of-after-requires c = row_inside c.args.season.now c.args.store (suc c.args.done) c.in-Some.place (c.stock.result + 1) c.args.rows.now (next_summary c.rules.result.now c.args.s c.args.rung) c.args.live.now c.requires.live c.requires.early c.requires.rows (c.in-Some.ensures).2 (omega (arith, c.stock.ensures.value))

pub without-requires-clause-mult : goal.without-requires-clause-mult
without-requires-clause-mult c =
    let few : c.args.rung - 1 < length c.args.mults.now = omega (arith, c.requires.mults.size, c.requires.rung.0, c.requires.rung.1) in
    subst (IsWithin most_mult) (sym (read_64 (get_or c.args.mults.now (c.args.rung - 1) (pos 0)) most_mult (c.requires.mults.small (c.args.rung - 1) few) (omega arith))) (c.requires.mults.small (c.args.rung - 1) few)

pub week_sum-right-requires-clause-before : goal.week_sum-right-requires-clause-before
week_sum-right-requires-clause-before c =
    let range = summary_range c.args.season.now c.args.done c.args.s c.rules.ensures.facts (omega (arith, c.requires.early)) c.requires.here in (range.low, range.high)

pub week_sum-right-requires-clause-after : goal.week_sum-right-requires-clause-after
week_sum-right-requires-clause-after c =
    row_entries c.args.season.now c.args.store (suc c.args.done) c.in-Some.place (c.stock.result + 1) c.args.rows.now c.row_of-after.result.now c.requires.rows
    (row_inside c.args.season.now c.args.store (suc c.args.done) c.in-Some.place (c.stock.result + 1) c.args.rows.now (next_summary c.rules.result.now c.args.s c.args.rung) c.args.live.now c.requires.live c.requires.early c.requires.rows (c.in-Some.ensures).2 (omega (arith, c.stock.ensures.value)))
    (omega (arith, c.stock.ensures.value)) c.row_of-after.ensures.row c.row_of-after.ensures.size

pub returns-in-Some : goal.returns-in-Some
returns-in-Some c entries of here =
    let mult : ℤ = get_or c.args.mults.now (c.args.rung - 1) (pos 0) in
    let few : c.args.rung - 1 < length c.args.mults.now = omega (arith, c.requires.mults.size, c.requires.rung.0, c.requires.rung.1) in
    let less : c.without.result ≡ (c.args.entry -ℤ mult) = c.without.ensures.value ∙ ap₂ (λ a b. a -ℤ b) (read_128 c.args.entry most_entry c.requires.entry (omega arith)) (read_64 mult most_mult (c.requires.mults.small (c.args.rung - 1) few) (omega arith)) in
    let left : to_z w128 (of_z w128 c.scaled-left.result) ≡ (c.args.entry -ℤ mult) *ℤ pos c.args.season.now.base
    = read_128 c.scaled-left.result 2000000000000000000000000 c.scaled-left.ensures.size (omega arith) ∙ (c.scaled-left.ensures.value ∙ ap₂ (λ a b. a *ℤ pos b) (read_128 c.without.result 2000000000000000000 c.without.ensures.size (omega arith) ∙ less) c.base.ensures.value) in
    rung_is c.args.season.now entries c.args.done c.args.store c.args.rung c.args.stock c.in-Some.place (c.stock.result + 1) c.args.s c.args.entry mult (to_z w128 (of_z w128 c.scaled-left.result)) (to_z w128 (of_z w128 c.week_sum-right.result)) c.args.mults.now c.args.rows.now c.row_of-after.result.now c.args.live.now c.short_value.result
    c.requires.live c.requires.early c.requires.rung.0 c.requires.rung.1 c.requires.stock
    (subst (λ r. leads_at r c.args.done c.args.s c.args.rung ≡ true) c.rules.ensures.value (c.in-Some.ensures).0)
    (subst (λ r. slice_get (at_week (suc c.args.done) c.args.live.now) c.in-Some.place ≡ Some (next_summary r c.args.s c.args.rung)) c.rules.ensures.value (c.in-Some.ensures).2)
    (omega (arith, c.stock.ensures.value)) c.row_of-after.ensures.row left refl
    (read_128 c.week_sum-right.result 1000000000000000000000000000 c.week_sum-right.ensures.size (omega arith) ∙ c.week_sum-right.ensures.value) c.short_value.ensures of here

pub returns-in-None : goal.returns-in-None
returns-in-None c entries of here = rung_off c.args.season.now entries c.args.done c.args.store c.args.rung c.args.stock c.args.s (subst (λ r. leads_at r c.args.done c.args.s c.args.rung ≡ false) c.rules.ensures.value c.in-None.ensures)
