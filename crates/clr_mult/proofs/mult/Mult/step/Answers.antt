use Rattle.std.proofs.Common.{◌≡◌, ◌*◌, ◌-ℤ◌, ◌*ℤ◌, ◌<◌, ℤ, ℕ, pos, length, get_or, subst, sym}
use Rattle.clr_mult.specs.Rows.{AreRowsMoved}
use Rattle.clr_mult.specs.Steps.{IsSmall, direction, stepped}
use Rattle.clr_mult.specs.Tables.{EachEntry, SameSizes, Table, mult_at}
use Rattle.clr_mult.proofs.StepLemmas.{flat_small, step_entries, step_mult, step_near, step_table, with_entries}
use Rattle.clr_mult.proofs.mult.Mult.step.Goals as goal
use Rattle.clr_mult.proofs.mult.Mult.step.Goals.{After-deref, In_ok-next}

pub next_entries-requires-clause-small : goal.next_entries-requires-clause-small
next_entries-requires-clause-small c =
    subst (λ xs. (k : ℕ) → k < length xs → IsSmall 9000000000000000 (get_or xs k (pos 0))) (sym c.deref.ensures.value)
    (flat_small (record { stores = c.self.inside.stores; weeks = c.self.inside.weeks; rungs = c.self.inside.rungs; entries = c.self.inside.entries.items }) 9000000000000000 c.self.invariant.0
    (subst (λ (t : Table ℤ). EachEntry t (λ store week rung. IsSmall 9000000000000000 (mult_at t store week rung))) (sym c.self.view_is) c.requires.small))

sizes : (c : In_ok-next) → SameSizes (record { stores = c.self.inside.stores; weeks = c.self.inside.weeks; rungs = c.self.inside.rungs; entries = c.self.inside.entries.items }) c.args.usage.now
sizes c = subst (λ (t : Table ℤ). SameSizes t c.args.usage.now) (sym c.self.view_is) c.requires.sizes

rows : (c : In_ok-next) → AreRowsMoved c.args.q c.self.inside.stores (c.self.inside.weeks * c.self.inside.rungs) c.args.usage.now.entries c.self.inside.entries.items c.in_ok-next.next.items
rows c =
    subst (λ u. AreRowsMoved c.args.q c.self.inside.stores (c.self.inside.weeks * c.self.inside.rungs) u c.self.inside.entries.items c.in_ok-next.next.items) c.entries.ensures.value
    (subst (λ b. AreRowsMoved c.args.q c.self.inside.stores (c.self.inside.weeks * c.self.inside.rungs) c.entries.result.now b c.in_ok-next.next.items) c.deref.ensures.value c.in_ok-next.ensures.moved)

pub invariant_of-self : goal.invariant_of-self
invariant_of-self c =
    let at = (goal.at.invariant_of-self c).In_ok-next in
    step_mult c.args.q c.args.usage.now (record { stores = c.self.inside.stores; weeks = c.self.inside.weeks; rungs = c.self.inside.rungs; entries = c.self.inside.entries.items }) c.in_ok-next.next.items
    c.self.invariant c.entries.ensures.table (sizes at) c.in_ok-next.ensures.count (rows at)

pub returns-clause-table : goal.returns-clause-table
returns-clause-table c =
    let at = (goal.at.returns-clause-table c).In_ok-next in
    let old : Table ℤ = record { stores = c.self.inside.stores; weeks = c.self.inside.weeks; rungs = c.self.inside.rungs; entries = c.self.inside.entries.items } in
    subst (λ (t : Table ℤ). with_entries old c.in_ok-next.next.items ≡ stepped c.args.q c.args.usage.now t) c.self.view_is
    (step_table c.args.q c.args.usage.now old c.in_ok-next.next.items c.self.invariant c.entries.ensures.table (sizes at) c.in_ok-next.ensures.count (rows at))

pub returns-clause-entries : goal.returns-clause-entries
returns-clause-entries c =
    let at = (goal.at.returns-clause-entries c).In_ok-next in
    let old : Table ℤ = record { stores = c.self.inside.stores; weeks = c.self.inside.weeks; rungs = c.self.inside.rungs; entries = c.self.inside.entries.items } in
    subst (λ (t : Table ℤ). EachEntry t (λ store week rung. mult_at (with_entries old c.in_ok-next.next.items) store week rung ≡ mult_at t store week rung -ℤ pos c.args.q *ℤ direction c.args.usage.now store week rung)) c.self.view_is
    (step_entries c.args.q c.args.usage.now old c.in_ok-next.next.items c.self.invariant c.entries.ensures.table (sizes at) c.in_ok-next.ensures.count (rows at))

pub returns-clause-near : goal.returns-clause-near
returns-clause-near c =
    let at = (goal.at.returns-clause-near c).In_ok-next in
    let old : Table ℤ = record { stores = c.self.inside.stores; weeks = c.self.inside.weeks; rungs = c.self.inside.rungs; entries = c.self.inside.entries.items } in
    subst (λ (t : Table ℤ). EachEntry t (λ store week rung. IsSmall (c.args.q * 1000000) (mult_at (with_entries old c.in_ok-next.next.items) store week rung -ℤ mult_at t store week rung))) c.self.view_is
    (step_near c.args.q c.args.usage.now old c.in_ok-next.next.items c.self.invariant c.entries.ensures.table (sizes at) c.in_ok-next.ensures.count (rows at))
