use Rattle.std.proofs.Common.{◌≡◌, ℕ, ◌+◌, get_or, subst, sym}
use Rattle.std.proofs.Math.ListN.{set}
use Rattle.clr_mult.specs.Tables.{Table, Within, place, usage_at}
use Rattle.clr_mult.proofs.Places.{write_there}
use Rattle.clr_mult.proofs.usage.Usage.add.Goals as goal

pub returns-clause-others : goal.returns-clause-others
returns-clause-others c = λ s w r other differ.
    let inside = c.self.inside in
    let x : ℕ = c.index_mut.result.now + c.args.mass in
    subst (λ (t : Table ℕ). Within t.stores t.weeks t.rungs c.args.store c.args.week c.args.rung → Within t.stores t.weeks t.rungs s w r → get_or (set inside.entries.items c.place-at.result x) (place inside.stores inside.rungs s w r) 0 ≡ usage_at t s w r) c.self.view_is
    (λ here there. subst (λ k. get_or (set inside.entries.items k x) (place inside.stores inside.rungs s w r) 0 ≡ get_or inside.entries.items (place inside.stores inside.rungs s w r) 0) (sym c.place-at.ensures.value)
    (write_there inside.stores inside.weeks inside.rungs c.args.store c.args.week c.args.rung s w r x inside.entries.items here there differ))
    c.requires.within other
