use Rattle.std.proofs.Common.{◌≡◌, ◌∙◌, ◌<◌, ◌≤◌, ℕ, sym, subst, arith, below_more, length, suc, ◌⊎◌, inl, inr}
use Rattle.clr_season.specs.Season.{store_at}
use Rattle.clr_check.specs.Faults.{compare_by}
use Rattle.clr_check.proofs.EntryLemmas.{entries_first, entries_none, fault_at, rung_on}
use Rattle.clr_check.proofs.faults.entry_fault.Goals as goal

split : (a b : ℕ) → a ≤ b → (a < b) ⊎ (a ≡ b)
split a b h = grind arith

pub entry_sides-left-requires-clause-before : goal.entry_sides-left-requires-clause-before
entry_sides-left-requires-clause-before c =
    subst (λ n. (1 ≤ n) × (n ≤ length c.args.season.now.rules.prices)) (sym c.rungs_round-before.ensures.before)
    (rung_on c.args.season.now.rules c.args.path.now c.args.done c.weeks.ensures.facts.rules.ladder.some c.requires.path (omega (arith, c.requires.path.weeks, c.requires.early)))

pub entry_sides-left-requires-clause-rung : goal.entry_sides-left-requires-clause-rung
entry_sides-left-requires-clause-rung c =
    elim (split c.args.done (length c.args.path.now) (omega (arith, c.requires.path.weeks, c.requires.early))) [
      | inl l ↦ subst (λ n. (1 ≤ n) × (n ≤ length c.args.season.now.rules.prices)) (sym (c.rungs_round-before.ensures.rung l)) (rung_on c.args.season.now.rules c.args.path.now (suc c.args.done) c.weeks.ensures.facts.rules.ladder.some c.requires.path l)
      | inr e ↦ subst (λ n. (1 ≤ n) × (n ≤ length c.args.season.now.rules.prices)) (sym (c.rungs_round-before.ensures.last e)) (omega arith, c.weeks.ensures.facts.rules.ladder.some)
    ]

pub returns-in-Some : goal.returns-in-Some
returns-in-Some c table here next =
    let inside : c.loop-stock.stock < suc (store_at c.args.season.now c.args.store).units = omega (arith, c.loop-stock-test.true, c.stock-stock-end.ensures.value) in
    sym (entries_first (compare_by c.args.bound) c.args.season.now c.args.path.now table c.args.done c.args.store c.rungs_round-before.result.0 c.rungs_round-before.result.1 c.args.entries.now c.args.after.now c.requires.early c.rungs_round-before.ensures.before
    (λ l. c.rungs_round-before.ensures.rung (omega (arith, l, c.requires.path.weeks))) here next
    c.loop-stock.stock c.in-Some.fault inside c.loop-stock.invariant
    (sym (fault_at c.args.bound c.args.season.now c.args.done c.args.store c.rungs_round-before.result.0 c.rungs_round-before.result.1 c.loop-stock.stock c.args.entries.now c.args.after.now c.entry_sides-left.result.0 c.entry_sides-left.result.1 c.bad_entry.result c.requires.entries.small (omega (arith, inside, c.requires.entries.size)) c.entry_sides-left.ensures.left c.entry_sides-left.ensures.right c.entry_sides-left.ensures.left_size c.entry_sides-left.ensures.right_size c.bad_entry.ensures) ∙ c.in-Some.is))

pub loop-stock-preserved : goal.loop-stock-preserved
loop-stock-preserved c =
    let inside : c.loop-stock.stock < suc (store_at c.args.season.now c.args.store).units = omega (arith, c.loop-stock-test.true, c.stock-stock-end.ensures.value) in
    below_more _ _ c.loop-stock.invariant
    (sym (fault_at c.args.bound c.args.season.now c.args.done c.args.store c.rungs_round-before.result.0 c.rungs_round-before.result.1 c.loop-stock.stock c.args.entries.now c.args.after.now c.entry_sides-left.result.0 c.entry_sides-left.result.1 c.bad_entry.result c.requires.entries.small (omega (arith, inside, c.requires.entries.size)) c.entry_sides-left.ensures.left c.entry_sides-left.ensures.right c.entry_sides-left.ensures.left_size c.entry_sides-left.ensures.right_size c.bad_entry.ensures) ∙ c.in_default.is)

pub returns : goal.returns
returns c table here next =
    sym (entries_none (compare_by c.args.bound) c.args.season.now c.args.path.now table c.args.done c.args.store c.rungs_round-before.result.0 c.rungs_round-before.result.1 c.args.entries.now c.args.after.now c.requires.early c.rungs_round-before.ensures.before
    (λ l. c.rungs_round-before.ensures.rung (omega (arith, l, c.requires.path.weeks))) here next (λ k less. c.loop-stock.invariant k (omega (arith, less, c.loop-stock-test.false, c.stock-stock-end.ensures.value))))
