use Rattle.std.proofs.Common.{◌≡◌, ◌∙◌, ◌<◌, ◌+◌, ℕ, sym, ap, arith, ◌⊎◌, inl, inr}
use Rattle.clr_cert.specs.Entries.{most_entry}
use Rattle.clr_check.specs.Faults.{first_fault, rung_conditions}
use Rattle.clr_check.proofs.Firsts.{none_is}
use Rattle.clr_check.proofs.Sides.{read_128}
use Rattle.clr_check.proofs.ValueLemmas.{stock_found, stock_none}
use Rattle.clr_check.proofs.values.stock_fault.Goals as goal

split : (a b : ℕ) → a < b + 1 → (a < b) ⊎ (b ≡ a)
split a b h = grind arith

pub returns-then-is_some : goal.returns-then-is_some
returns-then-is_some c entries of here =
    stock_found c.args.season.now entries c.args.done c.args.store c.args.s c.args.stock c.requires.early c.loop-rung.rung c.rung_fault-fault.result c.loop-rung.auto.rung (omega (arith, c.loop-rung-test.true, c.rungs-rung-end.ensures.value))
    (c.loop-rung.invariant entries of (here ∙ sym (read_128 c.args.entry most_entry c.requires.entry (omega arith)))) (c.rung_fault-fault.ensures entries of (here ∙ sym (read_128 c.args.entry most_entry c.requires.entry (omega arith)))) (sym c.if-is_some.ensures)

pub loop-rung-preserved : goal.loop-rung-preserved
loop-rung-preserved c entries of here k low less =
    elim (split k c.loop-rung.rung less) [
      | inl l ↦ c.loop-rung.invariant entries of here k low l
      | inr e ↦ ap (λ n. first_fault (rung_conditions c.args.season.now entries c.args.done c.args.store c.args.s c.args.stock n)) (sym e) ∙ (sym (c.rung_fault-fault.ensures entries of here) ∙ none_is c.rung_fault-fault.result (sym c.if-is_some.ensures))
    ]

pub returns : goal.returns
returns c entries of here = stock_none c.args.season.now entries c.args.done c.args.store c.args.s c.args.stock c.requires.early (λ k low less. c.loop-rung.invariant entries of (here ∙ sym (read_128 c.args.entry most_entry c.requires.entry (omega arith))) k low (omega (arith, less, c.loop-rung-test.false, c.rungs-rung-end.ensures.value)))
