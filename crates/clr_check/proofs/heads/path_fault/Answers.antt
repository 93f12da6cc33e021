use Rattle.std.proofs.Common.{◌≡◌, ◌∙◌, ◌<◌, ◌≤◌, ◌+◌, ℕ, sym, ap, ap₂, subst, subst₂, arith, suc, take, true, false, length, pos, Some, add-one, ◌⊎◌, inl, inr, to_z, of_z}
use mir.Syntax.{w128}
use Rattle.clr_cert.specs.declared.no.NoKind.TheVariants as kind
use Rattle.clr_rules.specs.LiveSummaries.{leads_at}
use Rattle.clr_rules.specs.Rules.{HasSummary, IsInRange, is_live, next_summary, rung_at}
use Rattle.clr_check.proofs.EntryLemmas.{rung_on}
use Rattle.clr_check.proofs.Sides.{small_read}
use Rattle.clr_check.proofs.PathLemmas.{live_is, path_first, path_none, range_of, summary_on}
use Rattle.clr_check.proofs.heads.path_fault.Goals as goal

split : (a b : ℕ) → a ≤ b + 1 → (a ≤ b) ⊎ (a ≡ suc b)
split a b h = grind arith

pub lead-requires-clause-range : goal.lead-requires-clause-range
lead-requires-clause-range c = subst (λ r. IsInRange r c.loop-done.s) (sym c.rules-in-loop-done.ensures.value) (range_of c.args.season.now.rules c.args.path.now c.loop-done.done c.loop-done.s c.rules.ensures.facts.rules (omega (arith, c.loop-done-test.true, c.weeks-done-end.ensures.value)) c.loop-done.invariant.summary)

pub lead-requires-clause-low : goal.lead-requires-clause-low
lead-requires-clause-low c = subst (λ n. 1 ≤ n) (sym c.rung-rung.ensures) (rung_on c.args.season.now.rules c.args.path.now (c.loop-done.done + 1) c.rules.ensures.facts.rules.ladder.some c.requires.path (omega (arith, c.loop-done-test.true, c.weeks-done-end.ensures.value, c.requires.path.weeks))).0

pub lead-requires-clause-high : goal.lead-requires-clause-high
lead-requires-clause-high c = subst₂ (λ n r. n ≤ length r.prices) (sym c.rung-rung.ensures) (sym c.rules-in-loop-done.ensures.value) (rung_on c.args.season.now.rules c.args.path.now (c.loop-done.done + 1) c.rules.ensures.facts.rules.ladder.some c.requires.path (omega (arith, c.loop-done-test.true, c.weeks-done-end.ensures.value, c.requires.path.weeks))).1

pub returns-in-None : goal.returns-in-None
returns-in-None c =
    let rules = c.args.season.now.rules in
    let short : c.loop-done.done < length c.args.path.now = omega (arith, c.loop-done-test.true, c.weeks-done-end.ensures.value, c.requires.path.weeks) in
    let next : c.loop-done.done + 1 ≡ suc c.loop-done.done = add-one c.loop-done.done in
    let rung : c.rung-rung.result ≡ rung_at c.args.path.now (suc c.loop-done.done) = c.rung-rung.ensures ∙ ap (rung_at c.args.path.now) next in
    let on = rung_on rules c.args.path.now (suc c.loop-done.done) c.rules.ensures.facts.rules.ladder.some c.requires.path short in
    let off : is_live rules (take (suc c.loop-done.done) c.args.path.now) ≡ false
    = sym (live_is rules c.args.path.now c.loop-done.done c.loop-done.s short c.loop-done.invariant.summary) ∙ subst₂ (λ r n. leads_at r c.loop-done.done c.loop-done.s n ≡ false) c.rules-in-loop-done.ensures.value rung c.in-None.ensures in
    let left : to_z w128 (of_z w128 c.from.result) ≡ pos (suc c.loop-done.done) = small_read c.from.result (suc c.loop-done.done) (omega (arith, c.loop-done-test.true, c.weeks-done-end.ensures.value, c.rules.ensures.facts.rules.last_week)) (c.from.ensures ∙ ap pos next) in
    let right : to_z w128 (of_z w128 c.from-in-None.result) ≡ pos (rung_at c.args.path.now (suc c.loop-done.done)) = small_read c.from-in-None.result (rung_at c.args.path.now (suc c.loop-done.done)) (omega (arith, on.1, c.rules.ensures.facts.rules.ladder.few)) (c.from-in-None.ensures ∙ ap pos rung) in
    ap₂ (λ a b. Some (record { kind = kind.Path; left = a; right = b })) left right
    ∙ path_first c.args.season.now c.args.path.now (suc c.loop-done.done) (omega arith) (omega (arith, short, c.requires.path.weeks)) (λ n a b. c.loop-done.invariant.live n a (omega (arith, b))) off

pub loop-done-preserved : goal.loop-done-preserved
loop-done-preserved c =
    let short : c.loop-done.done < length c.args.path.now = omega (arith, c.loop-done-test.true, c.weeks-done-end.ensures.value, c.requires.path.weeks) in
    let next : c.loop-done.done + 1 ≡ suc c.loop-done.done = add-one c.loop-done.done in
    let rung : c.rung-rung.result ≡ rung_at c.args.path.now (suc c.loop-done.done) = c.rung-rung.ensures ∙ ap (rung_at c.args.path.now) next in
    let live : is_live c.args.season.now.rules (take (suc c.loop-done.done) c.args.path.now) ≡ true
    = sym (live_is c.args.season.now.rules c.args.path.now c.loop-done.done c.loop-done.s short c.loop-done.invariant.summary) ∙ subst₂ (λ r n. leads_at r c.loop-done.done c.loop-done.s n ≡ true) c.rules-in-loop-done.ensures.value rung (c.in-Some.ensures).0 in
    let is : c.in-Some.next ≡ next_summary c.args.season.now.rules c.loop-done.s (rung_at c.args.path.now (suc c.loop-done.done)) = subst₂ (λ r n. c.in-Some.next ≡ next_summary r c.loop-done.s n) c.rules-in-loop-done.ensures.value rung (c.in-Some.ensures).1 in
    record {
      summary = subst (λ n. HasSummary c.args.season.now.rules n c.in-Some.next (take n c.args.path.now)) (sym next) (summary_on c.args.season.now.rules c.args.path.now c.loop-done.done c.loop-done.s c.in-Some.next short c.loop-done.invariant.summary live is);
      live = λ week low high. elim (split week c.loop-done.done high) [ inl l ↦ c.loop-done.invariant.live week low l | inr e ↦ ap (λ n. is_live c.args.season.now.rules (take n c.args.path.now)) e ∙ live ];
    }

pub returns : goal.returns
returns c = path_none c.args.season.now c.args.path.now (λ week low high. c.loop-done.invariant.live week low (omega (arith, high, c.loop-done-test.false, c.weeks-done-end.ensures.value)))
