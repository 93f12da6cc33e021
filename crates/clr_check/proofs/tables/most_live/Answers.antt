use Rattle.std.proofs.Common.{◌≡◌, ◌∙◌, ◌<◌, ◌≤◌, ◌+◌, ℕ, ◌⊎◌, inl, inr, sym, ap, subst, arith, length}
use Rattle.clr_rules.specs.LiveSummaries.{at_week, live_summaries}
use Rattle.clr_rules.proofs.LiveLaw.{week_is}
use Rattle.clr_cert.proofs.Counting.{few_live}
use Rattle.clr_check.proofs.tables.most_live.Goals as goal
use Rattle.clr_check.proofs.tables.most_live.Goals.{then-count-most, else-count-most}

-- A greatest that is at most a count of few is small, and one that is at least each count is at least what is counted.
small : (many count most : ℕ) → count ≡ many → many ≤ 1872 → most ≤ count → most ≤ 2000
small many count most is few least = omega (arith, is, few, least)

under : (many count most : ℕ) → count ≡ many → count ≤ most → many ≤ most
under many count most is least = omega (arith, is, least)

grown : (many old most : ℕ) → many ≤ old → old ≤ most → many ≤ most
grown many old most first later = omega (arith, first, later)

split : (a b : ℕ) → a < b + 1 → (a < b) ⊎ (a ≡ b)
split a b h = grind arith

pub loop-done-preserved : goal.loop-done-preserved
loop-done-preserved c =
    let rules = c.args.season.now.rules in
    let early : c.loop-done.done ≤ c.args.season.now.rules.weeks = omega (arith, c.loop-done-test.true, c.weeks-done-end.ensures.value) in
    let here : c.count-count.result ≡ length (live_summaries c.args.season.now.rules c.loop-done.done) = c.count-count.ensures ∙ (ap (λ l. length (at_week c.loop-done.done l)) c.requires ∙ ap length (week_is c.args.season.now.rules c.loop-done.done early)) in
    let few : length (live_summaries c.args.season.now.rules c.loop-done.done) ≤ 1872 = few_live c.args.season.now c.loop-done.done c.weeks-done-end.ensures.facts in
    let both : (c.loop-done.most ≤ c.if-count-most.most) × ((c.count-count.result ≤ c.if-count-most.most) × (c.if-count-most.most ≤ 2000)) = elim c.if-count-most.branch [
      | then-count-most w ↦ (omega (arith, w.if-count-most.true, w.most-is), (omega (arith, w.most-is), small (length (live_summaries rules c.loop-done.done)) c.count-count.result c.if-count-most.most here few (omega (arith, w.most-is))))
      | else-count-most w ↦ (omega (arith, w.most-is), (omega (arith, w.if-count-most.false, w.most-is), omega (arith, w.most-is, c.loop-done.invariant.range)))
    ] in
    let old_le : c.loop-done.most ≤ c.if-count-most.most = both.0 in
    let new_le : c.count-count.result ≤ c.if-count-most.most = both.1.0 in
    record {
      room = λ k less. elim (split k c.loop-done.done less) [
        | inl l ↦ grown (length (live_summaries rules k)) c.loop-done.most c.if-count-most.most (c.loop-done.invariant.room k l) old_le
        | inr e ↦ subst (λ n. length (live_summaries c.args.season.now.rules n) ≤ c.if-count-most.most) (sym e) (under (length (live_summaries rules c.loop-done.done)) c.count-count.result c.if-count-most.most here new_le)
      ];
      range = both.1.1;
    }
