use Rattle.std.proofs.Common.{◌<◌, ◌≤◌, ◌==◌, not, length, ap, sym, ◌∙◌, subst, add-one, arith}
use Rattle.clr_rules.specs.Rules.{rung_at}
use Rattle.clr_plain.proofs.Sales.{byte_small, markdowns_next}
use Rattle.clr_plain.proofs.revenue.markdowns.Goals as goal

pub overflow_add-count : goal.overflow_add-count
overflow_add-count c =
    let one : c.from-count.result ≤ 1 = subst (λ n. n ≤ 1) (sym c.from-count.ensures) (byte_small (not (c.rung-rung.result == c.loop-done.before))) in
    record { fits = omega (arith, one, c.loop-done.invariant.range, c.loop-done-test.true, c.len-done-end.type_inv) }

pub loop-done-preserved : goal.loop-done-preserved
loop-done-preserved c =
    let lt : c.loop-done.done < length c.args.path.now = omega (arith, c.loop-done-test.true, c.len-done-end.ensures) in
    let one : c.from-count.result ≤ 1 = subst (λ n. n ≤ 1) (sym c.from-count.ensures) (byte_small (not (c.rung-rung.result == c.loop-done.before))) in
    record {
      value = markdowns_next c.loop-done.done c.loop-done.count c.from-count.result c.rung-rung.result c.loop-done.before c.args.path.now lt c.loop-done.invariant.value (c.rung-rung.ensures ∙ ap (rung_at c.args.path.now) (add-one c.loop-done.done)) c.loop-done.invariant.last c.from-count.ensures;
      range = omega (arith, one, c.loop-done.invariant.range);
      last = c.rung-rung.ensures;
    }
