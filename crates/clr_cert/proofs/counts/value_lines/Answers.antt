use Rattle.std.proofs.Common.{◌≡◌, ◌+◌, arith, ap, sym, ◌∙◌, add-one}
use Rattle.clr_cert.proofs.Counting.{lines_below, lines_more}
use Rattle.clr_cert.proofs.counts.value_lines.Goals as goal

pub loop-done-preserved : goal.loop-done-preserved
loop-done-preserved c =
    let more = lines_more c.args.season.now c.loop-done.done in
    let next : lines_below c.args.season.now (c.loop-done.done + 1) ≡ lines_below c.args.season.now c.loop-done.done + c.week_lines-lines.result = ap (lines_below c.args.season.now) (add-one c.loop-done.done) ∙ (more ∙ ap (λ n. lines_below c.args.season.now c.loop-done.done + n) (sym c.week_lines-lines.ensures.value)) in
    record {
      lines = ap (λ n. n + c.week_lines-lines.result) c.loop-done.invariant.lines ∙ sym next;
      range = omega (arith, c.loop-done.invariant.range, c.week_lines-lines.ensures.range);
    }
