use Rattle.std.proofs.Common.{length, slice_get, take, ap, sym, ◌∙◌}
use Rattle.clr_rules.specs.LiveSummaries.{at_week}
use Rattle.clr_rows.proofs.WeekRows.{all_listed, listed_more}
use Rattle.clr_rows.proofs.summaries.week_list.Goals as goal

pub loop-next-preserved : goal.loop-next-preserved
loop-next-preserved c =
    let here = sym c.loop-next.invariant.next ∙ c.in-Some.is in
    let more = listed_more c.loop-next.list.items (at_week c.args.done c.args.live.now) c.push.new.self.items c.in-Some.s c.loop-next.invariant.list here c.in_ok-push.ensures.items in
    record {
      list = more.1 ∙ ap (λ n. take n (at_week c.args.done c.args.live.now)) (sym more.0);
      next = c.after-next.ensures (length c.loop-next.list.items) here ∙ ap (slice_get (at_week c.args.done c.args.live.now)) (sym more.0);
    }

pub returns : goal.returns
returns c = all_listed c.loop-next.list.items (at_week c.args.done c.args.live.now) c.loop-next.next c.loop-next.invariant.list c.loop-next.invariant.next c.in_default.not-Some
