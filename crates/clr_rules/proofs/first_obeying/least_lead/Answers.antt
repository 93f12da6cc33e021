use Rattle.std.proofs.Common.{◌≡◌, ◌+◌, false, true, sym, ◌∙◌, arith}
use Rattle.clr_rules.proofs.FirstPaths.{least_found, not_found, some_lead}
use Rattle.clr_rules.proofs.LiveLists.{in_range, live-reached}
use Rattle.clr_rules.proofs.Sweeps.{none_more, not_kept_no_lead}
use Rattle.clr_rules.proofs.first_obeying.least_lead.Goals as goal
use Rattle.clr_rules.proofs.first_obeying.least_lead.Goals.{in-Some+else-has, in_default}

pub next-requires-clause-range : goal.next-requires-clause-range
next-requires-clause-range c = in_range c.args.rules.now c.args.done c.args.s c.requires.rules (omega arith) (live-reached c.args.rules.now c.args.done c.args.s c.requires.here)

pub returns-then-has : goal.returns-then-has
returns-then-has c =
    least_found c.args.rules.now c.args.done c.args.s c.in-Some.next c.loop-rung.rung (c.args.done + 1) c.args.live.now c.requires.live c.requires.early (omega arith) c.loop-rung.auto.rung (omega arith) c.in-Some.ensures.by_summary
    c.loop-rung.invariant (c.has.ensures.0 c.if-has.true)

pub loop-rung-preserved : goal.loop-rung-preserved
loop-rung-preserved c =
    none_more c.args.rules.now c.args.done c.args.s c.loop-rung.rung c.loop-rung.invariant
    (elim c.match-next.branch [
      | in-Some+else-has w ↦ not_found c.args.rules.now c.args.done c.args.s w.in-Some.next c.loop-rung.rung (c.args.done + 1) c.args.live.now c.requires.rules c.requires.live c.requires.early (omega arith) w.in-Some.ensures.by_summary
          (λ there. let clash : false ≡ true = sym w.if-has.false ∙ w.has.ensures.1 there in cc)
      | in_default w ↦ not_kept_no_lead c.args.rules.now c.args.done c.args.s c.loop-rung.rung w.in_default.ensures.by_summary
    ])

pub unreachable-requires : goal.unreachable-requires
unreachable-requires c = some_lead c.args.rules.now c.args.done c.args.s c.loop-rung.rung c.requires.early c.requires.here c.loop-rung.invariant (omega arith)
