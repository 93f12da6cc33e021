use Rattle.std.proofs.Common.{arith}
use Rattle.clr_policy.proofs.Walks.{longer, range_of, some_next}
use Rattle.clr_policy.proofs.branches.week_after.Goals as goal

pub broken-requires-clause-range : goal.broken-requires-clause-range
broken-requires-clause-range c =
    rw c.rules-rules.ensures.value (range_of c.args.season.now.rules c.args.done c.args.s c.requires.prefix.0 c.rules-rules.ensures.facts.rules (omega (arith, c.requires.early)) c.requires.prefix.1)

pub next-requires-clause-range : goal.next-requires-clause-range
next-requires-clause-range c =
    rw c.rules-rules.ensures.value (range_of c.args.season.now.rules c.args.done c.args.s c.requires.prefix.0 c.rules-rules.ensures.facts.rules (omega (arith, c.requires.early)) c.requires.prefix.1)

pub unreachable-requires : goal.unreachable-requires
unreachable-requires c = some_next c.rules-rules.result.now c.args.done c.args.s c.args.rung c.requires.low (rw c.rules-rules.ensures.value c.requires.high) c.in-None.ensures.by_summary c.in-None-next.ensures.by_summary

pub returns-in-Some-next-clause-goes : goal.returns-in-Some-next-clause-goes
returns-in-Some-next-clause-goes c prefix has =
    longer c.args.season.now.rules c.args.done c.args.s c.in-Some-next.after c.args.rung prefix has (rw c.rules-rules.ensures.value at c.in-Some-next.ensures.by_summary)
