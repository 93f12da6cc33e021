use Rattle.std.proofs.Common.{◌+◌, ◌<◌, length, subst, arith, List, ℕ}
use Rattle.clr_rules.specs.declared.season_rules.Summary.{Summary}
use Rattle.clr_rules.proofs.FirstPaths.{all_done, here_live, none_done, one_week_more, path_of}
use Rattle.clr_rules.proofs.LiveLaw.{live_pairs_lem}
use Rattle.clr_rules.proofs.first_obeying.first_path.Goals as goal

pub loop-done-init : goal.loop-done-init
loop-done-init c =
    none_done c.args.rules.now c.start-summary.result c.in_ok-path.path.items ((live_pairs_lem c.args.rules.now c.weeks-weeks.ensures.facts).some.0 (subst (λ (pairs : List (ℕ × Summary)). 0 < length pairs) c.requires.live c.requires.some))
    c.start-summary.ensures c.in_ok-path.ensures.items

pub least_lead-rung-requires-clause-here : goal.least_lead-rung-requires-clause-here
least_lead-rung-requires-clause-here c = here_live c.args.rules.now c.loop-done.done c.loop-done.summary c.loop-done.path.items c.loop-done.invariant

pub loop-done-preserved : goal.loop-done-preserved
loop-done-preserved c =
    one_week_more c.args.rules.now c.loop-done.done c.loop-done.summary c.loop-done.path.items c.push.new.self.items c.least_lead-rung.result.0 c.least_lead-rung.result.1 (c.loop-done.done + 1)
    c.loop-done.invariant c.least_lead-rung.ensures (omega arith) c.in_ok-push.ensures.items

pub returns-clause-first : goal.returns-clause-first
returns-clause-first c =
    all_done c.args.rules.now c.loop-done.summary c.loop-done.path.items c.loop-done.done c.loop-done.invariant (omega arith)

pub returns-clause-path : goal.returns-clause-path
returns-clause-path c =
    path_of c.args.rules.now c.loop-done.path.items (all_done c.args.rules.now c.loop-done.summary c.loop-done.path.items c.loop-done.done c.loop-done.invariant (omega arith))
