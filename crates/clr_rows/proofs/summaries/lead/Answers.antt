use Rattle.std.proofs.Common.{sym, arith, add-one, slice_get, ap, ◌∙◌}
use Rattle.clr_rules.specs.LiveSummaries.{at_week}
use Rattle.clr_rules.proofs.LiveLists.{in_range, live-reached}
use Rattle.clr_rules.proofs.Sweeps.{not_kept_no_lead}
use Rattle.clr_rows.proofs.Leads.{lead_found}
use Rattle.clr_rows.proofs.summaries.lead.Goals as goal

pub next-requires-clause-range : goal.next-requires-clause-range
next-requires-clause-range c = in_range c.args.rules.now c.args.done c.args.s c.requires.rules (omega arith) (live-reached c.args.rules.now c.args.done c.args.s c.requires.here)

pub returns-in-Some : goal.returns-in-Some
returns-in-Some c =
    lead_found c.args.rules.now c.args.done c.args.s c.in-Some.next c.args.rung c.args.live.now c.find.result c.requires.rules c.requires.live c.requires.early c.in-Some.ensures.by_summary
    (λ k h. ap (λ n. slice_get (at_week n c.args.live.now) k) (sym (add-one c.args.done)) ∙ c.find.ensures.found k h)
    (λ k h. c.find.ensures.listed k (ap (λ n. slice_get (at_week n c.args.live.now) k) (add-one c.args.done) ∙ h))

pub returns-in-None : goal.returns-in-None
returns-in-None c = not_kept_no_lead c.args.rules.now c.args.done c.args.s c.args.rung c.in-None.ensures.by_summary
