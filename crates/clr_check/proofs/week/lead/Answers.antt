use Rattle.std.proofs.Common.{sym, ap, ◌∙◌, add-one, slice_get}
use Rattle.clr_rules.specs.LiveSummaries.{at_week}
use Rattle.clr_rules.proofs.Sweeps.{not_kept_no_lead}
use Rattle.clr_check.proofs.Leads.{led, unled}
use Rattle.clr_check.proofs.week.lead.Goals as goal

pub returns-in-Some-find : goal.returns-in-Some-find
returns-in-Some-find c =
    led c.args.rules.now c.args.done c.args.s c.in-Some.next c.args.rung c.in-Some-find.place c.args.live.now c.requires.live c.requires.rules c.requires.early c.in-Some.ensures.by_summary
    (ap (λ n. slice_get (at_week n c.args.live.now) c.in-Some-find.place) (sym (add-one c.args.done)) ∙ c.find.ensures.found c.in-Some-find.place c.in-Some-find.is)

pub returns-in-None-find : goal.returns-in-None-find
returns-in-None-find c =
    unled c.args.rules.now c.args.done c.args.s c.in-Some.next c.args.rung c.args.live.now c.requires.live c.requires.rules c.requires.early c.in-Some.ensures.by_summary
    (λ k there. let clash = sym c.in-None-find.is ∙ c.find.ensures.listed k (ap (λ n. slice_get (at_week n c.args.live.now) k) (add-one c.args.done) ∙ there) in cc)

pub returns-in-None : goal.returns-in-None
returns-in-None c = not_kept_no_lead c.args.rules.now c.args.done c.args.s c.args.rung c.in-None.ensures.by_summary
