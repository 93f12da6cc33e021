use Rattle.std.proofs.Common.{◌≡◌, suc, pos, length, get_or, slice_get, ap, sym, ◌∙◌, subst, arith, Some, to_z, of_z}
use Rattle.std.proofs.lemmas.Int.{to_z-of_z}
use mir.Syntax.{w64}
use Rattle.clr_num.specs.Sums.{first_best}
use Rattle.clr_average.specs.Average.{IsWithin}
use Rattle.clr_rules.specs.LiveSummaries.{at_week}
use Rattle.clr_rules.specs.Rules.{next_summary}
use Rattle.clr_rows.specs.Leads.{best_value, lead_value}
use Rattle.clr_rows.specs.Summaries.{live_week}
use Rattle.clr_rows.proofs.Leads.{none_led}
use Rattle.clr_rows.proofs.Rungs.{led_choice, led_value}
use Rattle.clr_rows.proofs.step.try_rung.Goals as goal

pub returns-in-Some : goal.returns-in-Some
returns-in-Some g c =
    let more : to_z w64 (of_z w64 c.added-more.result) ≡ c.added-more.result = to_z-of_z w64 c.added-more.result (record { sfits = c.added-more.type_inv }) in
    let at : slice_get (live_week c.args.rules.now (suc c.args.done)) c.in-Some.place ≡ Some (next_summary c.args.rules.now c.args.s c.args.rung)
    = ap (λ pairs. slice_get (at_week (suc c.args.done) pairs) c.in-Some.place) (sym c.requires.live) ∙ c.in-Some.ensures.1 in
    record {
      values = λ f are x h.
          led_value c.args.rules.now c.args.done f (g.A.Added.more c.args.added.now) c.args.s c.args.rung (length c.args.values.now) c.in-Some.place x (live_week c.args.rules.now (suc c.args.done)) c.args.averages.now c.row_of-row.result.now (to_z w64 (of_z w64 c.added-more.result))
          c.requires.low c.in-Some.ensures.0 at are c.requires.within c.row_of-row.ensures.row (more ∙ c.added-more.ensures.value) (subst (IsWithin 1000000000000000000) (sym more) c.added-more.ensures.size) h
          (get_or c.args.values.now x (pos 0)) (get_or c.raise_row.new.values x (pos 0)) (c.requires.so_far.values f are x h) (c.raise_row.ensures.values x (omega (arith, h, c.raise_row.auto.values)));
      choices = λ f are x h.
          led_choice c.args.rules.now c.args.done f (g.A.Added.more c.args.added.now) c.args.s c.args.rung (length c.args.values.now) c.in-Some.place x (live_week c.args.rules.now (suc c.args.done)) c.args.averages.now c.row_of-row.result.now (to_z w64 (of_z w64 c.added-more.result))
          c.requires.low c.in-Some.ensures.0 at are c.requires.within c.row_of-row.ensures.row (more ∙ c.added-more.ensures.value) (subst (IsWithin 1000000000000000000) (sym more) c.added-more.ensures.size) h
          (get_or c.args.values.now x (pos 0)) (get_or c.args.choices.now x 0) (get_or c.raise_row.new.choices x 0) (c.requires.so_far.values f are x h) (c.requires.so_far.choices f are x h) (c.raise_row.ensures.choices x (omega (arith, h, c.raise_row.auto.values)));
    }

pub returns-in-None : goal.returns-in-None
returns-in-None g c =
    let same = none_led c.args.rules.now c.args.done c.args.s c.args.rung c.requires.low c.in-None.ensures in
    record {
      values = λ f are x h. c.requires.so_far.values f are x h ∙ ap (best_value (lead_value c.args.rules.now f (g.A.Added.more c.args.added.now) c.args.s x)) (sym same);
      choices = λ f are x h. c.requires.so_far.choices f are x h ∙ ap (first_best (lead_value c.args.rules.now f (g.A.Added.more c.args.added.now) c.args.s x) 1) (sym same);
    }
