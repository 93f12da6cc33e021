use Rattle.std.proofs.Common.{◌≡◌, ◌*◌, suc, ℕ, ℤ, pos, List, length, ap, sym, ◌∙◌, subst, subst₂, arith, add-one}
use Rattle.clr_rules.specs.declared.season_rules.Summary.{Summary}
use Rattle.clr_rules.specs.LiveSummaries.{at_week}
use Rattle.clr_rules.specs.Rules.{Rulebook}
use Rattle.clr_model.specs.Revenue.{full_stocks}
use Rattle.clr_model.specs.Stocks.{lists_of}
use Rattle.clr_rows.specs.Rows.{AreRows}
use Rattle.clr_rows.specs.Summaries.{live_week}
use Rattle.clr_rows.proofs.WeekRows.{mapped}
use Rattle.clr_joint.specs.BySummary.{average_into, by_place, summary_choice, summary_value}
use Rattle.clr_joint.specs.Weeks.{IsWeek}
use Rattle.clr_joint.proofs.Limits.{few_stores}
use Rattle.clr_joint.proofs.Values.{choices_are, values_are}
use Rattle.clr_joint.proofs.WeekRows.{values_small}
use Rattle.clr_joint.proofs.week.earlier_week.Goals as goal

pub best_rows-requires-clause-size : goal.best_rows-requires-clause-size
best_rows-requires-clause-size g c =
    let list : c.deref.result.now ≡ live_week c.args.season.now.rules (suc c.args.done) = c.deref.ensures.value ∙ (c.in_ok-next.ensures ∙ (ap (λ n. at_week n c.args.live.now) (add-one c.args.done) ∙ ap (at_week (suc c.args.done)) c.requires.live)) in
    ap length c.deref-3.ensures.value
    ∙ (c.in_ok-averages.ensures.rows.size ∙ (ap (λ (l : List Summary). length l * c.args.width) list ∙ ap (λ (r : Rulebook). length (live_week r (suc c.args.done)) * c.args.width) (sym c.rules.ensures.value)))

pub returns : goal.returns
returns g c =
    let list : c.deref-2.result.now ≡ live_week c.args.season.now.rules c.args.done = c.deref-2.ensures.value ∙ (c.in_ok-list.ensures ∙ ap (at_week c.args.done) c.requires.live) in
    let next : c.deref.result.now ≡ live_week c.args.season.now.rules (suc c.args.done) = c.deref.ensures.value ∙ (c.in_ok-next.ensures ∙ (ap (λ n. at_week n c.args.live.now) (add-one c.args.done) ∙ ap (at_week (suc c.args.done)) c.requires.live)) in
    let averages : AreRows (pos 0) c.args.width (live_week c.args.season.now.rules (suc c.args.done)) (length (live_week c.args.season.now.rules (suc c.args.done))) (by_place c.args.season.now (average_into g.R.Direction.quotient c.args.season.now c.args.done)) c.deref-3.result.now
    = subst₂ (λ (l : List Summary) (items : List ℤ). AreRows (pos 0) c.args.width l (length l) (by_place c.args.season.now (average_into g.R.Direction.quotient c.args.season.now c.args.done)) items) next (sym c.deref-3.ensures.value) c.in_ok-averages.ensures.rows in
    mapped c.best_rows.result _ (λ week. IsWeek g.R.Direction.quotient c.args.season.now c.args.done week) c.best_rows.ensures
    (λ week best.
    let here : AreRows (pos 0) (lists_of (full_stocks c.args.season.now)) (live_week c.args.season.now.rules c.args.done) (length (live_week c.args.season.now.rules c.args.done)) (by_place c.args.season.now (summary_value g.R.Direction.quotient c.args.season.now c.args.done)) week.values
    = subst (λ (w : ℕ). AreRows (pos 0) w (live_week c.args.season.now.rules c.args.done) (length (live_week c.args.season.now.rules c.args.done)) (by_place c.args.season.now (summary_value g.R.Direction.quotient c.args.season.now c.args.done)) week.values) c.requires.width
    (values_are g.R.Direction.leans g.R.Direction.quotient g.met.R.Direction.laws c.args.season.now c.args.done c.args.width c.requires.season c.requires.early c.rules.result.now c.deref-3.result.now week.values week.choices (length c.deref-2.result.now) c.rules.ensures.value (ap length list) averages best) in
    record {
      values = here;
      choices = λ early. subst (λ (w : ℕ). AreRows 0 w (live_week c.args.season.now.rules c.args.done) (length (live_week c.args.season.now.rules c.args.done)) (by_place c.args.season.now (summary_choice g.R.Direction.quotient c.args.season.now c.args.done)) week.choices) c.requires.width
          (choices_are g.R.Direction.leans g.R.Direction.quotient g.met.R.Direction.laws c.args.season.now c.args.done c.args.width c.requires.season c.requires.early c.rules.result.now c.deref-3.result.now week.values week.choices (length c.deref-2.result.now) c.rules.ensures.value (ap length list) averages best);
      last = λ whole. absurd (omega (arith, whole, c.requires.early));
      small = values_small g.R.Direction.leans g.R.Direction.quotient g.met.R.Direction.laws c.args.season.now c.requires.season (few_stores c.args.season.now c.requires.season c.requires.fits) c.args.done week.values (omega (arith, c.requires.early)) here;
    })
