use Rattle.std.proofs.Common.{◌≡◌, ◌≤◌, ◌*◌, suc, pos, List, length, ap, sym, ◌∙◌, subst, arith, add-one}
use Rattle.clr_mult.specs.Tables.{mult_at}
use Rattle.clr_rules.specs.declared.season_rules.Summary.{Summary}
use Rattle.clr_rules.specs.LiveSummaries.{at_week}
use Rattle.clr_rules.specs.Rules.{Rulebook}
use Rattle.clr_rows.proofs.WeekRows.{mapped}
use Rattle.clr_storedp.proofs.WeekValues.{choices_are, values_are}
use Rattle.clr_storedp.specs.BySummary.{summary_value}
use Rattle.clr_rows.specs.Summaries.{AreOnLadder, live_week}
use Rattle.clr_rows.specs.Rows.{AreRows}
use Rattle.clr_storedp.specs.Rows.{AreAverages}
use Rattle.clr_storedp.specs.Weeks.{IsWeek}
use Rattle.clr_rows.proofs.WeekRows.{on_ladder}
use Rattle.clr_storedp.proofs.WeekRows.{averages_are, averages_small, small_of, values_small}
use Rattle.clr_storedp.proofs.week.earlier_week.Goals as goal

pub average_rows-requires-clause-ladder : goal.average_rows-requires-clause-ladder
average_rows-requires-clause-ladder g c =
    let list : c.deref.result.now ≡ live_week c.args.season.now.rules (suc c.args.done) = c.deref.ensures.value ∙ (c.in_ok-next.ensures ∙ (ap (λ n. at_week n c.args.live.now) (add-one c.args.done) ∙ ap (at_week (suc c.args.done)) c.requires.live)) in
    subst (AreOnLadder c.args.season.now.rules) (sym list) (on_ladder c.args.season.now.rules (suc c.args.done) c.requires.season.rules c.requires.early)

pub best_rows-requires-clause-asked : goal.best_rows-requires-clause-asked
best_rows-requires-clause-asked g c = λ rung low high. record {
  place = record { first_store = c.requires.low; last_store = c.requires.high; first_week = omega arith; last_week = omega (arith, c.requires.early); first_rung = low; last_rung = subst (λ (r : Rulebook). rung ≤ length r.prices) c.rules.ensures.value high };
  of_season = c.requires.mult;
  small = c.requires.small;
}

pub best_rows-requires-clause-size : goal.best_rows-requires-clause-size
best_rows-requires-clause-size g c =
    let list : c.deref.result.now ≡ live_week c.args.season.now.rules (suc c.args.done) = c.deref.ensures.value ∙ (c.in_ok-next.ensures ∙ (ap (λ n. at_week n c.args.live.now) (add-one c.args.done) ∙ ap (at_week (suc c.args.done)) c.requires.live)) in
    ap length c.deref-3.ensures.value
    ∙ (c.in_ok-averages.ensures.size ∙ (ap (λ (l : List Summary). length l * c.args.width) list ∙ ap (λ (r : Rulebook). length (live_week r (suc c.args.done)) * c.args.width) (sym c.rules.ensures.value)))

pub best_rows-requires-clause-within : goal.best_rows-requires-clause-within
best_rows-requires-clause-within g c =
    let list : c.deref.result.now ≡ live_week c.args.season.now.rules (suc c.args.done) = c.deref.ensures.value ∙ (c.in_ok-next.ensures ∙ (ap (λ n. at_week n c.args.live.now) (add-one c.args.done) ∙ ap (at_week (suc c.args.done)) c.requires.live)) in
    averages_small g.R.Direction.leans g.R.Direction.quotient g.met.R.Direction.laws (mult_at c.args.mult.now) c.args.season.now c.requires.season (small_of c.args.season.now c.args.mult.now c.requires.mult c.requires.small) c.args.store c.args.done c.args.width c.deref-3.result.now c.requires.low c.requires.high c.requires.early c.requires.width
    (averages_are g.R.Direction.quotient (mult_at c.args.mult.now) c.args.season.now c.args.store c.args.done c.args.width c.deref.result.now c.values.result.now c.deref-3.result.now list
    (subst (AreRows (pos 0) c.args.width (live_week c.args.season.now.rules (suc c.args.done)) (length (live_week c.args.season.now.rules (suc c.args.done))) (summary_value g.R.Direction.quotient (mult_at c.args.mult.now) c.args.season.now c.args.store (suc c.args.done))) (sym c.values.ensures) c.requires.after.values)
    (subst (AreAverages g.R.Direction.quotient c.args.season.now c.args.store c.args.done c.args.width c.deref.result.now c.values.result.now (length c.deref.result.now)) (sym c.deref-3.ensures.value) c.in_ok-averages.ensures))

pub returns : goal.returns
returns g c =
    let list : c.deref-2.result.now ≡ live_week c.args.season.now.rules c.args.done = c.deref-2.ensures.value ∙ (c.in_ok-list.ensures ∙ ap (at_week c.args.done) c.requires.live) in
    let next : c.deref.result.now ≡ live_week c.args.season.now.rules (suc c.args.done) = c.deref.ensures.value ∙ (c.in_ok-next.ensures ∙ (ap (λ n. at_week n c.args.live.now) (add-one c.args.done) ∙ ap (at_week (suc c.args.done)) c.requires.live)) in
    let averages = averages_are g.R.Direction.quotient (mult_at c.args.mult.now) c.args.season.now c.args.store c.args.done c.args.width c.deref.result.now c.values.result.now c.deref-3.result.now next
    (subst (AreRows (pos 0) c.args.width (live_week c.args.season.now.rules (suc c.args.done)) (length (live_week c.args.season.now.rules (suc c.args.done))) (summary_value g.R.Direction.quotient (mult_at c.args.mult.now) c.args.season.now c.args.store (suc c.args.done))) (sym c.values.ensures) c.requires.after.values)
    (subst (AreAverages g.R.Direction.quotient c.args.season.now c.args.store c.args.done c.args.width c.deref.result.now c.values.result.now (length c.deref.result.now)) (sym c.deref-3.ensures.value) c.in_ok-averages.ensures) in
    mapped c.best_rows.result _ (λ week. IsWeek g.R.Direction.quotient (mult_at c.args.mult.now) c.args.season.now c.args.store c.args.width c.args.done week) c.best_rows.ensures
    (λ week best.
    let here = values_are g.R.Direction.leans g.R.Direction.quotient g.met.R.Direction.laws (mult_at c.args.mult.now) c.args.season.now c.args.store c.args.done c.args.width c.requires.season c.requires.low c.requires.high c.requires.early c.rules.result.now c.deref-3.result.now week.values week.choices (length c.deref-2.result.now) c.rules.ensures.value (ap length list) averages best in
    record {
      values = here;
      choices = λ early. choices_are g.R.Direction.leans g.R.Direction.quotient g.met.R.Direction.laws (mult_at c.args.mult.now) c.args.season.now c.args.store c.args.done c.args.width c.requires.season c.requires.low c.requires.high c.requires.early c.rules.result.now c.deref-3.result.now week.values week.choices (length c.deref-2.result.now) c.rules.ensures.value (ap length list) averages best;
      last = λ whole. absurd (omega (arith, whole, c.requires.early));
      small = values_small g.R.Direction.leans g.R.Direction.quotient g.met.R.Direction.laws (mult_at c.args.mult.now) c.args.season.now c.requires.season (small_of c.args.season.now c.args.mult.now c.requires.mult c.requires.small) c.args.store c.args.done c.args.width week.values c.requires.low c.requires.high (omega (arith, c.requires.early)) c.requires.width here;
    })
