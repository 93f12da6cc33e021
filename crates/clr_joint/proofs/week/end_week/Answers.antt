use Rattle.std.proofs.Common.{pos, List, ℤ, length, get_or, ap, ◌∙◌, arith}
use Rattle.clr_model.specs.Revenue.{full_stocks}
use Rattle.clr_model.specs.Stocks.{lists_of}
use Rattle.clr_rows.specs.Rows.{AreRows}
use Rattle.clr_rows.specs.Summaries.{live_week}
use Rattle.clr_rows.proofs.WeekRows.{both}
use Rattle.clr_joint.specs.BySummary.{by_place, summary_value}
use Rattle.clr_joint.specs.Weeks.{IsWeek}
use Rattle.clr_joint.proofs.Limits.{few_stores}
use Rattle.clr_joint.proofs.WeekRows.{ends_are, values_small}
use Rattle.clr_joint.proofs.week.end_week.Goals as goal

pub returns : goal.returns
returns g c =
    both c.end_rows.result _ _ (λ week. IsWeek g.R.Direction.quotient c.args.season.now c.args.season.now.rules.weeks week) c.end_rows.ensures.values c.end_rows.ensures.choices
    (λ week values none.
    let here : AreRows (pos 0) (lists_of (full_stocks c.args.season.now)) (live_week c.args.season.now.rules c.args.season.now.rules.weeks) (length (live_week c.args.season.now.rules c.args.season.now.rules.weeks)) (by_place c.args.season.now (summary_value g.R.Direction.quotient c.args.season.now c.args.season.now.rules.weeks)) week.values
    = ends_are g.R.Direction.quotient c.args.season.now c.rules.result.now c.deref.result.now week.values c.rules.ensures.value (ap length c.deref.ensures.value ∙ c.in_ok-row.ensures.size)
    (λ x lt. ap (λ (r : List ℤ). get_or r x (pos 0)) c.deref.ensures.value ∙ c.in_ok-row.ensures.values x lt) values in
    record {
      values = here;
      choices = λ early. absurd (omega (arith, early));
      last = λ whole. none;
      small = values_small g.R.Direction.leans g.R.Direction.quotient g.met.R.Direction.laws c.args.season.now c.requires.season (few_stores c.args.season.now c.requires.season c.requires.fits) c.args.season.now.rules.weeks week.values (omega arith) here;
    })
