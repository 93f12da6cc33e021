use Rattle.std.proofs.Common.{pos, List, ℤ, length, get_or, ap, ◌∙◌, arith}
use Rattle.clr_mult.specs.Tables.{mult_at}
use Rattle.clr_storedp.specs.BySummary.{summary_value}
use Rattle.clr_rows.specs.Rows.{AreRows}
use Rattle.clr_rows.specs.Summaries.{live_week}
use Rattle.clr_rows.proofs.WeekRows.{both}
use Rattle.clr_storedp.specs.Weeks.{IsWeek}
use Rattle.clr_storedp.proofs.WeekRows.{ends_are, small_of, values_small}
use Rattle.clr_storedp.proofs.week.end_week.Goals as goal

pub returns : goal.returns
returns g c =
    both c.end_rows.result _ _ (λ week. IsWeek g.R.Direction.quotient (mult_at c.args.mult.now) c.args.season.now c.args.store c.args.width c.args.season.now.rules.weeks week) c.end_rows.ensures.values c.end_rows.ensures.choices
    (λ week values none.
    let here : AreRows (pos 0) c.args.width (live_week c.args.season.now.rules c.args.season.now.rules.weeks) (length (live_week c.args.season.now.rules c.args.season.now.rules.weeks)) (summary_value g.R.Direction.quotient (mult_at c.args.mult.now) c.args.season.now c.args.store c.args.season.now.rules.weeks) week.values
    = ends_are g.R.Direction.quotient (mult_at c.args.mult.now) c.args.season.now c.args.store c.args.width c.rules.result.now c.deref.result.now week.values c.rules.ensures.value (ap length c.deref.ensures.value ∙ c.in_ok-row.ensures.size)
    (λ stock lt. ap (λ (r : List ℤ). get_or r stock (pos 0)) c.deref.ensures.value ∙ c.in_ok-row.ensures.values stock lt) values in
    record {
      values = here;
      choices = λ early. absurd (omega (arith, early));
      last = λ whole. none;
      small = values_small g.R.Direction.leans g.R.Direction.quotient g.met.R.Direction.laws (mult_at c.args.mult.now) c.args.season.now c.requires.season (small_of c.args.season.now c.args.mult.now c.requires.mult c.requires.small) c.args.store c.args.season.now.rules.weeks c.args.width week.values c.requires.low c.requires.high (omega arith) c.requires.width here;
    })
