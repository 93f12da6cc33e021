use Rattle.std.proofs.Common.{◌≡◌, inr, length, rules, false}
use Rattle.clr_report.specs.declared.note.Cause.TheVariants.{NoPath}
use Rattle.clr_jobs.proofs.Ends.{none-lives}
use Rattle.clr_jobs.proofs.plan.plan_season.Goals as goal

pub returns-then-not-any-clause-ends : goal.returns-then-not-any-clause-ends
returns-then-not-any-clause-ends c = λ ending is.
    let by : ending ≡ NoPath = cc in
    let no : c.any.result ≡ false = search rules in
    inr (by, none-lives c.args.season.now.rules c.any.result (length c.args.live.now) no c.any.ensures c.requires.any)
