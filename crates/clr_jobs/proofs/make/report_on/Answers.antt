use Rattle.std.proofs.Common.{◌≡◌, refl}
use Rattle.clr_jobs.proofs.Making.{only-memory}
use Rattle.clr_jobs.proofs.make.report_on.Goals as goal

pub returns-clause-ends : goal.returns-clause-ends
returns-clause-ends c = λ ending is.
    let same : c.in-Err.ending ≡ ending = cc in
    rw (← same) (only-memory c.args.season.now.rules c.in-Err.ending c.requires.some_path (c.in-Err.ensures.ends c.in-Err.ending refl))
