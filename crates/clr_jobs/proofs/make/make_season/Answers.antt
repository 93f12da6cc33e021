use Rattle.clr_jobs.proofs.make.make_season.Goals as goal

pub returns-in-Ok-report_on-clause-reports : goal.returns-in-Ok-report_on-clause-reports
returns-in-Ok-report_on-clause-reports c =
    let read = c.in-Ok-read_made.ensures.season in
    (c.in-Ok-make_files.ensures.files, c.in-Ok-read_made.season, rw (← c.as_str-folder.ensures.value) read, c.in-Ok-read_made.ensures.facts, c.in-Ok-report_on.ensures.text)
