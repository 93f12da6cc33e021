use Rattle.clr_words.specs.Asked.{ask_of}
use Rattle.clr_jobs.proofs.Making.{make-gives}
use Rattle.clr_jobs.proofs.jobs.ready_make.Goals as goal

pub returns-clause-gives : goal.returns-clause-gives
returns-clause-gives c = λ files. make-gives files (ask_of c.args.asked.now) _ c.requires.job (c.in_ok-season.season.made, c.in_ok-season.ensures.files, c.in_ok-season.ensures.reports)
