use Rattle.std.proofs.Common.{◌≡◌}
use Rattle.std.specs.Prelude.{Err}
use Rattle.clr_make.specs.Reads.{HoldsMade, ReadsToSeason, files_in}
use Rattle.clr_season.specs.Reads.{Gives, season_in}
use Rattle.clr_season.specs.Season.{Season}
use Rattle.clr_jobs.proofs.Making.{of-files, only-faults, some-obeys}
use Rattle.clr_jobs.proofs.make.read_made.Goals as goal

pub returns-clause-some_path : goal.returns-clause-some_path
returns-clause-some_path c =
    let files = files_in c.args.folder.now c.args.made.now in
    let held : HoldsMade files c.args.folder.now c.args.made.now = c.folder_holds_made.ensures c.args.folder.now c.args.made.now in
    let made : ReadsToSeason files c.args.folder.now = c.requires files c.args.folder.now held in
    let gives : Gives {X = Season} {Y = Season} (λ s. s) c.read_season.result (season_in files c.args.folder.now) = of-files _ files c.args.folder.now c.read_season.result c.in-Ok.ensures c.read_season.ensures.gives in
    some-obeys files c.args.folder.now c.read_season.result made gives

pub returns-clause-ends : goal.returns-clause-ends
returns-clause-ends c = λ error is.
    let files = files_in c.args.folder.now c.args.made.now in
    let held : HoldsMade files c.args.folder.now c.args.made.now = c.folder_holds_made.ensures c.args.folder.now c.args.made.now in
    let made : ReadsToSeason files c.args.folder.now = c.requires files c.args.folder.now held in
    let gives : Gives {X = Season} {Y = Season} (λ s. s) c.read_season.result (season_in files c.args.folder.now) = of-files _ files c.args.folder.now c.read_season.result c.in-Ok.ensures c.read_season.ensures.gives in
    let same : c.read_season.result ≡ Err error = is in
    only-faults files c.args.folder.now error made (rw same at gives)
