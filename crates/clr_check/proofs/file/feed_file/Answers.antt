use Rattle.clr_check.proofs.FileAnswers.{fed_file}
use Rattle.clr_check.proofs.file.feed_file.Goals as goal

pub returns-in-Ok-true-clause-fed : goal.returns-in-Ok-true-clause-fed
returns-in-Ok-true-clause-fed g c =
    fed_file c.feed_all.result (g.H.Shelf.files c.args.shelf.now) c.args.name.now (g.H.Shelf.rest c.open.new.self) c.in-Ok-true.field-0 c.args.lines.now.held c.args.checker.now c.feed_all.new.checker c.in-Ok-true.ensures.opens
    c.in-Ok-true.field-0-test c.requires.start.1 c.feed_all.ensures.fed
