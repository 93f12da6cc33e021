use Rattle.std.proofs.Common.{sym}
use Rattle.clr_search.proofs.SeedLemmas.{dead_front, stands_more, whole_obeys}
use Rattle.clr_search.proofs.seeds.obeys.Goals as goal

pub returns-in-None : goal.returns-in-None
returns-in-None c = sym (dead_front c.args.paths.now.season.rules c.args.path.now c.loop-done.done c.loop-done-test.true c.in-None.ensures)

pub loop-done-preserved : goal.loop-done-preserved
loop-done-preserved c = stands_more c.args.paths.now.season.rules c.args.path.now c.loop-done.done c.in-Some.next c.loop-done-test.true c.in-Some.ensures.1

pub returns : goal.returns
returns c = sym (whole_obeys c.args.paths.now.season.rules c.args.path.now c.loop-done.done c.loop-done.summary c.requires.path c.loop-done-test.false c.loop-done.auto.done-end c.loop-done.invariant)
