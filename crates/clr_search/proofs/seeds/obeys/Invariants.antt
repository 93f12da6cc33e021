use Rattle.std.proofs.Common.{take}
use Rattle.clr_search.specs.Settings.{Stands}
use Rattle.clr_search.proofs.seeds.obeys.Given as goal

abbrev pub invariant-loop-done : goal.invariant-loop-done
invariant-loop-done l = Stands l.paths.season.rules l.summary (take l.done l.path)
