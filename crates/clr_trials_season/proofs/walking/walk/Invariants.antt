use Rattle.clr_cert.specs.Places.{IsReached}
use Rattle.clr_trials_season.proofs.walking.walk.Given as goal

abbrev pub invariant-loop : goal.invariant-loop
invariant-loop l = IsReached l.season l.place
