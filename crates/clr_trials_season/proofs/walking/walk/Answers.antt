use Rattle.clr_cert.proofs.Walking.{head_reached}
use Rattle.clr_trials_season.proofs.walking.walk.Goals as goal

pub loop-init : goal.loop-init
loop-init c = head_reached c.args.season.now
