use Rattle.clr_cert.proofs.Walking.{next_reached}
use Rattle.clr_cert.proofs.place.Place.next.Goals as goal

pub returns-clause-again : goal.returns-clause-again
returns-clause-again c =
    let (row, here) = c.requires.reached in
    next_reached c.args.season.now row c.place_after.result (c.place_after.ensures row here)
