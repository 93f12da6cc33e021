use Rattle.std.proofs.Common.{◌≡◌, ◌∙◌, []}
use Rattle.clr_model.specs.JointValue.{joint_rung_at}
use Rattle.clr_model.specs.Revenue.{full_stocks}
use Rattle.clr_jobs.proofs.Tabled.{first_on_ladder}
use Rattle.clr_jobs.proofs.exact.exact_table.Goals as goal

pub returns-clause-told : goal.returns-clause-told
returns-clause-told c =
    let season = c.args.season.now in
    let rung : c.in_ok-values.values.2 ≡ joint_rung_at season [] (full_stocks season) = c.in_ok-values.ensures.first ∙ c.in_ok-joint.ensures.first in
    let ladder = first_on_ladder season c.requires.facts c.in_ok-joint.ensures.encloses.abides in
    record { low = c.in_ok-values.ensures.low_size; top = c.in_ok-values.ensures.top_size; first = rw rung ladder.0; last = rw rung ladder.1 }
