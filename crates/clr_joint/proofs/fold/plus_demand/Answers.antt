use Rattle.std.proofs.Common.{◌≡◌, pos, ◌+ℤ◌, ◌*ℤ◌, sym, subst, SFits, to_z, of_z, rules}
use Rattle.std.proofs.lemmas.Int.{to_z-of_z}
use mir.Syntax.{w128}
use Rattle.clr_average.proofs.Reading.{within_128}
use Rattle.clr_joint.proofs.Cells.{step_read}
use Rattle.clr_joint.proofs.fold.plus_demand.Goals as goal

pub overflow_add-result-else-weight-eq0 : goal.overflow_add-result-else-weight-eq0
overflow_add-result-else-weight-eq0 c =
    let fits : SFits w128 c.from.result = search rules in
    subst (λ t. SFits w128 t) (sym (step_read c.args.total c.from.result c.args.item c.args.weight c.args.earned c.from.ensures c.ranges.total fits c.ranges.item c.requires.earned c.requires.item c.requires.product)) (within_128 _ c.requires.sum)

pub returns-else-weight-eq0 : goal.returns-else-weight-eq0
returns-else-weight-eq0 c =
    let fits : SFits w128 c.from.result = search rules in
    subst (λ t. to_z w128 (of_z w128 t) ≡ c.args.total +ℤ pos c.args.weight *ℤ (c.args.item +ℤ pos c.args.earned)) (sym (step_read c.args.total c.from.result c.args.item c.args.weight c.args.earned c.from.ensures c.ranges.total fits c.ranges.item c.requires.earned c.requires.item c.requires.product))
    (to_z-of_z w128 _ (within_128 _ c.requires.sum))
