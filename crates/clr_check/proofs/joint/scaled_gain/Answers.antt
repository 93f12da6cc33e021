use Rattle.std.proofs.Common.{◌*ℤ◌, ◌∙◌, ap, arith, pos, to_z, of_z}
use mir.Syntax.{w128}
use Rattle.clr_check.specs.JointRows.{most_gain}
use Rattle.clr_check.proofs.JointSums.{small_of, times_fits, times_is, times_size}
use Rattle.clr_check.proofs.Sides.{read_64, read_128}
use Rattle.clr_check.proofs.joint.scaled_gain.Goals as goal

pub overflow_add-past : goal.overflow_add-past
overflow_add-past c = let few = (small_of c.args.season.now c.requires.fits).few in record { fits = omega (arith, few, c.requires.past) }

pub overflow_mul-result : goal.overflow_mul-result
overflow_mul-result c =
    times_fits c.gain-earned.result c.from.result c.from-2.result most_gain c.args.scale
    (ap (λ z. to_z w128 (of_z w128 z)) (c.from.ensures ∙ read_64 c.gain-earned.result most_gain c.gain-earned.ensures.size (omega arith)) ∙ read_128 c.gain-earned.result most_gain c.gain-earned.ensures.size (omega arith)) c.from-2.ensures c.gain-earned.ensures.size (omega arith) c.requires.scale

pub returns-clause-value : goal.returns-clause-value
returns-clause-value c =
    times_is c.gain-earned.result c.from.result c.from-2.result most_gain c.args.scale
    (ap (λ z. to_z w128 (of_z w128 z)) (c.from.ensures ∙ read_64 c.gain-earned.result most_gain c.gain-earned.ensures.size (omega arith)) ∙ read_128 c.gain-earned.result most_gain c.gain-earned.ensures.size (omega arith)) c.from-2.ensures c.gain-earned.ensures.size (omega arith) c.requires.scale
    ∙ ap (λ v. v *ℤ pos c.args.scale) c.gain-earned.ensures.value

pub returns-clause-size : goal.returns-clause-size
returns-clause-size c =
    times_size c.gain-earned.result c.from.result c.from-2.result most_gain c.args.scale
    (ap (λ z. to_z w128 (of_z w128 z)) (c.from.ensures ∙ read_64 c.gain-earned.result most_gain c.gain-earned.ensures.size (omega arith)) ∙ read_128 c.gain-earned.result most_gain c.gain-earned.ensures.size (omega arith)) c.from-2.ensures c.gain-earned.ensures.size (omega arith) c.requires.scale
